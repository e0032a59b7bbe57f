-- Colourings refine one another or not, are coherent or not, and are equal or not.
use Rattle.std.proofs.Common.{◌≡◌, ℕ, ◌<◌, Bool, true, false, List, length, get_or, All, Decides, ◌⊎◌, inl, inr, ⊎_elim, sym, ap, ◌∙◌, arith}
use Rattle.std.proofs.lemmas.Bool.{cases_eq, cases_lt, cases_Bool}
use Rattle.std.proofs.lemmas.List.Elements.{All-from_get_or}
use Rattle.std.proofs.lemmas.Slice.Eq.{bytes_eq-Decides}
use Rattle.std.specs.Str.{bytes_eq}
use Rattle.pair_colours.specs.Colouring.{PairColouring, Refines, colour_at}
use Rattle.pair_colours.specs.Closure.{Coherent}
use Rattle.pair_colours.specs.Rounds.{Alike, alike}
use Rattle.pair_colours.proofs.Exists.{Decides-alike}
use Rattle.pair_colours.proofs.Reaching.{all_below}
use Rattle.trace_text.proofs.Reaching.{AlikeWhereSame, coherent_from}

-- what a test decides holds or not
decided : (P : Type 0) (test : Bool) → Decides test P → P ⊎ ¬ P
decided P test d = ⊎_elim (λ t. inl (d.0 t)) (λ f. inr (λ p. let z : true ≡ false = sym (d.1 p) ∙ f in cc)) (cases_Bool test)

-- all pairs of pairs have a property, or not all
all_pairs : (n : ℕ) (R : ℕ → ℕ → ℕ → ℕ → Type 0) → ((x y u v : ℕ) → x < n → y < n → u < n → v < n → R x y u v ⊎ ¬ R x y u v)
    → ((x : ℕ) → x < n → (y : ℕ) → y < n → (u : ℕ) → u < n → (v : ℕ) → v < n → R x y u v)
    ⊎ ¬ ((x : ℕ) → x < n → (y : ℕ) → y < n → (u : ℕ) → u < n → (v : ℕ) → v < n → R x y u v)
all_pairs n R h =
    all_below (λ x. (y : ℕ) → y < n → (u : ℕ) → u < n → (v : ℕ) → v < n → R x y u v) n
    (λ x hx. all_below (λ y. (u : ℕ) → u < n → (v : ℕ) → v < n → R x y u v) n
    (λ y hy. all_below (λ u. (v : ℕ) → v < n → R x y u v) n
    (λ u hu. all_below (λ v. R x y u v) n (λ v hv. h x y u v hx hy hu hv))))

-- an implication between properties that are decided
implied : (A B : Type 0) → A ⊎ ¬ A → B ⊎ ¬ B → (A → B) ⊎ ¬ (A → B)
implied A B a b = ⊎_elim
    (λ h. ⊎_elim (λ k. inl (λ _. k)) (λ k. inr (λ f. k (f h))) b)
    (λ h. inl (λ x. absurd (h x)))
    a

pub refines_or_not : (A B : PairColouring) → Refines A B ⊎ ¬ Refines A B
refines_or_not A B = ⊎_elim
    (λ e. ⊎_elim
    (λ all. inl (record { sizes = e; classes = λ x y u v hx hy hu hv. all x hx y hy u hu v hv }))
    (λ none. inr (λ r. none (λ x hx y hy u hu v hv. r.classes x y u v hx hy hu hv)))
    (all_pairs A.size (λ x y u v. colour_at A x y ≡ colour_at A u v → colour_at B x y ≡ colour_at B u v)
    (λ x y u v hx hy hu hv.
    implied (colour_at A x y ≡ colour_at A u v) (colour_at B x y ≡ colour_at B u v) (cases_eq (colour_at A x y) (colour_at A u v)) (cases_eq (colour_at B x y) (colour_at B u v)))))
    (λ ne. inr (λ r. ne r.sizes))
    (cases_eq A.size B.size)

-- coherent is where pairs of one colour are alike
pub coherent_or_not : (P : PairColouring) → Coherent P ⊎ ¬ Coherent P
coherent_or_not P = ⊎_elim
    (λ all. inl (coherent_from P all))
    (λ none. inr (λ h. none (λ x hx y hy u hu v hv e. record {
      diagonal = (
        λ d. h.splits_diagonal x u v hx hu hv (ap (colour_at P x) d ∙ e),
        λ d. h.splits_diagonal u x y hu hx hy (ap (colour_at P u) d ∙ sym e),
      );
      own = e;
      turned = h.closed_under_transpose x y u v hx hy hu hv e;
      counts = h.constant_triangles x y u v hx hy hu hv e;
    })))
    (all_pairs P.size (AlikeWhereSame P)
    (λ x y u v hx hy hu hv.
    implied (colour_at P x y ≡ colour_at P u v) (Alike P x y u v) (cases_eq (colour_at P x y) (colour_at P u v)) (decided (Alike P x y u v) (alike P x y u v) (Decides-alike P x y u v))))

pub all_below_or_not : (r : ℕ) (ks : List ℕ) → All (λ k. k < r) ks ⊎ ¬ All (λ k. k < r) ks
all_below_or_not r ks = ⊎_elim
    (λ all. inl (All-from_get_or (λ k. k < r) ks 0 all))
    (λ none. inr (λ all. none (λ k l. all k 0 l)))
    (all_below (λ k. get_or ks k 0 < r) (length ks)
    (λ k l. ⊎_elim (λ m. inl m) (λ m. inr (λ n. omega (arith, m, n))) (cases_lt (get_or ks k 0) r)))

pub same_or_not : (A B : PairColouring) → (A ≡ B) ⊎ ¬ (A ≡ B)
same_or_not A B = ⊎_elim
    (λ e. ⊎_elim
    (λ f. inl (λ i. record { size = e i; colours = f i }))
    (λ ne. inr (λ s. ne (ap (λ (C : PairColouring). C.colours) s)))
    (decided (A.colours ≡ B.colours) (bytes_eq A.colours B.colours) (bytes_eq-Decides A.colours B.colours)))
    (λ ne. inr (λ s. ne (ap (λ (C : PairColouring). C.size) s)))
    (cases_eq A.size B.size)
