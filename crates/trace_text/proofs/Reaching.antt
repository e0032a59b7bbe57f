-- Every partition reaches a coherent one by splits.
use Rattle.std.proofs.Common.{◌≡◌, ◌==◌, ◌&&◌, ℕ, suc, zero, ◌+◌, ◌*◌, ◌<◌, ◌≤◌, Bool, true, false, List, [], ◌∷◌, All, ◌⊎◌, inl, inr, ⊎_elim, refl, sym, ap, subst, ◌∙◌, arith, if◌then◌else◌}
use Rattle.std.specs.List.{AllByRecursion}
use Rattle.std.proofs.lemmas.Bool.{cases_eq, cases_Bool, eqb-true, eqb-false, eq-eqb, and_cases, false≢true}
use Rattle.std.proofs.lemmas.List.Elements.{All-nil, All-cons}
use Rattle.pair_colours.specs.Colouring.{PairColouring, colour_at, triangles}
use Rattle.pair_colours.specs.Closure.{Coherent}
use Rattle.pair_colours.specs.Naming.{rank_of}
use Rattle.pair_colours.specs.Rounds.{Alike, same_over, alike}
use Rattle.pair_colours.proofs.Counts.{unit_of}
use Rattle.pair_colours.proofs.Exists.{Decides-alike}
use Rattle.pair_colours.proofs.Few.{colours_met-le}
use Rattle.pair_colours.proofs.Names.{named_of-same}
use Rattle.pair_colours.proofs.Places.{Refines-refl}
use Rattle.pair_colours.proofs.Reaching.{each_below}
use Rattle.trace_text.specs.declared.step_list.Step.{Step}
use Rattle.trace_text.specs.declared.step_list.Step.TheVariants.{Diag, Flip, Tri}
use Rattle.trace_text.specs.Partition.{IsPartition}
use Rattle.trace_text.specs.Split.{key_in_class, key_of, split_of, numbers_of, IsAllowed, Lead}
use Rattle.trace_text.specs.Versions.{HasStep}
use Rattle.trace_text.proofs.Partitions.{rank_of-named_of}
use Rattle.trace_text.proofs.Parting.{two_keys}
use Rattle.trace_text.proofs.Splits.{coherent_below_split, IsPartition-split_of, rank_grows, split_of-refines}

-- a step on one class that may be made
abbrev Found : PairColouring → Type 0
Found P = (s : Step) × IsAllowed P s × HasStep 1 s

-- the key of a test
abbrev zero_where : Bool → ℕ
zero_where b = if b then 0 else 1

same_bool : (a b : Bool) → zero_where a ≡ zero_where b → a ≡ b
same_bool true true e = refl
same_bool false false e = refl
same_bool true false e = absurd (omega (arith, e))
same_bool false true e = absurd (omega (arith, e))

-- a failed test over the points shows a point
over_fails : (P : PairColouring) (x y u v m : ℕ) → m ≤ P.size → same_over P x y u v m ≡ false
    → (z : ℕ) × (z < P.size) × (triangles P x y (colour_at P x z) (colour_at P z y) ≡ triangles P u v (colour_at P x z) (colour_at P z y) → ⊥)
over_fails P x y u v zero l h = absurd (false≢true (sym h))
over_fails P x y u v (suc m) l h =
    let again = over_fails P x y u v m (omega (arith, l)) in
    ⊎_elim (λ a. (m, omega (arith, l), eqb-false _ _ a)) (λ b. again b)
    (and_cases (triangles P x y (colour_at P x m) (colour_at P m y) == triangles P u v (colour_at P x m) (colour_at P m y)) (same_over P x y u v m) h)

-- two pairs of one colour that are not alike show a step
step_from : (P : PairColouring) → IsPartition P → (x y u v : ℕ) → x < P.size → y < P.size → u < P.size → v < P.size
    → colour_at P x y ≡ colour_at P u v → alike P x y u v ≡ false → Found P
step_from P h x y u v hx hy hu hv e differ = ⊎_elim
    (λ d. found (Diag k) tt (All-cons Low k [] low (All-nil Low)) (λ q. eqb-false _ _ d (ap unit_of (same_bool (x == y) (u == v) (sym (at_x (λ a b. if a == b then 0 else 1)) ∙ q ∙ at_u (λ a b. if a == b then 0 else 1))))))
    (λ r. ⊎_elim
    (λ r1. ⊎_elim
    (λ o. absurd (eqb-false _ _ o e))
    (λ t. found (Flip k (colour_at P y x)) tt (All-cons Low k (colour_at P y x ∷ []) low (All-cons Low (colour_at P y x) [] (h.below y x hy hx) (All-nil Low)))
    (λ q. eqb-false _ _ t (sym (eqb-true _ _ (sym (same_bool (colour_at P y x == colour_at P y x) (colour_at P v u == colour_at P y x) (sym (at_x (λ a b. if colour_at P b a == colour_at P y x then 0 else 1)) ∙ q ∙ at_u (λ a b. if colour_at P b a == colour_at P y x then 0 else 1))) ∙ eq-eqb _ _ refl)))))
    (and_cases (colour_at P x y == colour_at P u v) (colour_at P y x == colour_at P v u) r1))
    (λ r2. ⊎_elim
    (λ a. let z = over_fails P x y u v P.size (omega arith) a in
    over (colour_at P x z.0) (colour_at P z.0 y) (h.below x z.0 hx z.1) (h.below z.0 y z.1 hy) z.2)
    (λ b. let z = over_fails P u v x y P.size (omega arith) b in
    over (colour_at P u z.0) (colour_at P z.0 v) (h.below u z.0 hu z.1) (h.below z.0 v z.1 hv) (λ q. z.2 (sym q)))
    (and_cases (same_over P x y u v P.size) (same_over P u v x y P.size) r2))
    (and_cases ((colour_at P x y == colour_at P u v) && (colour_at P y x == colour_at P v u)) (same_over P x y u v P.size && same_over P u v x y P.size) r))
    (and_cases (unit_of (x == y) == unit_of (u == v)) (((colour_at P x y == colour_at P u v) && (colour_at P y x == colour_at P v u)) && (same_over P x y u v P.size && same_over P u v x y P.size)) differ)
  where
    k : ℕ
    k = colour_at P x y

    Low : ℕ → Type 0
    Low = λ number. number < rank_of P

    low : colour_at P x y < rank_of P
    low = h.below x y hx hy

    found : (s : Step) → HasStep 1 s → All (λ number. number < rank_of P) (numbers_of s) → (key_of P s x y ≡ key_of P s u v → ⊥) → Found P
    found s one_class names ne = (s, record { names = names; parts = two_keys P (key_of P s) x y u v hx hy hu hv e ne }, one_class)

    at_x : (key : ℕ → ℕ → ℕ) → key_in_class P (colour_at P x y) key x y ≡ key x y
    at_x key = ap (λ b. if b then key x y else 0) (eq-eqb (colour_at P x y) (colour_at P x y) refl)

    at_u : (key : ℕ → ℕ → ℕ) → key_in_class P (colour_at P x y) key u v ≡ key u v
    at_u key = ap (λ b. if b then key u v else 0) (eq-eqb (colour_at P u v) (colour_at P x y) (sym e))

    over : (i j : ℕ) → i < rank_of P → j < rank_of P → (triangles P x y i j ≡ triangles P u v i j → ⊥) → Found P
    over i j li lj ne = found (Tri (colour_at P x y) i j) tt
        (All-cons Low (colour_at P x y) (i ∷ j ∷ []) low (All-cons Low i (j ∷ []) li (All-cons Low j [] lj (All-nil Low))))
        (λ q. ne (sym (at_x (λ a b. triangles P a b i j)) ∙ q ∙ at_u (λ a b. triangles P a b i j)))

-- pairs of one colour are alike
abbrev pub AlikeWhereSame : PairColouring → ℕ → ℕ → ℕ → ℕ → Type 0
AlikeWhereSame P x y u v = colour_at P x y ≡ colour_at P u v → Alike P x y u v

alike_or_step : (P : PairColouring) → IsPartition P → (x y u v : ℕ) → x < P.size → y < P.size → u < P.size → v < P.size → AlikeWhereSame P x y u v ⊎ Found P
alike_or_step P h x y u v hx hy hu hv = ⊎_elim
    (λ e. ⊎_elim
    (λ t. inl (λ _. (Decides-alike P x y u v).0 t))
    (λ f. inr (step_from P h x y u v hx hy hu hv e f))
    (cases_Bool (alike P x y u v)))
    (λ ne. inl (λ e. absurd (ne e)))
    (cases_eq (colour_at P x y) (colour_at P u v))

-- each number below n has a property, or there is a Q
each_or : (A : ℕ → Type 0) (Q : Type 0) (n : ℕ) → ((k : ℕ) → k < n → A k ⊎ Q) → ((k : ℕ) → k < n → A k) ⊎ Q
each_or A Q n h = ⊎_elim (λ all. inl all) (λ s. inr s.2) (each_below A (λ _. Q) n h)

pub coherent_from : (P : PairColouring) → ((x : ℕ) → x < P.size → (y : ℕ) → y < P.size → (u : ℕ) → u < P.size → (v : ℕ) → v < P.size → AlikeWhereSame P x y u v) → Coherent P
coherent_from P all = record {
  splits_diagonal = λ x u v hx hu hv e. (all x hx x hx u hu v hv e).diagonal.0 refl;
  closed_under_transpose = λ x y u v hx hy hu hv e. (all x hx y hy u hu v hv e).turned;
  constant_triangles = λ x y u v hx hy hu hv e. (all x hx y hy u hu v hv e).counts;
}

-- a partition is coherent, or a step may be made on it
pub coherent_or_step : (P : PairColouring) → IsPartition P → Coherent P ⊎ Found P
coherent_or_step P h = ⊎_elim (λ all. inl (coherent_from P all)) (λ s. inr s)
    (each_or (λ x. (y : ℕ) → y < P.size → (u : ℕ) → u < P.size → (v : ℕ) → v < P.size → AlikeWhereSame P x y u v) (Found P) P.size
    (λ x hx. each_or (λ y. (u : ℕ) → u < P.size → (v : ℕ) → v < P.size → AlikeWhereSame P x y u v) (Found P) P.size
    (λ y hy. each_or (λ u. (v : ℕ) → v < P.size → AlikeWhereSame P x y u v) (Found P) P.size
    (λ u hu. each_or (λ v. AlikeWhereSame P x y u v) (Found P) P.size
    (λ v hv. alike_or_step P h x y u v hx hy hu hv)))))

-- no step splits a coherent partition
pub coherent_no_step : (P : PairColouring) → IsPartition P → Coherent P → (s : Step) → IsAllowed P s → ⊥
coherent_no_step P h c s a =
    let r = coherent_below_split P P s h.colouring c (Refines-refl P) in
    let d = IsPartition-split_of P s h in
    let e : rank_of P ≡ rank_of (split_of P s) =
    sym (rank_of-named_of P h.colouring) ∙ ap rank_of (named_of-same P (split_of P s) h.colouring d.colouring r (split_of-refines P s h)) ∙ rank_of-named_of (split_of P s) d.colouring in
    omega (arith, e, rank_grows P s h a)

-- steps on one class each to a coherent partition
abbrev pub Led : PairColouring → Type 0
Led P = (steps : List Step) × (P2 : PairColouring) × IsPartition P2 × Coherent P2 × Lead steps P P2 × AllByRecursion (HasStep 1) steps

go_on : (P : PairColouring) → IsPartition P → ((P1 : PairColouring) → IsPartition P1 → P1.size ≡ P.size → rank_of P < rank_of P1 → Led P1) → Led P
go_on P h again = ⊎_elim
    (λ c. ([], P, h, c, refl, tt))
    (λ f.
    let rest = again (split_of P f.0) (IsPartition-split_of P f.0 h) refl (rank_grows P f.0 h f.1) in
    (f.0 ∷ rest.0, rest.1, rest.2, rest.3, (f.1, rest.4), (f.2, rest.5)))
    (coherent_or_step P h)

steps_from : (n fuel : ℕ) (P : PairColouring) → IsPartition P → P.size ≡ n → n + n * n ≤ rank_of P + fuel → Led P
steps_from n zero P h e f = go_on P h (λ P1 h1 s less.
    let most : rank_of P1 ≤ n + n * n = subst (λ z. rank_of P1 ≤ z + z * z) (s ∙ e) (colours_met-le P1) in absurd (omega (arith, most, less, f)))
steps_from n (suc fuel) P h e f =
    let again = steps_from n fuel in
    go_on P h (λ P1 h1 s less. again P1 h1 (s ∙ e) (omega (arith, less, f)))

pub steps_exist : (P : PairColouring) → IsPartition P → Led P
steps_exist P h = steps_from P.size (P.size + P.size * P.size) P h refl (omega arith)
