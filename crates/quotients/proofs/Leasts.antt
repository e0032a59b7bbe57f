-- Classes of a closed set and their least points.
use Rattle.std.proofs.Common.{◌≡◌, ◌==◌, ℕ, ◌<◌, Bool, true, false, List, get_or, All, refl, sym, subst, ◌∙◌, arith}
use Rattle.std.proofs.lemmas.Bool.{eqb-true, eq-eqb}
use Rattle.std.proofs.lemmas.List.Elements.{All-from_get_or}
use Rattle.pair_colours.specs.Colouring.{PairColouring, colour_at}
use Rattle.pair_colours.specs.ClosedSet.{IsClosedSet}
use Rattle.quotients.specs.Quotient.{least_of}
use Rattle.quotients.specs.Steps.{AreLeasts}
use Rattle.quotients.proofs.Points.{first_within, first_agree}

pub bool_same : (a b : Bool) → (a ≡ true → b ≡ true) → (b ≡ true → a ≡ true) → a ≡ b
bool_same true b f g = sym (f refl)
bool_same false true f g = g refl
bool_same false false f g = refl

module _ (K : PairColouring) (S : ℕ → Bool) (h : IsClosedSet K S) where
  -- the least point of a class is in it
  pub least_in : (x : ℕ) → x < K.size → (least_of K S x < K.size) × (S (colour_at K x (least_of K S x)) ≡ true)
  least_in x l = first_within (λ y. S (colour_at K x y)) K.size x l (h.reflexive x l)

  -- points of one class have one least point
  pub least_same : (x y : ℕ) → x < K.size → y < K.size → S (colour_at K x y) ≡ true → least_of K S x ≡ least_of K S y
  least_same x y hx hy e =
      first_agree (λ z. S (colour_at K x z)) (λ z. S (colour_at K y z)) K.size x hx (h.reflexive x hx)
      (λ z l. bool_same _ _
      (λ a. h.transitive y x z hy hx l (h.symmetric x y hx hy e) a)
      (λ a. h.transitive x y z hx hy l e a))

  pub same_least : (x y : ℕ) → x < K.size → y < K.size → least_of K S x ≡ least_of K S y → S (colour_at K x y) ≡ true
  same_least x y hx hy e =
      let a = least_in x hx in
      let b = least_in y hy in
      h.transitive x (least_of K S x) y hx a.0 hy a.1
      (subst (λ z. S (colour_at K z y) ≡ true) (sym e) (h.symmetric y (least_of K S y) hy b.0 b.1))

  -- so the set tells whether least points are one
  pub member_tells : (x y : ℕ) → x < K.size → y < K.size → S (colour_at K x y) ≡ (least_of K S x == least_of K S y)
  member_tells x y hx hy = bool_same _ _
      (λ e. eq-eqb _ _ (least_same x y hx hy e))
      (λ e. same_least x y hx hy (eqb-true _ _ e))

  pub least_least : (x : ℕ) → x < K.size → least_of K S (least_of K S x) ≡ least_of K S x
  least_least x l = let a = least_in x l in sym (least_same x (least_of K S x) l a.0 a.1)

-- where the set tells whether numbers of the points are one, it is closed
pub closed_from_tells : (K : PairColouring) (S : ℕ → Bool) (number : ℕ → ℕ)
    → ((x y : ℕ) → x < K.size → y < K.size → S (colour_at K x y) ≡ (number x == number y)) → IsClosedSet K S
closed_from_tells K S number tells = record {
  reflexive = λ x hx. tells x x hx hx ∙ eq-eqb (number x) (number x) refl;
  symmetric = λ x y hx hy e. tells y x hy hx ∙ eq-eqb (number y) (number x) (sym (eqb-true _ _ (sym (tells x y hx hy) ∙ e)));
  transitive = λ x y z hx hy hz e f.
      tells x z hx hz ∙ eq-eqb (number x) (number z) (eqb-true _ _ (sym (tells x y hx hy) ∙ e) ∙ eqb-true _ _ (sym (tells y z hy hz) ∙ f));
}

-- the tests of the rows, each with the list of least points, tell whether the set is closed
abbrev pub TellsRow : PairColouring → (ℕ → Bool) → List ℕ → ℕ → Type 0
TellsRow K S leasts x = (y : ℕ) → y < K.size → S (colour_at K x y) ≡ (get_or leasts x 0 == get_or leasts y 0)

pub closed_from_rows : (K : PairColouring) (S : ℕ → Bool) (leasts : List ℕ) → ((x : ℕ) → x < K.size → TellsRow K S leasts x) → IsClosedSet K S
closed_from_rows K S leasts rows = closed_from_tells K S (λ x. get_or leasts x 0) (λ x y hx hy. rows x hx y hy)

pub row_from_closed : (K : PairColouring) (S : ℕ → Bool) (leasts : List ℕ) → AreLeasts K S leasts → IsClosedSet K S → (x : ℕ) → x < K.size → TellsRow K S leasts x
row_from_closed K S leasts a h x hx y hy = member_tells K S h x y hx hy ∙ (λ i. sym (a.is x hx) i == sym (a.is y hy) i)

-- least points of a closed set are points
pub leasts_below : (K : PairColouring) (S : ℕ → Bool) (leasts : List ℕ) → AreLeasts K S leasts → IsClosedSet K S → All (λ least. least < K.size) leasts
leasts_below K S leasts a h =
    All-from_get_or (λ least. least < K.size) leasts 0
    (λ i l. let m : i < K.size = omega (arith, l, a.len) in subst (λ z. z < K.size) (sym (a.is i m)) (least_in K S h i m).0)
