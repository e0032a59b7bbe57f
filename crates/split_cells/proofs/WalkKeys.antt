-- First alike places along the naming walk, in a named round.
use Rattle.std.proofs.Common.{◌≡◌, ◌==◌, nat_lt, ℕ, ◌+◌, ◌*◌, ◌<◌, ◌≤◌, Bool, true, false, cond, not, List, [], ◌∷◌, get_or, map, slice_get, Some, ⊎_elim, refl, sym, ap, subst, ◌∙◌, arith}
use Rattle.std.specs.List.{AllByRecursion, list_any, position_or_len}
use Rattle.std.proofs.lemmas.Bool.{cases_lt}
use Rattle.std.proofs.lemmas.Bool.Decides.{Decides-eqb, Decides-like, same_from_decides}
use Rattle.std.proofs.lemmas.List.Sums.{fails_before_first}
use Rattle.std.proofs.lemmas.Option.{get_or_from_slice_get}
use Rattle.pair_colours.specs.Colouring.{PairColouring, IsColouring, IsColour, colour_at}
use Rattle.pair_colours.specs.Naming.{walk, colours_met, named_of, name_of, first_place_of}
use Rattle.pair_colours.specs.Rounds.{Alike, IsRound, alike, first_alike}
use Rattle.pair_colours.proofs.Closures.{colour_at-named_of}
use Rattle.pair_colours.proofs.Counts.{count_by-map}
use Rattle.pair_colours.proofs.Exists.{Alike-refl, Decides-alike, pair_at, first_is_alike}
use Rattle.pair_colours.proofs.ListLemmas.{Each-weaker}
use Rattle.pair_colours.proofs.Names.{InSquare, Each-walk, list_any-walk}
use Rattle.pair_colours.proofs.NumberedLists.{any_position}
use Rattle.pair_colours.proofs.WalkPlaces.{length-walk}
use Rattle.trace_text.specs.Partition.{IsPartition}
use Rattle.pair_colours.proofs.Below.{below, below-le}
use Rattle.trace_text.proofs.Partitions.{IsPartition-named_of}

-- a pair stands at a place of the walk
pub record StandsAt (P : PairColouring) (place x y : ℕ) : Type 0 where
  pub row : x < P.size
  pub column : y < P.size
  pub is : slice_get (walk P.size) place ≡ Some (x, y)

pub stands_at : (P : PairColouring) (n place : ℕ) (p : ℕ × ℕ) → n ≡ P.size → slice_get (walk n) place ≡ Some p → p.0 < n → p.1 < n → StandsAt P place p.0 p.1
stands_at P n place p points is hx hy = record {
  row = omega (arith, hx, points);
  column = omega (arith, hy, points);
  is = subst (λ (m : ℕ). slice_get (walk m) place ≡ Some p) points is;
}

-- what passes stands no earlier than the first that does
first_place-le : {X : Type 0} (p : X → Bool) (xs : List X) (k : ℕ) (x d : X) → get_or xs k d ≡ x → p x ≡ true → position_or_len p xs ≤ k
first_place-le p xs k x d e t = ⊎_elim
    (λ l. let z : true ≡ false = sym t ∙ ap p (sym e) ∙ fails_before_first p xs k d l in cc)
    (λ l. l)
    (cases_lt k (position_or_len p xs))

-- tests that agree on each element pass first at one place
first_place-agree : {X : Type 0} (p q : X → Bool) (xs : List X) → AllByRecursion (λ x. p x ≡ q x) xs → position_or_len p xs ≡ position_or_len q xs
first_place-agree p q [] a = refl
first_place-agree p q (x ∷ xs) a = λ i. cond (not (a.0 i)) (1 + first_place-agree p q xs a.1 i) 0

module _ (P : PairColouring) where
  at : (place x y : ℕ) → StandsAt P place x y → pair_at P.size place ≡ (x, y)
  at place x y s = get_or_from_slice_get (walk P.size) place (x, y) (0, 0) s.is

  -- the first alike pair stands on the walk
  pub key_inside : (x y : ℕ) → x < P.size → y < P.size → first_alike P x y < P.size * P.size
  key_inside x y hx hy =
      let test : ℕ × ℕ → Bool = λ p. alike P x y p.0 p.1 in
      let some : list_any test (walk P.size) ≡ true = list_any-walk test P.size x y hx hy ((Decides-alike P x y x y).1 (Alike-refl P x y)) in
      omega (arith, any_position test (walk P.size) some, length-walk P.size)

  -- and no later than the pair itself
  pub key-le : (place x y : ℕ) → StandsAt P place x y → first_alike P x y ≤ place
  key-le place x y s = first_place-le (λ p. alike P x y p.0 p.1) (walk P.size) place (x, y) (0, 0) (at place x y s) ((Decides-alike P x y x y).1 (Alike-refl P x y))

  -- a pair whose first alike pair stands at a place is alike to the pair there
  pub key-alike : (place x y u v : ℕ) → StandsAt P place x y → u < P.size → v < P.size → first_alike P u v ≡ place → Alike P u v x y
  key-alike place x y u v s hu hv e =
      let there : pair_at P.size (first_alike P u v) ≡ (x, y) = ap (pair_at P.size) e ∙ at place x y s in
      subst (λ (p : ℕ × ℕ). Alike P u v p.0 p.1) there (first_is_alike P u v hu hv)

module _ (R : PairColouring) (a : IsColouring R) (named : named_of R ≡ R) where
  name_kept : (x y : ℕ) → x < R.size → y < R.size → name_of R (colour_at R x y) ≡ colour_at R x y
  name_kept x y hx hy = sym (colour_at-named_of R a x y hx hy) ∙ ap (λ A. colour_at A x y) named

  -- classes with smaller names are met earlier
  met_earlier : (x y u v : ℕ) → x < R.size → y < R.size → u < R.size → v < R.size → colour_at R x y < colour_at R u v
      → first_place_of R (colour_at R x y) < first_place_of R (colour_at R u v)
  met_earlier x y u v hx hy hu hv l = ⊎_elim
      (λ h. h)
      (λ h.
      let firsts : List ℕ = map (first_place_of R) (colours_met R) in
      let names : (c : ℕ) → below firsts (first_place_of R c) ≡ name_of R c = λ c. count_by-map (λ other. nat_lt other (first_place_of R c)) (first_place_of R) (colours_met R) in
      absurd (omega (
        arith,
        l,
        name_kept x y hx hy,
        name_kept u v hu hv,
        names (colour_at R x y),
        names (colour_at R u v),
        below-le firsts (first_place_of R (colour_at R u v)) (first_place_of R (colour_at R x y)) h,
      )))
      (cases_lt (first_place_of R (colour_at R x y)) (first_place_of R (colour_at R u v)))

  -- each number below a colour is a colour
  colour_below : (x y k : ℕ) → x < R.size → y < R.size → k < colour_at R x y → IsColour R k
  colour_below x y k hx hy l =
      let h : IsPartition R = subst IsPartition named (IsPartition-named_of R a) in
      h.used k (omega (arith, l, h.below x y hx hy))

module _ (P R : PairColouring) (r : IsRound P R) (named : named_of R ≡ R) where
  to : (z : ℕ) → z < P.size → z < R.size
  to z l = omega (arith, l, r.sizes)

  -- the first alike pair is the first of its class
  key_of_class : (x y : ℕ) → x < P.size → y < P.size → first_alike P x y ≡ first_place_of R (colour_at R x y)
  key_of_class x y hx hy =
      let test : ℕ × ℕ → Bool = λ p. alike P x y p.0 p.1 in
      let own : ℕ × ℕ → Bool = λ p. colour_at R p.0 p.1 == colour_at R x y in
      let same : (p : ℕ × ℕ) → InSquare P.size p → test p ≡ own p = λ p l.
      same_from_decides _ _ (Decides-alike P x y p.0 p.1)
      (Decides-like _
      (λ e. r.apart x y p.0 p.1 hx hy l.0 l.1 (sym e))
      (λ e. sym (r.together x y p.0 p.1 hx hy l.0 l.1 e))
      (Decides-eqb (colour_at R p.0 p.1) (colour_at R x y))) in
      first_place-agree test own (walk P.size) (Each-weaker (InSquare P.size) (λ p. test p ≡ own p) same (walk P.size) (Each-walk P.size))
      ∙ ap (λ n. position_or_len own (walk n)) (sym r.sizes)

  -- where all pairs met before a place have colours below a bound, the pair there has one of them, or the bound
  pub colour-le : (place x y bound : ℕ) → StandsAt P place x y
      → ((u v : ℕ) → u < P.size → v < P.size → first_alike P u v < place → colour_at R u v < bound) → colour_at R x y ≤ bound
  colour-le place x y bound s h = ⊎_elim
      (λ l. absurd (above l))
      (λ l. l)
      (cases_lt bound (colour_at R x y))
    where
      above : bound < colour_at R x y → ⊥
      above l =
          let u = colour_below R r.colouring named x y bound (to x s.row) (to y s.column) l in
          let hu : u.x < P.size = omega (arith, u.row, r.sizes) in
          let hv : u.y < P.size = omega (arith, u.column, r.sizes) in
          let earlier = met_earlier R r.colouring named u.x u.y x y u.row u.column (to x s.row) (to y s.column) (omega (arith, u.is, l)) in
          let before : first_alike P u.x u.y < place = omega (arith, earlier, key_of_class u.x u.y hu hv, key_of_class x y s.row s.column, key-le P place x y s) in
          omega (arith, h u.x u.y hu hv before, u.is)
