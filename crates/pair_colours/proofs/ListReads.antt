use Rattle.std.proofs.Common.{◌≡◌, ◌==◌, ltb, ℕ, ◌+◌, ◌*◌, ◌/◌, ◌%◌, ◌<◌, cond, nat_eq, List, length, get_or, Some, None, Option, [], ◌∷◌, ◌++◌, map, take, position, sym, ap, subst, ◌∙◌, arith}
use Rattle.std.specs.List.{position_or_len}
use Rattle.std.proofs.lemmas.Bool.{lt-ltb}
use Rattle.std.proofs.lemmas.List.{get_or_default, map_more}
use Rattle.pair_colours.specs.Colouring.{PairColouring, IsColouring, IsColour, Refines}
use Rattle.pair_colours.specs.Lists.{Determines}
use Rattle.pair_colours.specs.Naming.{colours_met, name_of}
use Rattle.pair_colours.proofs.Places.{place_below, row_below, column_below, at_place, refines_at}
use Rattle.pair_colours.proofs.NamePlaces.{name_of-position}
use Rattle.pair_colours.proofs.Closures.{met_at}

-- a colour of the list is in use
pub IsColour-at : (A : PairColouring) → IsColouring A → (p : ℕ) → p < length A.colours → IsColour A (get_or A.colours p 0)
IsColour-at A h p l =
    let q = subst (λ m. p < m) h.has_pairs l in
    record { x = p / A.size; y = p % A.size; row = row_below A.size p h.has_points q; column = column_below A.size p h.has_points; is = at_place A p }

-- its place among the colours met is its name
pub position_at : (A : PairColouring) → IsColouring A → (xs keys : List ℕ) → xs ≡ A.colours → keys ≡ colours_met A → (i d : ℕ) → i < length xs
    → position (nat_eq (get_or xs i d)) keys ≡ Some (name_of A (get_or xs i d))
position_at A h xs keys e k i d l =
    let here : get_or xs i d ≡ get_or A.colours i 0 = get_or_default xs i d 0 l ∙ ap (λ ys. get_or ys i 0) e in
    let low : i < length A.colours = omega (arith, l, ap length e) in
    let u : IsColour A (get_or xs i d) = subst (IsColour A) (sym here) (IsColour-at A h i low) in
    let c = get_or xs i d in
    let place : position_or_len (λ met. c == met) (colours_met A) ≡ name_of A c = sym (name_of-position A c) in
    ap (position (nat_eq c)) k
    ∙ (λ j. cond (ltb (place j) (length (colours_met A))) (Some (place j)) None)
    ∙ ap (λ b. cond b (Some (name_of A c)) None) (lt-ltb (name_of A c) (length (colours_met A)) (met_at A c u).0)

-- at one size, to refine is to determine the other's list
pub Refines-from_lists : (A B : PairColouring) → IsColouring A → A.size ≡ B.size → Determines A.colours B.colours → Refines A B
Refines-from_lists A B a e d = record {
  sizes = e;
  classes = λ x y u v hx hy hu hv c.
      let p = subst (λ m. x * A.size + y < m) (sym a.has_pairs) (place_below A.size x y hx hy) in
      let q = subst (λ m. u * A.size + v < m) (sym a.has_pairs) (place_below A.size u v hu hv) in
      ap (λ n. get_or B.colours (x * n + y) 0) (sym e) ∙ d.holds (x * A.size + y) (u * A.size + v) p q c ∙ ap (λ n. get_or B.colours (u * n + v) 0) e;
}

pub Determines-from_refines : (A B : PairColouring) → IsColouring A → Refines A B → Determines A.colours B.colours
Determines-from_refines A B a r = record {
  holds = λ j k lj lk e. refines_at A B a r j k (subst (λ m. j < m) a.has_pairs lj) (subst (λ m. k < m) a.has_pairs lk) e;
}

-- a step of the loop that names the colours
pub named_more : (A : PairColouring) (xs : List ℕ) (i d name : ℕ) (old new : List ℕ) (r : Option ℕ) → i < length xs → old ≡ map (name_of A) (take i xs)
    → r ≡ Some (name_of A (get_or xs i d)) → r ≡ Some name → new ≡ old ++ name ∷ [] → new ≡ map (name_of A) (take (i + 1) xs)
named_more A xs i d name old new r l before e f s =
    let n : name ≡ name_of A (get_or xs i d) = cc in
    s ∙ (λ j. before j ++ (n j ∷ [])) ∙ sym (map_more (name_of A) xs i d l)
