-- The arcs of a set of colours are arcs, and those of the set.
use Rattle.std.proofs.Common.{◌⊎◌, inl, inr, ⊎_elim, ◌≡◌, ◌↔◌, ℕ, ◌+◌, ◌*◌, ◌^◌, ◌<◌, ◌≤◌, Bool, true, false, List, [], ◌∷◌, length, map, refl, sym, subst, ◌∙◌, arith, if◌then◌else◌}
use Rattle.std.specs.Prelude.{IsTrue}
use Rattle.std.proofs.lemmas.List.{length-map, get_or-map}
use Rattle.std.proofs.lemmas.List.Elements.{All-from_recursion}
use Rattle.std.specs.List.{AllByRecursion}
use Rattle.pair_colours.specs.Colouring.{colour_at}
use Rattle.pair_colours.specs.ColourSets.{is_in}
use Rattle.pair_colours.proofs.ColourSets.{colour_set_or_not}
use Rattle.pair_colours.proofs.ListLemmas.{Each-map}
use Rattle.pair_colours.proofs.Places.{place_below}
use Rattle.equitable.specs.Arcs.{IsArcSet, arcs_of}
use Rattle.equitable.specs.Law.{ArcsOfSetsAreArcs, ArcsOfSetsAreTheirs, ArcSetOrNot}

-- 1 or 0
abbrev bit : Bool → ℕ
bit b = if b then 1 else 0

bit-le : (b : Bool) → bit b ≤ 1
bit-le true = omega arith
bit-le false = omega arith

bit_is : (b : Bool) (v : ℕ) → v ≡ bit b → (v ≡ 1) ↔ IsTrue b
bit_is true v e = (λ _. refl, λ _. e)
bit_is false v e = (λ h. absurd (omega (arith, e, h)), λ t. absurd cc)

-- one bound for all numbers of the arcs
bits_below : (colours set : List ℕ) (b : ℕ) → 2 ≤ b → AllByRecursion (λ colour. colour < b) (map (λ colour. bit (is_in set colour)) colours)
bits_below colours set b h = Each-map (λ colour. colour < b) (λ colour. bit (is_in set colour)) colours (each colours)
  where
    each : (cs : List ℕ) → AllByRecursion (λ c. bit (is_in set c) < b) cs
    each [] = tt
    each (c ∷ cs) = (omega (arith, bit-le (is_in set c), h), each cs)

pub arcs_of_sets_are_arcs : ArcsOfSetsAreArcs
arcs_of_sets_are_arcs C set h =
    let f : ℕ → ℕ = λ colour. bit (is_in set colour) in
    record {
      fits = record {
        colouring = record { has_points = h.colouring.has_points; has_pairs = length-map C.colours f ∙ h.colouring.has_pairs };
        limit = h.limit;
        numbers = All-from_recursion (λ colour. colour < 2 ^ 32) (map f C.colours) (bits_below C.colours set (2 ^ 32) (omega arith));
      };
      bits = λ k d l. let low = All-from_recursion (λ colour. colour < 2) (map f C.colours) (bits_below C.colours set 2 (omega arith)) k d l in
          omega (arith, low);
    }

pub arcs_of_sets_are_theirs : ArcsOfSetsAreTheirs
arcs_of_sets_are_theirs C set h = record {
  sizes = refl;
  arcs = λ x y hx hy.
      let f : ℕ → ℕ = λ colour. bit (is_in set colour) in
      let inside : x * C.size + y < length C.colours = subst (λ m. x * C.size + y < m) (sym h.has_pairs) (place_below C.size x y hx hy) in
      bit_is (is_in set (colour_at C x y)) (colour_at (arcs_of C set) x y) (get_or-map f C.colours (x * C.size + y) 0 0 inside);
}

pub arc_set_or_not : ArcSetOrNot
arc_set_or_not C h [] = inr (λ a. omega (arith, a.some))
arc_set_or_not C h (colour ∷ set) = ⊎_elim
    (λ colours. inl (record { some = omega arith; colours = colours }))
    (λ none. inr (λ a. none a.colours))
    (colour_set_or_not C h (colour ∷ set))
