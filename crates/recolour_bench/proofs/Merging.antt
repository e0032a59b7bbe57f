-- The pairs get the colours of a string, place by place.
use Rattle.std.proofs.Common.{◌≡◌, ℕ, ◌*◌, ◌<◌, ◌≤◌, List, length, get_or, map, slice_index, sym, ◌∙◌, arith}
use Rattle.std.proofs.lemmas.Grind.{same_number_lists}
use Rattle.std.proofs.lemmas.List.{length-map, get_or-map}
use Rattle.pair_colours.specs.Colouring.{PairColouring, IsColouring}
use Rattle.struct_consts.specs.ClassData.{IsConfiguration, HasColoursBelow}
use Rattle.colour_wl.specs.Fusions.{merge}
use Rattle.colour_wl.proofs.Classes.{colour_at-below}
use Rattle.pair_colours.specs.Naming.{rank_of}

-- the places before p have the merged colours, and the others are as they were
pub record IsMergedTo (C N : PairColouring) (string : List ℕ) (p : ℕ) : Type 0 where
  pub size : N.size ≡ C.size
  pub len : length N.colours ≡ length C.colours
  pub before : (k : ℕ) → k < p → get_or N.colours k 0 ≡ slice_index string (get_or C.colours k 0)
  pub after : (k : ℕ) → p ≤ k → get_or N.colours k 0 ≡ get_or C.colours k 0

-- all places are merged
pub IsMergedTo-end : (C N : PairColouring) (string : List ℕ) (p : ℕ) → IsColouring C → p ≡ C.size * C.size → IsMergedTo C N string p → N ≡ merge C string
IsMergedTo-end C N string p c e h = λ i. record { size = h.size i; colours = colours i }
  where
    len : length N.colours ≡ length (map (slice_index string) C.colours)
    len = h.len ∙ sym (length-map C.colours (slice_index string))

    colours : N.colours ≡ map (slice_index string) C.colours
    colours =
        same_number_lists N.colours (map (slice_index string) C.colours) len
        (λ k l. h.before k (omega (arith, l, e, h.len, c.has_pairs)) ∙ sym (get_or-map (slice_index string) C.colours k 0 0 (omega (arith, l, h.len))))

-- a string as long as the rank has a colour for each pair
pub HasColoursBelow-string : (K : PairColouring) (string : List ℕ) → IsConfiguration K → length string ≡ rank_of K → HasColoursBelow K (length string)
HasColoursBelow-string K string k e = record { below = λ x y hx hy. omega (arith, colour_at-below K k x y hx hy, e) }
