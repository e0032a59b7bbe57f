-- A relation that is read has raw colours.
use Rattle.std.proofs.Common.{◌==◌, ◌<◌, ◌≤◌, ◌+◌, ◌*◌, ◌/◌, ◌%◌, ℕ, Bool, true, false, List, length, get_or, subst, arith, if◌then◌else◌}
use Rattle.std.specs.Prelude.{All, IfOk, Result}
use Rattle.std.proofs.lemmas.Result.{IfOk-weaker}
use Rattle.std.proofs.lemmas.Option.{slice_get-get_or}
use Rattle.std.proofs.lemmas.List.Elements.{All-from_get_or}
use Rattle.text_lines.specs.Part.{Part}
use Rattle.pair_colours.specs.Colouring.{PairColouring, IsRawColouring, colour_at}
use Rattle.pair_colours.specs.declared.coloured_pairs.TheConstants.{MOST_COLOUR}
use Rattle.pair_colours.proofs.Places.{at_place, row_below, column_below}
use Rattle.relation_text.specs.Relation.{IsRelation, IsRelationText, pair_colour, bit_at}
use Rattle.relation_text.specs.Relation.IsRelation.{graph, digraph, matrix}
use Rattle.relation_text.proofs.GraphReadings.{colour_at-graph, colour_at-digraph, edge_bit}

pair_colour-small : (i j : ℕ) (bit : Bool) → pair_colour i j bit ≤ 3
pair_colour-small i j bit = by (i == j) bit
  where
    by : (d b : Bool) → (if d then (if b then 3 else 0) else (if b then 1 else 2)) ≤ 3
    by true true = omega arith
    by true false = omega arith
    by false true = omega arith
    by false false = omega arith

small_pair : (chosen : Part) (rows : List Part) (C : PairColouring) → IsRelation chosen rows C → (x y : ℕ) → x < C.size → y < C.size → colour_at C x y ≤ MOST_COLOUR
small_pair chosen rows C (graph h) x y hx hy = omega (arith, colour_at-graph chosen.bytes C h x y hx hy, pair_colour-small x y (edge_bit h.bits x y))
small_pair chosen rows C (digraph h) x y hx hy = omega (arith, colour_at-digraph chosen.bytes C h x y hx hy, pair_colour-small x y (bit_at h.bits (x * C.size + y)))
small_pair chosen rows C (matrix h) x y hx hy =
    let inside : x < length rows = omega (arith, hx, h.enough) in
    (h.row x (get_or rows x chosen) hx (slice_get-get_or rows x chosen inside)).limit y hy

-- each pair's colour is a raw one
pub raw_colours : (text : List ℕ) (line : ℕ) (C : PairColouring) → IsRelationText text line C → All (λ colour. colour ≤ MOST_COLOUR) C.colours
raw_colours text line C h = All-from_get_or (λ colour. colour ≤ MOST_COLOUR) C.colours 0 small
  where
    small : (p : ℕ) → p < length C.colours → get_or C.colours p 0 ≤ MOST_COLOUR
    small p l =
        let inside : p < C.size * C.size = subst (λ (n : ℕ). p < n) h.colouring.has_pairs l in
        subst (λ (c : ℕ). c ≤ MOST_COLOUR) (at_place C p)
        (small_pair h.chosen h.rows C h.relation (p / C.size) (p % C.size) (row_below C.size p h.colouring.has_points inside) (column_below C.size p h.colouring.has_points))

-- so it is a raw colouring
pub reading_is_raw : (text : List ℕ) (line : ℕ) (C : PairColouring) → IsRelationText text line C → IsRawColouring C
reading_is_raw text line C h =
    let raw = raw_colours text line C h in
    record {
      fits = record { colouring = h.colouring; limit = h.limit; numbers = λ k d l. omega (arith, raw k d l) };
      raw = raw;
    }

pub raw-read : {E : Type 0} (text : List ℕ) (line : ℕ) (result : Result PairColouring E) → IfOk result (IsRelationText text line) → IfOk result (λ C. All (λ colour. colour ≤ MOST_COLOUR) C.colours)
raw-read text line result read = IfOk-weaker result (IsRelationText text line) (λ C. All (λ colour. colour ≤ MOST_COLOUR) C.colours) (raw_colours text line) read
