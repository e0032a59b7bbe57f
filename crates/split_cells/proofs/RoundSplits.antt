-- A partition split by the step `R`: whether it is idle, told by the ranks.
use Rattle.std.proofs.Common.{◌≡◌, ℕ, ◌+◌, ◌*◌, ◌/◌, ◌%◌, ◌<◌, ◌≤◌, length, get_or, ap, ◌∙◌, arith}
use Rattle.pair_colours.specs.Colouring.{PairColouring}
use Rattle.pair_colours.specs.Naming.{rank_of}
use Rattle.pair_colours.specs.Rounds.{first_alike}
use Rattle.pair_colours.proofs.Places.{at_place, row_below, column_below}
use Rattle.trace_text.specs.declared.step_list.Step.TheVariants.{Round}
use Rattle.trace_text.specs.Partition.{IsPartition}
use Rattle.trace_text.specs.Split.{HasParts, later_keys, split_of}
use Rattle.trace_text.proofs.Ranks.{rank_of-le_pairs}
use Rattle.trace_text.proofs.RoundSteps.{rank_of-round}
use Rattle.split_cells.proofs.CellLemmas.{split_idle}

-- the classes are numbers below that of the pairs
pub colours_below : (P : PairColouring) → IsPartition P → (p : ℕ) → p < length P.colours → get_or P.colours p 0 < length P.colours
colours_below P h p l =
    let low : p < P.size * P.size = omega (arith, l, h.colouring.has_pairs) in
    omega (
      arith,
      at_place P p,
      h.below (p / P.size) (p % P.size) (row_below P.size p h.colouring.has_points low) (column_below P.size p h.colouring.has_points),
      rank_of-le_pairs P h.colouring,
      h.colouring.has_pairs,
    )

module _ (P Q : PairColouring) (h : IsPartition P) (is : Q ≡ split_of P Round) where
  rank_is : rank_of Q ≡ rank_of P + length (later_keys P (first_alike P))
  rank_is = ap rank_of is ∙ rank_of-round P h

  -- the rank grows exactly where some class has two parts
  pub parts_where_grown : rank_of P < rank_of Q → HasParts P Round
  parts_where_grown l = omega (arith, l, rank_is)

  pub grown_where_parts : HasParts P Round → rank_of P < rank_of Q
  grown_where_parts parts = omega (arith, parts, rank_is)

  -- and where it does not, the partition is as it was
  pub same_where_idle : rank_of Q ≤ rank_of P → P ≡ split_of P Round
  same_where_idle l = split_idle P Round h.colouring (λ parts. omega (arith, l, grown_where_parts parts))
