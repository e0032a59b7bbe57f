use Rattle.std.proofs.Common.{◌≡◌, ◌^◌, ◌<◌, List, ℕ, take, flat_map, Bor, All}
use Rattle.pair_colours.proofs.coloured_pairs.joined.Given as goal

abbrev pub invariant-loop-row : goal.invariant-loop-row
invariant-loop-row l = record {
  rows : l.numbers.items ≡ flat_map (λ (row : Bor (List ℕ)). row.now) (take l.row-index l.rows);
  small : All (λ number. number < 2 ^ 32) l.numbers.items;
}
