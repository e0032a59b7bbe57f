-- Marks on the pairs of a class.
use Rattle.std.specs.Prelude.{◌==◌, ℕ, slice_index, if◌then◌else◌}
use Rattle.split_cells.specs.declared.classed_pairs.ClassedPairs.{ClassedPairs}

-- mark 1 where the transposed pair is in this class
abbrev pub mark_at : ClassedPairs → ℕ → ℕ → ℕ
mark_at pairs other p = if slice_index pairs.turned.items p == other then 1 else 0
