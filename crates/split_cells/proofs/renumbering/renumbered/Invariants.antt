use Rattle.std.proofs.Common.{◌≡◌, ℕ, ◌<◌, ◌*◌, length}
use Rattle.pair_colours.specs.Colouring.{colour_at}
use Rattle.trace_text.specs.declared.step_list.Step.TheVariants.{Round}
use Rattle.trace_text.specs.Split.{split_of}
use Rattle.split_cells.proofs.renumbering.renumbered.Given as goal

abbrev pub invariant-loop-x : goal.invariant-loop-x
invariant-loop-x l = record {
  size : l.parted.size ≡ l.partition.size;
  len : length l.parted.colours ≡ l.partition.size * l.partition.size;
  rows : (x y : ℕ) → x < l.x → y < l.partition.size → colour_at l.parted x y ≡ colour_at (split_of l.partition Round) x y;
}
