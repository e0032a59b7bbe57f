-- Steps that split one class, with inner numbers and with those that are shown.
use Rattle.std.proofs.Common.{ℕ, List, refl}
use Rattle.pair_colours.specs.Colouring.{PairColouring}
use Rattle.trace_text.specs.declared.step_list.Step.{Step}
use Rattle.trace_text.specs.declared.step_list.Step.TheVariants.{Diag, Flip, Tri, Round}
use Rattle.trace_text.specs.Versions.{HasStep}
use Rattle.split_cells.specs.Labels.{step_shown_by}
use Rattle.split_cells.specs.Faults.{SplitsTwo}

-- a step on one class is shown as one
pub one_class_shown : (outer : List ℕ) (s : Step) → HasStep 1 s → HasStep 1 (step_shown_by outer s)
one_class_shown outer (Diag k) one = tt
one_class_shown outer (Flip k other) one = tt
one_class_shown outer (Tri k left right) one = tt
one_class_shown outer Round one = one

-- and no other is
pub one_class_inner : (outer : List ℕ) (s : Step) → HasStep 1 (step_shown_by outer s) → HasStep 1 s
one_class_inner outer (Diag k) one = tt
one_class_inner outer (Flip k other) one = tt
one_class_inner outer (Tri k left right) one = tt
one_class_inner outer Round one = one

-- a round has no class of its own, so that it does not part two pairs of it
pub SplitsTwo-one_class : (P : PairColouring) (rank : ℕ) (s : Step) → SplitsTwo P rank s → HasStep 1 s
SplitsTwo-one_class P rank (Diag k) f = tt
SplitsTwo-one_class P rank (Flip k other) f = tt
SplitsTwo-one_class P rank (Tri k left right) f = tt
SplitsTwo-one_class P rank Round f = absurd (f.apart refl)
