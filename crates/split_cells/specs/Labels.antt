-- The numbers by which a partition is shown, where its classes have other inner numbers.
use Rattle.std.specs.Prelude.{◌≡◌, ℕ, ◌<◌, ◌≤◌, List, length, map, slice_index}
use Rattle.pair_colours.specs.Colouring.{PairColouring}
use Rattle.trace_text.specs.declared.step_list.Step.{Step}
use Rattle.trace_text.specs.declared.step_list.Step.TheVariants.{Diag, Flip, Tri, Round}

-- two permutations of the numbers below a bound, each the inverse of the other
pub record AreInverse (bound : ℕ) (outer inner : List ℕ) : Type 0 where
  pub outer_len : length outer ≡ bound
  pub inner_len : length inner ≡ bound
  pub outer_in : (k : ℕ) → k < bound → slice_index outer k < bound
  pub inner_in : (v : ℕ) → v < bound → slice_index inner v < bound
  pub back : (k : ℕ) → k < bound → slice_index inner (slice_index outer k) ≡ k
  pub forth : (v : ℕ) → v < bound → slice_index outer (slice_index inner v) ≡ v

-- they are permutations of the numbers below the rank, and leave the others as they are
pub record AreLabels (bound rank : ℕ) (outer inner : List ℕ) : Type 0 where
  pub inverse : AreInverse bound outer inner
  pub rest : (k : ℕ) → rank ≤ k → k < bound → slice_index outer k ≡ k

-- the partition with each class shown by its outer number
abbrev pub shown_by : List ℕ → PairColouring → PairColouring
shown_by outer Q = record { size = Q.size; colours = map (λ k. slice_index outer k) Q.colours }

-- a step with outer numbers in place of the inner ones
abbrev pub step_shown_by : List ℕ → Step → Step
step_shown_by outer (Diag k) = Diag (slice_index outer k)
step_shown_by outer (Flip k other) = Flip (slice_index outer k) (slice_index outer other)
step_shown_by outer (Tri k left right) = Tri (slice_index outer k) (slice_index outer left) (slice_index outer right)
step_shown_by outer Round = Round
