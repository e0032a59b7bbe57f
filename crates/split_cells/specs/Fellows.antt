-- Pairs of one class, compared by codes.
use Rattle.std.specs.Prelude.{◌≡◌, ℕ, ◌+◌, ◌*◌, ◌/◌, ◌%◌, ◌<◌, List, slice_index}
use Rattle.trace_text.specs.declared.step_list.Step.{Step}
use Rattle.trace_text.specs.declared.step_list.Step.TheVariants.{Tri}
use Rattle.split_cells.specs.declared.classed_pairs.ClassedPairs.{ClassedPairs}
use Rattle.split_cells.specs.declared.codes.Codes.{Codes}
use Rattle.split_cells.specs.Segments.{bound_of, class_at}
use Rattle.split_cells.specs.Codes.{code_count}

-- q is a pair of the class of p
pub record AreFellows (pairs : ClassedPairs) (p q : ℕ) : Type 0 where
  pub inside : q < bound_of pairs.parting
  pub same : class_at pairs.parting q ≡ class_at pairs.parting p

-- the counts are those of the codes of the pair at place p
pub record HasCodeCounts (pairs : ClassedPairs) (codes : Codes) (p : ℕ) (counts : List ℕ) : Type 0 where
  pub is : (code : ℕ) → slice_index counts code ≡ code_count pairs.size codes (p / pairs.size) (p % pairs.size) code

-- the step by the classes over z of the pair at place p
abbrev pub triangle_over : ClassedPairs → ℕ → ℕ → Step
triangle_over pairs p z = Tri (class_at pairs.parting p) (class_at pairs.parting (p / pairs.size * pairs.size + z)) (class_at pairs.parting (z * pairs.size + p % pairs.size))
