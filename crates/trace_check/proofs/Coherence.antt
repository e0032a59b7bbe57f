-- What the test for a step that is not idle says of coherence.
use Rattle.std.proofs.Common.{◌≡◌, ◌↔◌, Bool, true, false, not, refl, arith}
use Rattle.std.specs.Prelude.{Option, Some, None, IfSome, IfNone, IsTrue, is_some}
use Rattle.pair_colours.specs.Colouring.{PairColouring}
use Rattle.pair_colours.specs.Closure.{Coherent}
use Rattle.pair_colours.proofs.Places.{Refines-refl}
use Rattle.trace_text.specs.declared.step_list.Step.{Step}
use Rattle.trace_text.specs.Partition.{IsPartition}
use Rattle.trace_text.specs.Split.{IsAllowed, split_of}
use Rattle.trace_text.proofs.Splits.{coherent_below_split, rank_grows}
use Rattle.trace_text.proofs.Ranks.{rank_of-le_finer}

-- no step may be made on a coherent partition
pub allowed_not_coherent : (P : PairColouring) (s : Step) → IsPartition P → IsAllowed P s → ¬ Coherent P
allowed_not_coherent P s h a = λ c.
    omega (arith, rank_grows P s h a, rank_of-le_finer P (split_of P s) h.colouring (coherent_below_split P P s h.colouring c (Refines-refl P)))

-- so it is coherent exactly where no step was found
pub none_found : (P : PairColouring) (found : Option Step) (none : Bool) → IsPartition P → IfSome found (λ s. IsAllowed P s) → IfNone found (Coherent P)
    → is_some found ≡ not none → IsTrue none ↔ Coherent P
none_found P None true h allowed coherent e = (λ _. coherent, λ _. refl)
none_found P None false h allowed coherent e = absurd cc
none_found P (Some s) true h allowed coherent e = absurd cc
none_found P (Some s) false h allowed coherent e = (λ t. absurd cc, λ c. absurd (allowed_not_coherent P s h allowed c))
