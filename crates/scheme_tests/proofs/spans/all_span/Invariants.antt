use Rattle.std.proofs.Common.{◌≡◌, ℕ, ◌<◌}
use Rattle.scheme_tests.specs.SchemeTests.{Spans}
use Rattle.scheme_tests.proofs.spans.all_span.Given as goal

abbrev pub invariant-loop-class : goal.invariant-loop-class
invariant-loop-class l = (c : ℕ) → c < l.class → (c ≡ l.diagonal → ⊥) → Spans l.k c
