use Rattle.scheme_tests.proofs.TestLemmas.{CommutesBefore}
use Rattle.scheme_tests.proofs.properties.is_commutative.Given as goal

abbrev pub invariant-loop-class : goal.invariant-loop-class
invariant-loop-class l = CommutesBefore l.k l.class
