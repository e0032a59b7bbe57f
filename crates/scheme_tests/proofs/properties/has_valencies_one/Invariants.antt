use Rattle.std.proofs.Common.{◌≡◌, ℕ, ◌<◌}
use Rattle.struct_consts.specs.ClassData.{valency_of}
use Rattle.scheme_tests.proofs.properties.has_valencies_one.Given as goal

abbrev pub invariant-loop-class : goal.invariant-loop-class
invariant-loop-class l = (c : ℕ) → c < l.class → valency_of l.k c ≡ 1
