use Rattle.std.proofs.Common.{◌≡◌, ℕ, ◌<◌}
use Rattle.pair_colours.specs.Colouring.{colour_at}
use Rattle.scheme_tests.proofs.properties.is_symmetric.Given as goal

abbrev pub invariant-loop-class : goal.invariant-loop-class
invariant-loop-class l = (x y : ℕ) → x < l.k.size → y < l.k.size → colour_at l.k x y < l.class → colour_at l.k y x ≡ colour_at l.k x y
