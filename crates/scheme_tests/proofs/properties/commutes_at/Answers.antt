use Rattle.std.proofs.Common.{refl, arith}
use Rattle.scheme_tests.proofs.TestLemmas.{commutes_from_entries}
use Rattle.scheme_tests.proofs.properties.commutes_at.Goals as goal

pub returns : goal.returns
returns c = (
  λ t. commutes_from_entries c.args.k.now c.args.class c.entries-entry-items.result.now c.entries-entry-items.ensures.row
      (λ a d l. c.loop-entry.invariant a d (omega (arith, l, c.loop-entry-test.false))),
  λ h. refl,
)
