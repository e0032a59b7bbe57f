use Rattle.std.proofs.Common.{length, get_or, refl, arith}
use Rattle.neighbour_answers.proofs.GrowthSteps.{next_after, number_low}
use Rattle.neighbour_answers.proofs.ring_answers.least_above.Goals as goal
use Rattle.neighbour_answers.proofs.ring_answers.least_above.Goals.{then-next-number, else-next-number}

pub loop-number-preserved : goal.loop-number-preserved
loop-number-preserved c =
    let numbers = c.args.numbers.now in
    let i = c.loop-number.number-index in
    let next = c.loop-number.next in
    let number = get_or numbers i 0 in
    let low = number_low (length numbers) i next number numbers c.requires.growth c.loop-number-test.true c.loop-number.invariant.next refl in
    let after = next_after i next number numbers c.loop-number-test.true c.loop-number.invariant.next refl in
    elim c.if-next-number.branch [
      | then-next-number w ↦ record {
        next = omega (arith, w.next-is, low, after, w.if-next-number.true);
        few = omega (arith, w.next-is, c.loop-number.invariant.few);
      }
      | else-next-number w ↦ record {
        next = omega (arith, w.next-is, low, after, w.if-next-number.false);
        few = omega (arith, w.next-is, c.loop-number.invariant.few);
      }
    ]
