use Rattle.std.proofs.Common.{◌≡◌, ◌+◌, length, ap, subst, ◌∙◌, arith}
use Rattle.std.proofs.lemmas.List.{length_push, get_or_default}
use Rattle.pair_colours.proofs.NumberedLists.{NumbersTo, NumbersTo-more, Determines-from_numbers, small_numbers}
use Rattle.pair_colours.proofs.numbering.numbers_of.Goals as goal

pub loop-i-preserved : goal.loop-i-preserved
loop-i-preserved c = record {
  made = ap length c.in_ok-push.ensures.items ∙ length_push c.loop-i.numbers.items c.in_ok-number.number ∙ ap (λ k. k + 1) c.loop-i.invariant.made;
  numbered =
      NumbersTo-more c.args.codes.now c.loop-i.seen.keys c.insert_full.new.self.keys c.loop-i.numbers.items c.push.new.self.items c.loop-i.i _ c.in_ok-number.number
      c.loop-i.invariant.numbered c.loop-i.invariant.made (get_or_default c.args.codes.now c.loop-i.i _ 0 c.loop-i-test.true)
      c.in_ok-number.ensures.keys c.in_ok-number.ensures.index c.in_ok-push.ensures.items;
}

pub returns-clause-small : goal.returns-clause-small
returns-clause-small c =
    let e : c.loop-i.i ≡ length c.args.codes.now = omega arith in
    small_numbers c.args.codes.now c.loop-i.seen.keys c.loop-i.numbers.items
    (subst (NumbersTo c.args.codes.now c.loop-i.seen.keys c.loop-i.numbers.items) e c.loop-i.invariant.numbered) (c.loop-i.invariant.made ∙ e) c.requires

pub returns-clause-apart : goal.returns-clause-apart
returns-clause-apart c =
    let e : c.loop-i.i ≡ length c.args.codes.now = omega arith in
    Determines-from_numbers c.args.codes.now c.loop-i.seen.keys c.loop-i.numbers.items
    (subst (NumbersTo c.args.codes.now c.loop-i.seen.keys c.loop-i.numbers.items) e c.loop-i.invariant.numbered) (c.loop-i.invariant.made ∙ e)
