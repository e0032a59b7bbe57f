use Rattle.std.proofs.Common.{◌≡◌, ◌+◌, ◌≤◌, max, length, take, slice_index, ap, sym, ◌∙◌, arith}
use Rattle.std.proofs.lemmas.List.{take_more, take_all}
use Rattle.std.proofs.lemmas.List.FromFn.{length-range_with_len}
use Rattle.pair_colours.specs.Naming.{first_met}
use Rattle.colour_wl.specs.GrowthStrings.{next_number}
use Rattle.colour_wl.proofs.Growth.{next_number-push}
use Rattle.colour_wl.proofs.NamedMerges.{first_met-growth}
use Rattle.colour_wl.proofs.growing.next_of.Goals as goal
use Rattle.colour_wl.proofs.growing.next_of.Goals.{then-string-i, else-string-i}

pub loop-i-preserved : goal.loop-i-preserved
loop-i-preserved c =
    let a = c.args.string.now in
    let i = c.loop-i.i in
    let h = c.loop-i.invariant in
    let more : next_number (take (i + 1) a) ≡ max (next_number (take i a)) (slice_index a i + 1) = ap next_number (take_more a i 0 c.loop-i-test.true) ∙ next_number-push (take i a) (slice_index a i) in
    let own : slice_index a i ≤ next_number (take i a) = c.requires.growth.grows i c.loop-i-test.true in
    elim c.if-string-i.branch [
      | then-string-i w ↦ record { next = omega (arith, w.next-is, w.if-string-i.true, h.next, more); low = omega (arith, w.next-is, h.low) }
      | else-string-i w ↦ record { next = omega (arith, w.next-is, w.if-string-i.false, h.next, own, more); low = omega (arith, w.next-is, h.low) }
    ]

pub returns-clause-different : goal.returns-clause-different
returns-clause-different c =
    let a = c.args.string.now in
    let all : next_number (take c.loop-i.i a) ≡ next_number a = ap next_number (take_all c.loop-i.i a c.loop-i-test.false) in
    let met : length (first_met a) ≡ next_number a = ap length (first_met-growth (length a) a c.requires.growth) ∙ length-range_with_len 0 (next_number a) in
    c.loop-i.invariant.next ∙ all ∙ sym met
