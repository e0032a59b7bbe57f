use Rattle.std.proofs.Common.{◌-◌, true, take, drop, inl, inr}
use Rattle.wl_round.proofs.Swept.{AreMarks-from, IsSweptTo-more, slice_length, slice_at}
use Rattle.wl_round.proofs.sweeping.mark_runs.Goals as goal

pub loop-start-preserved-then-mark_run : goal.loop-start-preserved-then-mark_run
loop-start-preserved-then-mark_run c =
    let places = c.args.places.now in
    let start = c.loop-start.start in
    let end = c.run_end-end.result in
    let run = c.run_end-end.ensures in
    record {
      within = run.within;
      room = c.mark_run.ensures.room;
      swept = IsSweptTo-more c.args.sides.now c.args.numbers.now places c.requires.places start end run c.loop-start.marks c.loop-start.found c.loop-start.invariant.swept
          (take (end - start) (drop start places)) (slice_length places start end run.some run.within) (slice_at places start end run.some run.within)
          c.mark_run.new.marks c.mark_run.result c.mark_run.ensures.marked true (λ f. inr c.if-mark_run.true) (λ f. absurd (cc));
    }

pub loop-start-preserved : goal.loop-start-preserved
loop-start-preserved c =
    let places = c.args.places.now in
    let start = c.loop-start.start in
    let end = c.run_end-end.result in
    let run = c.run_end-end.ensures in
    record {
      within = run.within;
      room = c.mark_run.ensures.room;
      swept = IsSweptTo-more c.args.sides.now c.args.numbers.now places c.requires.places start end run c.loop-start.marks c.loop-start.found c.loop-start.invariant.swept
          (take (end - start) (drop start places)) (slice_length places start end run.some run.within) (slice_at places start end run.some run.within)
          c.mark_run.new.marks c.mark_run.result c.mark_run.ensures.marked c.loop-start.found (λ f. inl f) (λ f. (f, c.if-mark_run.false));
    }

pub returns : goal.returns
returns c =
    AreMarks-from c.args.sides.now c.args.numbers.now c.args.places.now c.loop-start.marks c.loop-start.found c.loop-start.start c.requires.places c.loop-start.invariant.swept
    c.loop-start.invariant.within c.loop-start-test.false
