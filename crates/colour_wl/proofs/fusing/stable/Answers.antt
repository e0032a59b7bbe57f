use Rattle.std.proofs.Common.{Some, sym, subst}
use Rattle.pair_colours.specs.Naming.{rank_of}
use Rattle.colour_wl.specs.Fusions.{merge}
use Rattle.colour_wl.specs.GrowthStrings.{IsGrowth}
use Rattle.colour_wl.proofs.ColourRounds.{IsFiner, fewer_alike, on_the_way-merge}
use Rattle.colour_wl.proofs.ForcedRounds.{on_the_way-forced}
use Rattle.colour_wl.proofs.fusing.stable.Goals as goal

pub loop-current-init : goal.loop-current-init
loop-current-init c = record {
  growth = subst (IsGrowth (rank_of c.args.k.now)) (sym c.in_ok-current.ensures.items) c.requires.string;
  way = on_the_way-merge c.args.k.now c.requires.configuration c.args.a.now c.in_ok-current.current.items c.in_ok-current.ensures.items;
}

pub loop-current-smaller : goal.loop-current-smaller
loop-current-smaller c =
    let K = c.args.k.now in
    let finer = c.in-Some.finer.items in
    let made = subst (λ next. IsFiner K c.deref.result.now next) c.in-Some.is (c.in_ok-finer.ensures.growth, c.in_ok-finer.ensures.forced, c.in_ok-finer.ensures.finer) in
    let at = subst (λ a. IsFiner K a (Some c.in-Some.finer)) c.deref.ensures.value made in
    fewer_alike K c.requires.configuration c.loop-current.current.items finer c.loop-current.invariant.growth at.0 at.1 at.2

pub loop-current-preserved : goal.loop-current-preserved
loop-current-preserved c =
    let K = c.args.k.now in
    let made = subst (λ next. IsFiner K c.deref.result.now next) c.in-Some.is (c.in_ok-finer.ensures.growth, c.in_ok-finer.ensures.forced, c.in_ok-finer.ensures.finer) in
    let at = subst (λ a. IsFiner K a (Some c.in-Some.finer)) c.deref.ensures.value made in
    record {
      growth = at.0;
      way = on_the_way-forced (merge K c.args.a.now) (merge K c.loop-current.current.items) (merge K c.in-Some.finer.items) c.loop-current.invariant.way at.1;
    }
