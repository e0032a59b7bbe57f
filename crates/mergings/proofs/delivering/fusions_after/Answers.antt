use Rattle.std.proofs.Common.{◌≡◌, ℕ, suc, ◌+◌, ◌-◌, ◌<◌, [], length, take, subst, arith}
use Rattle.pair_colours.specs.Naming.{rank_of}
use Rattle.mergings.specs.Cuts.{IsDeliveredWhole}
use Rattle.colour_wl.specs.Fusions.{FusesAfter}
use Rattle.colour_wl.specs.GrowthStrings.{growth_from, growth_strings}
use Rattle.mergings.proofs.Deliveries.{fuses_or_not, cut_stop}
use Rattle.mergings.proofs.Resuming.{level_whole, level_front, front_of_all}
use Rattle.mergings.proofs.delivering.fusions_after.Goals as goal

pub returns-in-Stop : goal.returns-in-Stop
returns-in-Stop c =
    let K = c.args.k.now in
    let a = c.args.after.now in
    let d : ℕ = c.rank-rank.result - 1 - c.loop-step.step in
    let inside : d < rank_of K = omega (arith, c.loop-step-test.true, c.rank-rank.ensures.value) in
    let up : c.rank-rank.result - c.loop-step.step ≡ suc d = omega (arith, c.loop-step-test.true) in
    let below = subst (λ n. IsDeliveredWhole (FusesAfter K a) (growth_from (take n a) (rank_of K - length (take n a))) [] c.loop-step.met) up c.loop-step.invariant.met in
    cut_stop (FusesAfter K a) (growth_strings (rank_of K)) c.args.room c.deliver_later.new.met
    (front_of_all K a (rank_of K) c.requires.growth (fuses_or_not K c.rank-rank.ensures.configuration) d [] c.deliver_later.new.met (omega (arith, inside))
    (level_front K a (rank_of K) c.requires.growth d [] c.loop-step.met c.deliver_later.new.met inside below c.deliver_later.ensures.front))
    (c.in_ok-deliver_later.ensures.stop c.in-Stop.is)

pub loop-step-preserved : goal.loop-step-preserved
loop-step-preserved c =
    let K = c.args.k.now in
    let a = c.args.after.now in
    let d : ℕ = c.rank-rank.result - 1 - c.loop-step.step in
    let inside : d < rank_of K = omega (arith, c.loop-step-test.true, c.rank-rank.ensures.value) in
    let up : c.rank-rank.result - c.loop-step.step ≡ suc d = omega (arith, c.loop-step-test.true) in
    let down : d ≡ c.rank-rank.result - (c.loop-step.step + 1) = omega (arith, c.loop-step-test.true) in
    let below = subst (λ n. IsDeliveredWhole (FusesAfter K a) (growth_from (take n a) (rank_of K - length (take n a))) [] c.loop-step.met) up c.loop-step.invariant.met in
    record {
      left = c.in_ok-deliver_later.ensures.left c.in-More.is;
      met =
          subst (λ n. IsDeliveredWhole (FusesAfter K a) (growth_from (take n a) (rank_of K - length (take n a))) [] c.deliver_later.new.met) down
          (level_whole K a (rank_of K) c.requires.growth d [] c.loop-step.met c.deliver_later.new.met inside below (c.in_ok-deliver_later.ensures.more c.in-More.is));
    }
