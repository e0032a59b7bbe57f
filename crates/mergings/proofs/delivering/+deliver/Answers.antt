use Rattle.std.proofs.Common.{◌≡◌, suc, ◌+◌, ◌-◌, ◌<◌, ◌≤◌, [], ◌∷◌, ◌++◌, length, take, vec_len, refl, sym, ap, subst, ◌∙◌, arith}
use Rattle.std.proofs.lemmas.Bool.{both_ways}
use Rattle.std.proofs.lemmas.List.{length_push, take_at}
use Rattle.pair_colours.specs.Naming.{rank_of}
use Rattle.mergings.specs.Cuts.{IsDelivered, IsDeliveredWhole}
use Rattle.colour_wl.specs.Fusions.{Fuses}
use Rattle.colour_wl.specs.GrowthStrings.{IsGrowth, next_number, growth_from}
use Rattle.mergings.proofs.Deliveries.{fuses_or_not, branches, branch, all_branches, no_branches, leaf_no, front_none, front_stop, front_more, front_from_whole, whole_more, next_small}
use Rattle.colour_wl.proofs.Growth.{next_number-push, IsGrowth-push}
use Rattle.mergings.proofs.delivering.+deliver.Goals as goal
use Rattle.mergings.proofs.delivering.+deliver.Goals.{then-number-next, else-number-next}

pub returns-in_err-is_fusion-clause-front : goal.returns-in_err-is_fusion-clause-front
returns-in_err-is_fusion-clause-front t c = front_none (Fuses c.args.k.now) (fuses_or_not c.args.k.now c.requires.configuration) _ c.args.met.now

pub returns-then-len-rank-clause-front : goal.returns-then-len-rank-clause-front
returns-then-len-rank-clause-front t c = front_none (Fuses c.args.k.now) (fuses_or_not c.args.k.now c.requires.configuration) _ c.args.met.now

pub returns-then-len-rank-clause-more : goal.returns-then-len-rank-clause-more
returns-then-len-rank-clause-more t c = λ _.
    let K = c.args.k.now in
    let u = c.args.string.now.items in
    let met = c.args.met.now in
    let end : length u ≡ rank_of K = omega (arith, c.if-len-rank.true, c.len.ensures, c.rank.ensures.value, c.deref.ensures.len, ap length c.deref.ensures.value) in
    subst (λ all. IsDeliveredWhole (Fuses K) all met met) (sym (no_branches (rank_of K) u end))
    (leaf_no (Fuses K) u met (λ p. both_ways _ c.if-branch.false (c.in_ok-is_fusion.ensures.1 (subst (Fuses K) (sym c.deref.ensures.value) p))))

pub overflow_add-number-end : goal.overflow_add-number-end
overflow_add-number-end t c = omega (arith, c.requires.next, next_small (length c.args.string.now.items) c.args.string.now.items c.requires.growth, c.requires.long, c.if-len-rank.false, c.len.ensures, c.rank.ensures.value, c.rank.type_inv)

pub returns-in_err-push-clause-front : goal.returns-in_err-push-clause-front
returns-in_err-push-clause-front t c =
    let K = c.args.k.now in
    let u = c.args.string.now.items in
    let inside : length u < rank_of K = omega (arith, c.if-len-rank.false, c.len.ensures, c.rank.ensures.value, c.requires.long) in
    subst (λ all. IsDelivered (Fuses K) all c.args.met.now c.loop-number.met) (sym (all_branches (rank_of K) u inside))
    (front_stop (Fuses K) (fuses_or_not K c.requires.configuration) (rank_of K) u c.loop-number.number (next_number u + 1) c.args.met.now c.loop-number.met (omega (arith, c.loop-number-test.true, c.requires.next)) c.loop-number.invariant.met)

pub deliver-requires : goal.deliver-requires
deliver-requires t c =
    let K = c.args.k.now in
    let u = c.args.string.now.items in
    let v = c.loop-number.number in
    let inside : length u < rank_of K = omega (arith, c.if-len-rank.false, c.len.ensures, c.rank.ensures.value, c.requires.long) in
    let pushed : c.push.new.self.items ≡ u ++ v ∷ [] = c.in_ok-push.ensures.items ∙ ap (λ l. l ++ v ∷ []) c.loop-number.invariant.string in
    let len : suc (length u) ≡ length (u ++ v ∷ []) = omega (arith, length_push u v) in
    let small : v ≤ next_number u = omega (arith, c.loop-number-test.true, c.requires.next) in
    let above : c.if-number-next.above ≡ next_number (u ++ v ∷ []) =
    elim c.if-number-next.branch [
      | then-number-next w ↦ omega (arith, w.above-is, w.if-number-next.true, c.requires.next, next_number-push u v)
      | else-number-next w ↦ omega (arith, w.above-is, w.if-number-next.false, small, c.requires.next, next_number-push u v)
    ] in
    let growth = subst (λ m. IsGrowth m (u ++ v ∷ [])) len (IsGrowth-push (length u) u v c.requires.growth small) in (
      omega (arith, c.decreases, len, inside, ap length pushed),
      (
        c.requires.small,
        (
          c.requires.table,
          (
            c.requires.goods,
            (
              c.requires.configuration,
              (
                subst (λ l. IsGrowth (length l) l) (sym pushed) growth,
                (
                  above ∙ ap next_number (sym pushed),
                  (
                    omega (arith, ap length pushed, len, inside),
                    c.loop-number.invariant.left,
                  ),
                ),
              ),
            ),
          ),
        ),
      ),
    )

pub returns-in_err-deliver-clause-front : goal.returns-in_err-deliver-clause-front
returns-in_err-deliver-clause-front t c =
    let K = c.args.k.now in
    let u = c.args.string.now.items in
    let v = c.loop-number.number in
    let inside : length u < rank_of K = omega (arith, c.if-len-rank.false, c.len.ensures, c.rank.ensures.value, c.requires.long) in
    let pushed : c.push.new.self.items ≡ u ++ v ∷ [] = c.in_ok-push.ensures.items ∙ ap (λ l. l ++ v ∷ []) c.loop-number.invariant.string in
    let front : IsDelivered (Fuses K) (branch (rank_of K) u v) c.loop-number.met c.deliver.new.met = subst (λ l. IsDelivered (Fuses K) (growth_from l (rank_of K - length l)) c.loop-number.met c.deliver.new.met) pushed c.deliver.ensures.front in
    subst (λ all. IsDelivered (Fuses K) all c.args.met.now c.deliver.new.met) (sym (all_branches (rank_of K) u inside))
    (front_more (Fuses K) (fuses_or_not K c.requires.configuration) (rank_of K) u v (next_number u + 1) c.args.met.now c.loop-number.met c.deliver.new.met (omega (arith, c.loop-number-test.true, c.requires.next)) c.loop-number.invariant.met front)

pub returns-in-Stop-clause-front : goal.returns-in-Stop-clause-front
returns-in-Stop-clause-front t c =
    let K = c.args.k.now in
    let u = c.args.string.now.items in
    let v = c.loop-number.number in
    let inside : length u < rank_of K = omega (arith, c.if-len-rank.false, c.len.ensures, c.rank.ensures.value, c.requires.long) in
    let pushed : c.push.new.self.items ≡ u ++ v ∷ [] = c.in_ok-push.ensures.items ∙ ap (λ l. l ++ v ∷ []) c.loop-number.invariant.string in
    let front : IsDelivered (Fuses K) (branch (rank_of K) u v) c.loop-number.met c.deliver.new.met = subst (λ l. IsDelivered (Fuses K) (growth_from l (rank_of K - length l)) c.loop-number.met c.deliver.new.met) pushed c.deliver.ensures.front in
    subst (λ all. IsDelivered (Fuses K) all c.args.met.now c.deliver.new.met) (sym (all_branches (rank_of K) u inside))
    (front_more (Fuses K) (fuses_or_not K c.requires.configuration) (rank_of K) u v (next_number u + 1) c.args.met.now c.loop-number.met c.deliver.new.met (omega (arith, c.loop-number-test.true, c.requires.next)) c.loop-number.invariant.met front)

pub loop-number-preserved : goal.loop-number-preserved
loop-number-preserved t c =
    let K = c.args.k.now in
    let u = c.args.string.now.items in
    let v = c.loop-number.number in
    let pushed : c.push.new.self.items ≡ u ++ v ∷ [] = c.in_ok-push.ensures.items ∙ ap (λ l. l ++ v ∷ []) c.loop-number.invariant.string in
    let kept : c.deliver.new.string.items ≡ u ++ v ∷ [] = c.in_ok-deliver.ensures.string c.in-More.is ∙ pushed in
    let whole : IsDeliveredWhole (Fuses K) (branch (rank_of K) u v) c.loop-number.met c.deliver.new.met = subst (λ l. IsDeliveredWhole (Fuses K) (growth_from l (rank_of K - length l)) c.loop-number.met c.deliver.new.met) pushed (c.in_ok-deliver.ensures.more c.in-More.is) in
    let long : vec_len c.deliver.new.string - 1 ≡ length u = omega (arith, ap length kept, length_push u v, c.deliver.new.string.ok) in
    record {
      string = c.pop.ensures.rest ∙ (λ i. take (long i) (kept i)) ∙ take_at u (v ∷ []) (length u) refl;
      left = c.in_ok-deliver.ensures.left c.in-More.is;
      met = whole_more (Fuses K) (rank_of K) u v c.args.met.now c.loop-number.met c.deliver.new.met c.loop-number.invariant.met whole;
    }

pub returns-clause-front : goal.returns-clause-front
returns-clause-front t c =
    let K = c.args.k.now in
    let u = c.args.string.now.items in
    let inside : length u < rank_of K = omega (arith, c.if-len-rank.false, c.len.ensures, c.rank.ensures.value, c.requires.long) in
    let end : c.loop-number.number ≡ next_number u + 1 = omega (arith, c.loop-number-test.false, c.loop-number.auto.number-end, c.requires.next) in
    subst (λ all. IsDelivered (Fuses K) all c.args.met.now c.loop-number.met) (sym (all_branches (rank_of K) u inside))
    (front_from_whole (Fuses K) (branches (rank_of K) u (next_number u + 1)) c.args.met.now c.loop-number.met
    (subst (λ n. IsDeliveredWhole (Fuses K) (branches (rank_of K) u n) c.args.met.now c.loop-number.met) end c.loop-number.invariant.met))

pub returns-clause-more : goal.returns-clause-more
returns-clause-more t c = λ _.
    let K = c.args.k.now in
    let u = c.args.string.now.items in
    let inside : length u < rank_of K = omega (arith, c.if-len-rank.false, c.len.ensures, c.rank.ensures.value, c.requires.long) in
    let end : c.loop-number.number ≡ next_number u + 1 = omega (arith, c.loop-number-test.false, c.loop-number.auto.number-end, c.requires.next) in
    subst (λ all. IsDeliveredWhole (Fuses K) all c.args.met.now c.loop-number.met) (sym (all_branches (rank_of K) u inside))
    (subst (λ n. IsDeliveredWhole (Fuses K) (branches (rank_of K) u n) c.args.met.now c.loop-number.met) end c.loop-number.invariant.met)

pub returns-in_err-extensions-clause-front : goal.returns-in_err-extensions-clause-front
returns-in_err-extensions-clause-front t c = front_none (Fuses c.args.k.now) (fuses_or_not c.args.k.now c.requires.configuration) _ c.args.met.now

pub overflow_add-above : goal.overflow_add-above
overflow_add-above t c = omega (arith, c.requires.next, next_small (length c.args.string.now.items) c.args.string.now.items c.requires.growth, c.requires.long, c.requires.small)

pub extensions-requires-clause-growth : goal.extensions-requires-clause-growth
extensions-requires-clause-growth t c = subst (λ l. IsGrowth (length l) l) (sym c.deref-2.ensures.value) c.requires.growth

pub extensions-requires-clause-prefix : goal.extensions-requires-clause-prefix
extensions-requires-clause-prefix t c = omega (arith, ap length c.deref-2.ensures.value, c.requires.long)
