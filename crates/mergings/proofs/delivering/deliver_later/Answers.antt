use Rattle.std.proofs.Common.{◌≡◌, suc, ◌+◌, ◌-◌, ◌≤◌, [], ◌∷◌, ◌++◌, length, take, vec_len, slice_index, refl, sym, ap, subst, ◌∙◌, arith}
use Rattle.std.specs.List.{range_with_len}
use Rattle.std.proofs.lemmas.List.{length_push, take_at}
use Rattle.pair_colours.specs.Naming.{rank_of}
use Rattle.mergings.specs.Cuts.{IsDelivered, IsDeliveredWhole}
use Rattle.colour_wl.specs.Fusions.{Fuses}
use Rattle.colour_wl.specs.GrowthStrings.{IsGrowth, next_number, growth_from}
use Rattle.colour_wl.proofs.Growth.{IsGrowth-push, IsGrowth-take}
use Rattle.mergings.proofs.Deliveries.{fuses_or_not, branch, front_none, front_from_whole, next_small}
use Rattle.mergings.proofs.Resuming.{over, later_init, later_more, later_stop, later_front, above_more}
use Rattle.mergings.proofs.delivering.deliver_later.Goals as goal
use Rattle.mergings.proofs.delivering.deliver_later.Goals.{then-number-next, else-number-next}

pub returns-in_err-string-clause-front : goal.returns-in_err-string-clause-front
returns-in_err-string-clause-front c = front_none (Fuses c.args.k.now) (fuses_or_not c.args.k.now c.requires.configuration) _ c.args.met.now

pub overflow_add-first : goal.overflow_add-first
overflow_add-first c =
    let a = c.args.after.now in
    let d = c.args.depth in
    omega (arith, c.requires.growth.grows d c.requires.depth, next_small d (take d a) (IsGrowth-take (rank_of c.args.k.now) d a c.requires.growth (omega (arith, c.requires.depth))), c.requires.depth, c.rank-first.ensures.value, c.rank-first.type_inv)

pub overflow_add-number-end : goal.overflow_add-number-end
overflow_add-number-end c =
    let a = c.args.after.now in
    let d = c.args.depth in
    omega (arith, c.next_of-next.ensures.next, ap next_number (c.deref.ensures.value ∙ c.in_ok-string.ensures.items), next_small d (take d a) (IsGrowth-take (rank_of c.args.k.now) d a c.requires.growth (omega (arith, c.requires.depth))), c.requires.depth, c.rank-first.ensures.value, c.rank-first.type_inv)

pub loop-number-init : goal.loop-number-init
loop-number-init c = record {
  string = c.in_ok-string.ensures.items;
  left = c.requires.room;
  met = later_init (Fuses c.args.k.now) (rank_of c.args.k.now) (take c.args.depth c.args.after.now) (slice_index c.args.after.now c.args.depth) (next_number (take c.args.depth c.args.after.now)) c.args.met.now;
}

pub returns-in_err-push-clause-front : goal.returns-in_err-push-clause-front
returns-in_err-push-clause-front c =
    let K = c.args.k.now in
    let u = take c.args.depth c.args.after.now in
    let next : c.next_of-next.result ≡ next_number u = c.next_of-next.ensures.next ∙ ap next_number (c.deref.ensures.value ∙ c.in_ok-string.ensures.items) in
    later_stop (Fuses K) (rank_of K) u (slice_index c.args.after.now c.args.depth) (next_number u) (fuses_or_not K c.requires.configuration) c.loop-number.number c.args.met.now c.loop-number.met
    c.loop-number.auto.number (omega (arith, c.loop-number-test.true, next)) c.loop-number.invariant.met

pub deliver-requires-clause-next : goal.deliver-requires-clause-next
deliver-requires-clause-next c =
    let u = take c.args.depth c.args.after.now in
    let v = c.loop-number.number in
    let next : c.next_of-next.result ≡ next_number u = c.next_of-next.ensures.next ∙ ap next_number (c.deref.ensures.value ∙ c.in_ok-string.ensures.items) in
    let pushed : c.push.new.self.items ≡ u ++ v ∷ [] = c.in_ok-push.ensures.items ∙ ap (λ l. l ++ v ∷ []) c.loop-number.invariant.string in
    let low : v ≤ c.next_of-next.result = omega (arith, c.loop-number-test.true) in
    let above : c.if-number-next.above ≡ next_number (u ++ v ∷ []) =
    elim c.if-number-next.branch [
      | then-number-next w ↦ above_more u c.next_of-next.result v c.if-number-next.above next low (λ _. w.above-is) (λ q. absurd (q w.if-number-next.true))
      | else-number-next w ↦ above_more u c.next_of-next.result v c.if-number-next.above next low (λ q. absurd (w.if-number-next.false q)) (λ _. w.above-is)
    ] in
    above ∙ ap next_number (sym pushed)

pub returns-in_err-deliver-clause-front : goal.returns-in_err-deliver-clause-front
returns-in_err-deliver-clause-front c =
    let K = c.args.k.now in
    let u = take c.args.depth c.args.after.now in
    let v = c.loop-number.number in
    let next : c.next_of-next.result ≡ next_number u = c.next_of-next.ensures.next ∙ ap next_number (c.deref.ensures.value ∙ c.in_ok-string.ensures.items) in
    let pushed : c.push.new.self.items ≡ u ++ v ∷ [] = c.in_ok-push.ensures.items ∙ ap (λ l. l ++ v ∷ []) c.loop-number.invariant.string in
    let front : IsDelivered (Fuses K) (branch (rank_of K) u v) c.loop-number.met c.deliver.new.met = subst (λ l. IsDelivered (Fuses K) (growth_from l (rank_of K - length l)) c.loop-number.met c.deliver.new.met) pushed c.deliver.ensures.front in
    later_front (Fuses K) (rank_of K) u (slice_index c.args.after.now c.args.depth) (next_number u) (fuses_or_not K c.requires.configuration) v c.args.met.now c.loop-number.met c.deliver.new.met
    c.loop-number.auto.number (omega (arith, c.loop-number-test.true, next)) c.loop-number.invariant.met front

pub returns-in-Stop-clause-front : goal.returns-in-Stop-clause-front
returns-in-Stop-clause-front c =
    let K = c.args.k.now in
    let u = take c.args.depth c.args.after.now in
    let v = c.loop-number.number in
    let next : c.next_of-next.result ≡ next_number u = c.next_of-next.ensures.next ∙ ap next_number (c.deref.ensures.value ∙ c.in_ok-string.ensures.items) in
    let pushed : c.push.new.self.items ≡ u ++ v ∷ [] = c.in_ok-push.ensures.items ∙ ap (λ l. l ++ v ∷ []) c.loop-number.invariant.string in
    let front : IsDelivered (Fuses K) (branch (rank_of K) u v) c.loop-number.met c.deliver.new.met = subst (λ l. IsDelivered (Fuses K) (growth_from l (rank_of K - length l)) c.loop-number.met c.deliver.new.met) pushed c.deliver.ensures.front in
    later_front (Fuses K) (rank_of K) u (slice_index c.args.after.now c.args.depth) (next_number u) (fuses_or_not K c.requires.configuration) v c.args.met.now c.loop-number.met c.deliver.new.met
    c.loop-number.auto.number (omega (arith, c.loop-number-test.true, next)) c.loop-number.invariant.met front

pub loop-number-preserved : goal.loop-number-preserved
loop-number-preserved c =
    let K = c.args.k.now in
    let u = take c.args.depth c.args.after.now in
    let v = c.loop-number.number in
    let pushed : c.push.new.self.items ≡ u ++ v ∷ [] = c.in_ok-push.ensures.items ∙ ap (λ l. l ++ v ∷ []) c.loop-number.invariant.string in
    let kept : c.deliver.new.string.items ≡ u ++ v ∷ [] = c.in_ok-deliver.ensures.string c.in-More.is ∙ pushed in
    let whole : IsDeliveredWhole (Fuses K) (branch (rank_of K) u v) c.loop-number.met c.deliver.new.met = subst (λ l. IsDeliveredWhole (Fuses K) (growth_from l (rank_of K - length l)) c.loop-number.met c.deliver.new.met) pushed (c.in_ok-deliver.ensures.more c.in-More.is) in
    let long : vec_len c.deliver.new.string - 1 ≡ length u = omega (arith, ap length kept, length_push u v, c.deliver.new.string.ok) in
    record {
      string = c.pop.ensures.rest ∙ (λ i. take (long i) (kept i)) ∙ take_at u (v ∷ []) (length u) refl;
      left = c.in_ok-deliver.ensures.left c.in-More.is;
      met = later_more (Fuses K) (rank_of K) u (slice_index c.args.after.now c.args.depth) (next_number u) v c.args.met.now c.loop-number.met c.deliver.new.met c.loop-number.auto.number c.loop-number.invariant.met whole;
    }

pub returns-clause-front : goal.returns-clause-front
returns-clause-front c =
    let K = c.args.k.now in
    let a = c.args.after.now in
    let u = take c.args.depth a in
    let v = slice_index a c.args.depth in
    let own : v ≤ next_number u = c.requires.growth.grows c.args.depth c.requires.depth in
    let next : c.next_of-next.result ≡ next_number u = c.next_of-next.ensures.next ∙ ap next_number (c.deref.ensures.value ∙ c.in_ok-string.ensures.items) in
    let most : c.loop-number.number ≤ c.next_of-next.result + 1 = c.loop-number.auto.number-end (omega (arith, own, next)) in
    let count : c.loop-number.number - (v + 1) ≡ next_number u - v = omega (arith, most, c.loop-number-test.false, next, own) in
    front_from_whole (Fuses K) _ c.args.met.now c.loop-number.met
    (subst (λ n. IsDeliveredWhole (Fuses K) (over (rank_of K) u (range_with_len (v + 1) n)) c.args.met.now c.loop-number.met) count c.loop-number.invariant.met)

pub next_of-next-requires-clause-growth : goal.next_of-next-requires-clause-growth
next_of-next-requires-clause-growth c =
    let d = c.args.depth in
    let a = c.args.after.now in
    let u = take d a in
    let is : c.deref.result.now ≡ u = c.deref.ensures.value ∙ c.in_ok-string.ensures.items in
    let growth = IsGrowth-take (rank_of c.args.k.now) d a c.requires.growth (omega (arith, c.requires.depth)) in
    subst (λ l. IsGrowth (length l) l) (sym is) (subst (λ m. IsGrowth m u) (sym growth.len) growth)

pub next_of-next-requires-clause-short : goal.next_of-next-requires-clause-short
next_of-next-requires-clause-short c =
    let d = c.args.depth in
    let a = c.args.after.now in
    let u = take d a in
    let is : c.deref.result.now ≡ u = c.deref.ensures.value ∙ c.in_ok-string.ensures.items in
    let growth = IsGrowth-take (rank_of c.args.k.now) d a c.requires.growth (omega (arith, c.requires.depth)) in
    omega (arith, ap length is, growth.len, c.requires.depth, c.requires.small)

pub overflow_add-above : goal.overflow_add-above
overflow_add-above c =
    let d = c.args.depth in
    let a = c.args.after.now in
    let u = take d a in
    let is : c.deref.result.now ≡ u = c.deref.ensures.value ∙ c.in_ok-string.ensures.items in
    let growth = IsGrowth-take (rank_of c.args.k.now) d a c.requires.growth (omega (arith, c.requires.depth)) in
    omega (arith, c.next_of-next.ensures.next, ap next_number is, next_small d u growth, c.requires.depth, c.requires.small)

pub deliver-requires-clause-growth : goal.deliver-requires-clause-growth
deliver-requires-clause-growth c =
    let d = c.args.depth in
    let a = c.args.after.now in
    let u = take d a in
    let is : c.deref.result.now ≡ u = c.deref.ensures.value ∙ c.in_ok-string.ensures.items in
    let growth = IsGrowth-take (rank_of c.args.k.now) d a c.requires.growth (omega (arith, c.requires.depth)) in
    let v = c.loop-number.number in
    let pushed : c.push.new.self.items ≡ u ++ v ∷ [] = c.in_ok-push.ensures.items ∙ ap (λ l. l ++ v ∷ []) c.loop-number.invariant.string in
    let small : v ≤ next_number u = omega (arith, c.loop-number-test.true, c.next_of-next.ensures.next, ap next_number is) in
    let len : suc d ≡ length (u ++ v ∷ []) = omega (arith, length_push u v, growth.len) in
    subst (λ l. IsGrowth (length l) l) (sym pushed) (subst (λ m. IsGrowth m (u ++ v ∷ [])) len (IsGrowth-push d u v growth small))

pub deliver-requires-clause-long : goal.deliver-requires-clause-long
deliver-requires-clause-long c =
    let d = c.args.depth in
    let a = c.args.after.now in
    let u = take d a in
    let is : c.deref.result.now ≡ u = c.deref.ensures.value ∙ c.in_ok-string.ensures.items in
    let growth = IsGrowth-take (rank_of c.args.k.now) d a c.requires.growth (omega (arith, c.requires.depth)) in
    let v = c.loop-number.number in
    let pushed : c.push.new.self.items ≡ u ++ v ∷ [] = c.in_ok-push.ensures.items ∙ ap (λ l. l ++ v ∷ []) c.loop-number.invariant.string in
    omega (arith, ap length pushed, length_push u v, growth.len, c.requires.depth)

pub returns-clause-more : goal.returns-clause-more
returns-clause-more c = λ _.
    let K = c.args.k.now in
    let a = c.args.after.now in
    let u = take c.args.depth a in
    let v = slice_index a c.args.depth in
    let own : v ≤ next_number u = c.requires.growth.grows c.args.depth c.requires.depth in
    let next : c.next_of-next.result ≡ next_number u = c.next_of-next.ensures.next ∙ ap next_number (c.deref.ensures.value ∙ c.in_ok-string.ensures.items) in
    let most : c.loop-number.number ≤ c.next_of-next.result + 1 = c.loop-number.auto.number-end (omega (arith, own, next)) in
    let count : c.loop-number.number - (v + 1) ≡ next_number u - v = omega (arith, most, c.loop-number-test.false, next, own) in
    subst (λ n. IsDeliveredWhole (Fuses K) (over (rank_of K) u (range_with_len (v + 1) n)) c.args.met.now c.loop-number.met) count c.loop-number.invariant.met
