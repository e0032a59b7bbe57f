use Rattle.std.proofs.Common.{◌≡◌, ◌-◌, ℕ, [], length, arith, subst}
use Rattle.pair_colours.specs.Naming.{rank_of}
use Rattle.colour_wl.specs.Fusions.{Fuses}
use Rattle.colour_wl.specs.GrowthStrings.{growth_from, growth_strings}
use Rattle.visitors.specs.declared.visitor.Next.TheVariants.{More}
use Rattle.mergings.specs.Cuts.{IsDelivered, IsDeliveredWhole}
use Rattle.mergings.proofs.Deliveries.{cut_either}
use Rattle.mergings.proofs.delivering.first_fusions.Goals as goal

pub returns : goal.returns
returns c =
    let K = c.args.k.now in
    let r : ℕ = rank_of K in
    let new = c.deliver.new.met in
    let z : r - 0 ≡ r = omega arith in
    let front : IsDelivered (Fuses K) (growth_strings r) [] new =
    subst (λ n. IsDelivered (Fuses K) (growth_from [] n) [] new) z
    (subst (λ old. IsDelivered (Fuses K) (growth_from [] (r - 0)) old new) c.requires.empty
    (subst (λ u. IsDelivered (Fuses K) (growth_from u (r - length u)) c.args.met.now new) c.new-string.ensures.items c.in_ok-deliver.ensures.front)) in
    let whole : c.in_ok-deliver.field-0 ≡ More → IsDeliveredWhole (Fuses K) (growth_strings r) [] new = λ m.
    subst (λ n. IsDeliveredWhole (Fuses K) (growth_from [] n) [] new) z
    (subst (λ old. IsDeliveredWhole (Fuses K) (growth_from [] (r - 0)) old new) c.requires.empty
    (subst (λ u. IsDeliveredWhole (Fuses K) (growth_from u (r - length u)) c.args.met.now new) c.new-string.ensures.items (c.in_ok-deliver.ensures.more m))) in
    cut_either (Fuses K) (growth_strings r) c.args.room new c.in_ok-deliver.field-0 front whole c.in_ok-deliver.ensures.left c.in_ok-deliver.ensures.stop
