use Rattle.std.proofs.Common.{◌≡◌, ◌∷◌, ◌++◌, [], sym, ap, subst, ◌∙◌, arith, if◌then◌else◌}
use Rattle.std.specs.List.{list_any, position_or_len}
use Rattle.std.proofs.lemmas.Slice.Eq.{bytes_eq-Decides}
use Rattle.pair_colours.specs.Naming.{rank_of}
use Rattle.pair_colours.specs.IntersectionNumber.{pair_of_class}
use Rattle.colour_wl.specs.Fusions.{merge}
use Rattle.colour_wl.proofs.Codes.{the_signature}
use Rattle.colour_wl.proofs.ColourRounds.{is_key, class_signature, IsRound-numbered_classes}
use Rattle.colour_wl.proofs.Numbered.{IsNumberedTo, IsNumberedTo-more}
use Rattle.colour_wl.proofs.exact.exact_round.Goals as goal

pub loop-class-preserved : goal.loop-class-preserved
loop-class-preserved c =
    let K = c.args.k.now in
    let a = c.args.a.now in
    let m = c.loop-class.class in
    let keys = c.loop-class.seen.keys in
    let own = c.in_ok-own.own in
    let here : own.items ≡ class_signature K a m = the_signature (merge K a) (pair_of_class K m).0 (pair_of_class K m).1 own.items c.in_ok-own.ensures in
    IsNumberedTo-more is_key (class_signature K a) keys c.insert_full.new.self.keys c.loop-class.next.items c.push.new.self.items m c.in_ok-number.number own c.loop-class.invariant
    ((bytes_eq-Decides (class_signature K a m) own.items).1 (sym here))
    (c.in_ok-number.ensures.index ∙ ap (λ s. position_or_len (is_key s) keys) here)
    (c.in_ok-number.ensures.keys ∙ ap (λ s. if list_any (is_key s) keys then keys else keys ++ own ∷ []) here)
    c.in_ok-push.ensures.items

pub returns-clause-round : goal.returns-clause-round
returns-clause-round c =
    let K = c.args.k.now in
    let end : c.loop-class.class ≡ rank_of K = omega (arith, c.rank-class-end.ensures.value) in
    IsRound-numbered_classes K c.rank-class-end.ensures.fits c.rank-class-end.ensures.configuration c.args.a.now c.requires c.loop-class.seen.keys c.loop-class.next.items
    (subst (IsNumberedTo is_key (class_signature K c.args.a.now) c.loop-class.seen.keys c.loop-class.next.items) end c.loop-class.invariant)
