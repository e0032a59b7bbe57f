use Rattle.std.proofs.Common.{◌≡◌, nat_eq, [], ◌∷◌, ◌++◌, sym, ap, subst, ◌∙◌, arith, if◌then◌else◌}
use Rattle.std.specs.List.{list_any, position_or_len}
use Rattle.std.proofs.lemmas.Bool.{eq-eqb}
use Rattle.pair_colours.specs.Naming.{rank_of}
use Rattle.colour_wl.proofs.Hashes.{class_key, IsForcedRound-numbered}
use Rattle.colour_wl.proofs.Numbered.{IsNumberedTo, IsNumberedTo-more}
use Rattle.colour_wl.proofs.hashing.hashed_round.Goals as goal

pub loop-class-preserved : goal.loop-class-preserved
loop-class-preserved c =
    let K = c.args.k.now in
    let a = c.args.a.now in
    let m = c.loop-class.class in
    let keys = c.loop-class.seen.keys in
    let own = c.class_key.result in
    let here : own ≡ class_key K a m = c.class_key.ensures in
    IsNumberedTo-more nat_eq (class_key K a) keys c.insert_full.new.self.keys c.loop-class.next.items c.push.new.self.items m c.in_ok-number.number own c.loop-class.invariant
    (eq-eqb (class_key K a m) own (sym here))
    (c.in_ok-number.ensures.index ∙ ap (λ s. position_or_len (nat_eq s) keys) here)
    (c.in_ok-number.ensures.keys ∙ ap (λ s. if list_any (nat_eq s) keys then keys else keys ++ own ∷ []) here)
    c.in_ok-push.ensures.items

pub returns-clause-round : goal.returns-clause-round
returns-clause-round c =
    let K = c.args.k.now in
    let end : c.loop-class.class ≡ rank_of K = omega (arith, c.rank-rank.ensures.value, c.loop-class-test.false, c.loop-class.auto.class-end) in
    IsForcedRound-numbered K c.rank-rank.ensures.configuration c.args.a.now c.loop-class.seen.keys c.loop-class.next.items
    (subst (IsNumberedTo nat_eq (class_key K c.args.a.now) c.loop-class.seen.keys c.loop-class.next.items) end c.loop-class.invariant)
