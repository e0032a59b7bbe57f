use Rattle.std.proofs.Common.{◌≡◌, ◌*◌, get_or, map, ap, refl, ◌∙◌, arith}
use Rattle.pair_colours.specs.Colouring.{points}
use Rattle.wl_round.proofs.PlaceLists.{written_more}
use Rattle.wl_round.proofs.TurnedLemmas.{AreScaled-from}
use Rattle.wl_round.proofs.sides.scaled.Goals as goal

pub loop-p-preserved : goal.loop-p-preserved
loop-p-preserved c =
    let n = c.args.size in
    let places = c.args.places.now in
    let p = c.loop-p.p in
    written_more (λ q. get_or places q 0 * n) p (get_or places p 0 * n) c.loop-p.lefts.items c.push.new.self.items c.loop-p.invariant refl c.in_ok-push.ensures.items

pub returns : goal.returns
returns c =
    let n = c.args.size in
    let places = c.args.places.now in
    let end : c.loop-p.p ≡ n * n = omega (arith, c.loop-p.auto.p-end, c.loop-p-test.false, c.requires.len) in
    AreScaled-from n places c.loop-p.lefts.items (c.loop-p.invariant ∙ ap (λ m. map (λ q. get_or places q 0 * n) (points m)) end)
