use Rattle.std.proofs.Common.{◌≡◌, length, map, ap, refl, ◌∙◌, arith}
use Rattle.pair_colours.specs.Colouring.{points}
use Rattle.wl_round.proofs.PlaceLists.{HasWords-from, word_at, written_more}
use Rattle.wl_round.proofs.hashing.laid_out.Goals as goal

pub loop-p-preserved : goal.loop-p-preserved
loop-p-preserved c =
    let f = word_at c.args.numbers.now c.args.words.now in
    written_more f c.loop-p.p (f c.loop-p.p) c.loop-p.laid.items c.push.new.self.items c.loop-p.invariant refl c.in_ok-push.ensures.items

pub returns : goal.returns
returns c =
    let numbers = c.args.numbers.now in
    let end : c.loop-p.p ≡ length numbers = omega (arith, c.loop-p.auto.p-end, c.loop-p-test.false) in
    HasWords-from numbers c.args.words.now c.loop-p.laid.items (c.loop-p.invariant ∙ ap (λ m. map (word_at numbers c.args.words.now) (points m)) end)
