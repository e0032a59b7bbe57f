use Rattle.std.proofs.Common.{◌≡◌, ◌+◌, ◌*◌, get_or, map, ap, ◌∙◌, arith}
use Rattle.pair_colours.specs.Colouring.{points}
use Rattle.wl_round.proofs.PlaceLists.{IsTurned-from, turned_to, turned_to-at, written_more}
use Rattle.wl_round.proofs.transposing.transposed.Goals as goal

pub loop-y-preserved : goal.loop-y-preserved
loop-y-preserved c =
    let n = c.args.size in
    let x = c.loop-x.x in
    let y = c.loop-y.y in
    let class = c.args.class.now in
    let step = written_more (turned_to n class) (x * n + y) (get_or class (y * n + x) 0) c.loop-y.turned.items c.push.new.self.items c.loop-y.invariant (turned_to-at n class x y c.loop-y-test.true) c.in_ok-push.ensures.items in
    step ∙ ap (λ m. map (turned_to n class) (points m)) (omega arith)

pub returns : goal.returns
returns c =
    let n = c.args.size in
    let end : c.loop-x.x ≡ n = omega (arith, c.loop-x.auto.x-end, c.loop-x-test.false) in
    IsTurned-from n c.args.class.now c.loop-x.turned.items (c.loop-x.invariant ∙ ap (λ m. map (turned_to n c.args.class.now) (points (m * n))) end)
