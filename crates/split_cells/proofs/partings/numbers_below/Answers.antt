use Rattle.std.proofs.Common.{◌≡◌, ◌∷◌, ◌++◌, [], sym, ap, ◌∙◌, arith}
use Rattle.std.specs.List.{range_with_len}
use Rattle.pair_colours.proofs.Counts.{points_more}
use Rattle.split_cells.proofs.partings.numbers_below.Goals as goal

pub loop-k-preserved : goal.loop-k-preserved
loop-k-preserved c = c.in_ok-push.ensures.items ∙ ap (λ l. l ++ c.loop-k.k ∷ []) c.loop-k.invariant ∙ sym (points_more c.loop-k.k)

pub returns : goal.returns
returns c =
    let end : c.loop-k.k ≡ c.args.bound = omega (arith, c.loop-k.auto) in
    c.loop-k.invariant ∙ ap (λ n. range_with_len 0 n) end
