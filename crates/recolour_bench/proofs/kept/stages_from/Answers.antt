use Rattle.std.proofs.Common.{◌≡◌, ◌+◌, ◌-◌, take, drop, sym, ap, ◌∙◌, arith}
use Rattle.std.proofs.lemmas.List.{drop-take}
use Rattle.recolour_bench.proofs.kept.stages_from.Goals as goal

pub returns : goal.returns
returns c =
    let end : c.args.start + (c.args.end - c.args.start) ≡ c.args.end = omega arith in
    sym (drop-take c.args.start (c.args.end - c.args.start) c.args.stages.now) ∙ ap (λ n. drop c.args.start (take n c.args.stages.now)) end
