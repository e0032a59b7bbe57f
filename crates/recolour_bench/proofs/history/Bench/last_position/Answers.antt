use Rattle.std.proofs.Common.{◌≡◌, length, sym, ap, ◌∙◌, arith}
use Rattle.std.proofs.lemmas.List.FromFn.{length-map-range_with_len}
use Rattle.recolour_bench.specs.History.{History}
use Rattle.recolour_bench.specs.Kept.{entry_kept}
use Rattle.recolour_bench.proofs.history.Bench.last_position.Goals as goal

pub overflow_cast-result : goal.overflow_cast-result
overflow_cast-result c =
    omega (arith, c.self.invariant.history.few, c.len.ensures, length-map-range_with_len (entry_kept c.self.inside.stages.items c.self.inside.kept.items) 0 (length c.self.inside.stages.items))

pub returns-clause-last : goal.returns-clause-last
returns-clause-last c =
    let sizes : length c.args.self.now.entries ≡ length c.self.inside.stages.items = ap (λ (h : History). length h.entries) (sym c.self.view_is) ∙ length-map-range_with_len (entry_kept c.self.inside.stages.items c.self.inside.kept.items) 0 (length c.self.inside.stages.items) in
    omega (arith, sizes, c.len.ensures, c.self.invariant.history.inside, length-map-range_with_len (entry_kept c.self.inside.stages.items c.self.inside.kept.items) 0 (length c.self.inside.stages.items))
