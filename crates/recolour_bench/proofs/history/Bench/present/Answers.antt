use Rattle.std.proofs.Common.{sym, ap, ◌∙◌, arith}
use Rattle.recolour_bench.specs.History.{Entry, present}
use Rattle.recolour_bench.proofs.Keeping.{low_from, IsPresentEntry-stage}
use Rattle.recolour_bench.proofs.history.Bench.present.Goals as goal

pub index-requires : goal.index-requires
index-requires c = omega (arith, low_from c.self.inside.stages.items c.self.inside.kept.items c.self.inside.position c.self.invariant)

pub returns-clause-value : goal.returns-clause-value
returns-clause-value c =
    sym (ap (λ (a : Entry). a.colouring) (IsPresentEntry-stage c.self.inside.stages.items c.self.inside.kept.items c.self.inside.position c.index.result.now c.self.invariant c.index.ensures).is)
    ∙ ap present c.self.view_is

pub returns-clause-within : goal.returns-clause-within
returns-clause-within c = (IsPresentEntry-stage c.self.inside.stages.items c.self.inside.kept.items c.self.inside.position c.index.result.now c.self.invariant c.index.ensures).sound.raw
