use Rattle.std.proofs.Common.{◌*◌, ◌/◌, ◌<◌, ap, subst, sym, ◌∙◌, arith}
use Rattle.std.proofs.lemmas.List.{get_or_read}
use Rattle.split_cells.proofs.BuildLemmas.{entry_at}
use Rattle.split_cells.proofs.sizes.Size.first.Goals as goal

pub index-requires : goal.index-requires
index-requires c =
    let i = c.self.inside in
    let low : c.args.p < i.points * i.points = subst (λ n. c.args.p < n * n) (sym c.self.view_is) c.requires in
    omega (arith, (entry_at (λ p. p / i.points) (i.points * i.points) c.args.p i.firsts.items c.self.invariant.first low).0, i.firsts.ok.0)

pub returns : goal.returns
returns c =
    let i = c.self.inside in
    let low : c.args.p < i.points * i.points = subst (λ n. c.args.p < n * n) (sym c.self.view_is) c.requires in
    let e = entry_at (λ p. p / i.points) (i.points * i.points) c.args.p i.firsts.items c.self.invariant.first low in
    c.from.ensures ∙ get_or_read i.firsts.items c.args.p c.index.result.now e.0 c.index.ensures 0 ∙ e.1 ∙ ap (λ n. c.args.p / n) c.self.view_is
