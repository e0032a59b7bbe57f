use Rattle.std.proofs.Common.{List, ℕ, set, sym, subst, ◌∙◌, arith}
use Rattle.split_cells.specs.Grids.{IsTurned}
use Rattle.split_cells.proofs.GatherLemmas.{IsTurned-write}
use Rattle.split_cells.proofs.classed_pairs.ClassedPairs.take_out.Goals as goal

pub returns-clause-classed : goal.returns-clause-classed
returns-clause-classed c =
    let pairs = c.args.self.now in
    let n = pairs.size in
    let h = c.requires.classed in
    let class = pairs.parting.class.items in
    record {
      some = h.some;
      limit = h.limit;
      parting = c.take_out.ensures.parting;
      bound = c.take_out.ensures.bound ∙ h.bound;
      turned =
          subst (λ (l : List ℕ). IsTurned n l (set pairs.turned.items c.turned-place.result c.args.new)) (sym c.take_out.ensures.moved)
          (subst (λ q. IsTurned n (set class c.args.p c.args.new) (set pairs.turned.items q c.args.new)) (sym c.turned-place.ensures)
          (IsTurned-write n class pairs.turned.items c.args.p c.args.new h.turned (h.parting.classes ∙ h.bound) (omega (arith, c.requires.inside, h.bound))));
    }
