use Rattle.std.proofs.Common.{◌≡◌, ℕ, ◌∙◌, sym, subst, arith, ⊎_elim}
use Rattle.std.proofs.lemmas.Bool.{cases_eq}
use Rattle.pair_colours.specs.Colouring.{PairColouring, colour_at}
use Rattle.trace_text.specs.Partition.{IsPartition}
use Rattle.split_cells.proofs.Labelled.{IsPartition-shown}
use Rattle.split_cells.proofs.ReadOut.{same_at_pairs}
use Rattle.split_cells.proofs.cells.Cells.colouring.Goals as goal

pub loop-x-preserved : goal.loop-x-preserved
loop-x-preserved c = record {
  size = c.copy_row.ensures.size ∙ c.loop-x.invariant.size;
  len = c.copy_row.ensures.len ∙ c.loop-x.invariant.len;
  rows = λ x y h l. ⊎_elim
      (λ (e : x ≡ c.loop-x.x). subst (λ (n : ℕ). colour_at c.copy_row.new.colouring n y ≡ colour_at c.args.self.now n y) (sym e) (c.copy_row.ensures.row y l))
      (λ ne. c.copy_row.ensures.others x y (omega (arith, h, c.loop-x-test.true, c.size-x-end.ensures.points)) l ne ∙ c.loop-x.invariant.rows x y (omega (arith, h, ne)) l)
      (cases_eq x c.loop-x.x);
}

pub returns-clause-classes : goal.returns-clause-classes
returns-clause-classes c =
    same_at_pairs c.args.self.now c.loop-x.colouring c.size-x-end.ensures.within.colouring c.loop-x.invariant.size c.loop-x.invariant.len
    (λ x y h l. c.loop-x.invariant.rows x y (omega (arith, h, c.loop-x-test.false, c.size-x-end.ensures.points)) l)

pub returns-in_err-colouring-clause-within : goal.returns-in_err-colouring-clause-within
returns-in_err-colouring-clause-within c = subst (λ (P : PairColouring). IsPartition P) c.self.view_is (IsPartition-shown c.self.invariant.shown)
