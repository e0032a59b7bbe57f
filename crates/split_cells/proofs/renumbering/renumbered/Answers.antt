use Rattle.std.proofs.Common.{◌≡◌, ℕ, ◌*◌, ap, sym, subst, ◌∙◌, ⊎_elim, arith}
use Rattle.std.proofs.lemmas.Bool.{cases_eq}
use Rattle.std.proofs.lemmas.List.{length-replicate}
use Rattle.std.specs.Prelude.{length, slice_index}
use Rattle.pair_colours.specs.Colouring.{colour_at}
use Rattle.pair_colours.specs.Rounds.{first_alike}
use Rattle.trace_text.specs.declared.step_list.Step.TheVariants.{Round}
use Rattle.trace_text.specs.Split.{split_of}
use Rattle.trace_text.proofs.Parting.{IsPartition-parted_by}
use Rattle.split_cells.proofs.ReadOut.{same_at_pairs}
use Rattle.split_cells.proofs.renumbering.renumbered.Goals as goal

pub returns : goal.returns
returns c =
    let P = c.args.partition.now in
    same_at_pairs (split_of P Round) c.loop-x.parted (IsPartition-parted_by P (first_alike P) c.requires.partition).colouring c.loop-x.invariant.size c.loop-x.invariant.len
    (λ x y hx hy. c.loop-x.invariant.rows x y (omega (arith, hx, c.loop-x-test.false, c.size-x-end.ensures.points)) hy)

pub loop-x-init : goal.loop-x-init
loop-x-init c =
    let points = c.size.ensures.points in
    record {
      size = c.in_ok-parted.ensures.points ∙ points;
      len = ap length c.in_ok-parted.ensures.filled ∙ length-replicate (c.size.result * c.size.result) 0 ∙ ap (λ n. n * n) points;
      rows = λ x y h l. absurd (omega (arith, h));
    }

pub loop-x-preserved : goal.loop-x-preserved
loop-x-preserved c =
    let P = c.args.partition.now in
    let R = c.args.round.now in
    let x' = c.loop-x.x in
    let new = c.show_row.new.parted in
    record {
      size = c.show_row.ensures.size ∙ c.loop-x.invariant.size;
      len = c.show_row.ensures.len ∙ c.loop-x.invariant.len;
      rows = λ x y h l. ⊎_elim
          (λ (e : x ≡ x'). subst (λ (n : ℕ). colour_at new n y ≡ colour_at (split_of P Round) n y) (sym e)
          (c.show_row.ensures.row y (omega (arith, l, c.requires.round.sizes)) ∙ ap (λ numbers. slice_index numbers (colour_at R x' y)) c.deref.ensures.value
          ∙ c.in_ok-numbers.ensures.is x' y (omega (arith, c.loop-x-test.true, c.size-x-end.ensures.points)) l))
          (λ ne. c.show_row.ensures.others x y (omega (arith, h, c.loop-x-test.true, c.size-x-end.ensures.points, c.requires.round.sizes)) (omega (arith, l, c.requires.round.sizes)) ne
          ∙ c.loop-x.invariant.rows x y (omega (arith, h, ne)) l)
          (cases_eq x x');
    }
