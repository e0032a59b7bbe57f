use Rattle.std.proofs.Common.{List, ℕ, length, get_or, refl, sym, ap, subst, ◌∙◌, arith}
use Rattle.std.proofs.lemmas.List.{length-set}
use Rattle.pair_colours.specs.declared.coloured_pairs.TheConstants.{MOST_POINTS}
use Rattle.schur_rings.specs.Axioms.{AreMiddles, IsMiddle}
use Rattle.schur_rings.proofs.MiddleLemmas.{middles_more, middles_start, tested_start, tested_more, middles_below, associative_from_middles}
use Rattle.schur_rings.proofs.associativity.is_associative.Goals as goal
use Rattle.schur_rings.proofs.associativity.is_associative.Goals.{then-not-known-y+else-not-is_middle, else-not-known-y}

pub loop-y-init : goal.loop-y-init
loop-y-init c =
    let T = c.args.table.now in
    record {
      marks = middles_start T _ MOST_POINTS (omega (arith, c.size-size.ensures.within.limit)) refl;
      room = refl;
      few = omega arith;
      tested = tested_start T _ 0 refl;
      before = λ v l. absurd (omega (arith, l));
    }

pub spread-requires-clause-marks : goal.spread-requires-clause-marks
spread-requires-clause-marks c =
    middles_more c.args.table.now c.loop-y.known _ c.loop-y.y c.loop-y.invariant.marks (c.is_middle.ensures.0 c.if-not-is_middle.false) refl

pub spread-requires-clause-tested : goal.spread-requires-clause-tested
spread-requires-clause-tested c =
    tested_more c.args.table.now c.loop-y.tested _ c.loop-y.count _ c.loop-y.y c.loop-y.invariant.tested (c.is_middle.ensures.0 c.if-not-is_middle.false)
    (omega (arith, c.loop-y.invariant.few, c.loop-y-test.true, c.size-size.ensures.points, c.size-size.ensures.within.limit, c.loop-y.invariant.room)) refl refl

pub loop-y-preserved : goal.loop-y-preserved
loop-y-preserved c =
    let T = c.args.table.now in
    elim c.if-not-known-y.branch [
      | then-not-known-y+else-not-is_middle w ↦
          let m : IsMiddle T c.loop-y.y = w.is_middle.ensures.0 w.if-not-is_middle.false in
          record {
            marks = subst (AreMiddles T) (sym w.known-is) w.spread.ensures;
            room = ap length w.tested-is ∙ length-set c.loop-y.tested c.loop-y.count c.loop-y.y ∙ c.loop-y.invariant.room;
            few = omega (arith, w.count-is, c.loop-y.invariant.few);
            tested = tested_more T c.loop-y.tested c.if-not-known-y.tested c.loop-y.count c.if-not-known-y.count c.loop-y.y c.loop-y.invariant.tested m
                (omega (arith, c.loop-y.invariant.few, c.loop-y-test.true, c.size-size.ensures.points, c.size-size.ensures.within.limit, c.loop-y.invariant.room)) w.tested-is w.count-is;
            before = middles_below T c.loop-y.y c.loop-y.invariant.before m;
          }
      | else-not-known-y w ↦
          let m : IsMiddle T c.loop-y.y = c.loop-y.invariant.marks.marked c.loop-y.y w.if-not-known-y.false in
          record {
            marks = subst (AreMiddles T) (sym w.known-is) c.loop-y.invariant.marks;
            room = ap length w.tested-is ∙ c.loop-y.invariant.room;
            few = omega (arith, w.count-is, c.loop-y.invariant.few);
            tested = record { each = λ k l. subst (λ (xs : List ℕ). IsMiddle T (get_or xs k 0)) (sym w.tested-is) (c.loop-y.invariant.tested.each k (omega (arith, l, w.count-is))) };
            before = middles_below T c.loop-y.y c.loop-y.invariant.before m;
          }
    ]

pub returns : goal.returns
returns c = (
  λ t. associative_from_middles c.args.table.now c.loop-y.y (omega (arith, c.loop-y-test.false, c.size-size.ensures.points)) c.loop-y.invariant.before,
  λ a. refl,
)
