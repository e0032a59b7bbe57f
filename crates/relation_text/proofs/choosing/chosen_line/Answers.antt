use Rattle.std.proofs.Common.{◌≡◌, ◌+◌, ◌-◌, ◌≤◌, ◌∷◌, ℕ, length, drop, subst, sym, ap, ◌∙◌, arith}
use Rattle.text_lines.specs.Part.{Part}
use Rattle.text_lines.specs.Views.{part_of}
use Rattle.text_lines.specs.Lines.{lines_of}
use Rattle.relation_text.specs.Lines.{end_of, lines_at, part_after}
use Rattle.relation_text.proofs.ChosenLines.{no_line, first_line, later_line, has_line, end_of-part_after}
use Rattle.relation_text.proofs.choosing.chosen_line.Goals as goal

pub returns-in_err-next-clause-chosen : goal.returns-in_err-next-clause-chosen
returns-in_err-next-clause-chosen c =
    rw c.from_residual.ensures (no_line c.args.text.now c.args.line c.loop-number._number (omega arith) (omega arith) (sym c.loop-number.invariant ∙ c.in_err-next.ensures.steps.0))

pub returns-in_err-chosen-clause-chosen : goal.returns-in_err-chosen-clause-chosen
returns-in_err-chosen-clause-chosen c =
    rw c.from_residual-in_err-chosen.ensures (no_line c.args.text.now c.args.line c.loop-number._number (omega arith) (omega arith) (sym c.loop-number.invariant ∙ c.in_err-chosen.ensures.steps.0))

pub loop-number-preserved : goal.loop-number-preserved
loop-number-preserved c =
    let has = has_line c.args.text.now (c.loop-number._number - 1) c.loop-number.left c.next.new.self (part_of c.in_ok-next.field-0) c.loop-number.invariant c.in_ok-next.ensures.steps in
    let low = c.loop-number.auto._number in
    let next : c.loop-number._number - 1 + 1 ≡ c.loop-number._number + 1 - 1 = omega arith in
    has.after ∙ ap (λ n. drop n (lines_of c.args.text.now)) next

pub part_after-requires : goal.part_after-requires
part_after-requires c =
    let has = has_line c.args.text.now (c.loop-number._number - 1) c.loop-number.left c.next-2.new.self (part_of c.in_ok-chosen.chosen) c.loop-number.invariant c.in_ok-chosen.ensures.steps in
    omega (arith, has.within)

pub returns-then-line-eq1-clause-chosen : goal.returns-then-line-eq1-clause-chosen
returns-then-line-eq1-clause-chosen c =
    let has = has_line c.args.text.now (c.loop-number._number - 1) c.loop-number.left c.next-2.new.self (part_of c.in_ok-chosen.chosen) c.loop-number.invariant c.in_ok-chosen.ensures.steps in
    let first : c.loop-number._number - 1 ≡ 0 = omega arith in
    let lines : lines_of c.args.text.now ≡ part_of c.in_ok-chosen.chosen ∷ c.next-2.new.self = subst (λ (n : ℕ). drop n (lines_of c.args.text.now) ≡ part_of c.in_ok-chosen.chosen ∷ c.next-2.new.self) first has.left in
    ap (lines_at c.args.text.now) c.if-line-eq1.true ∙ first_line c.args.text.now (part_of c.in_ok-chosen.chosen) c.next-2.new.self lines
    ∙ ap (λ k. part_after k (part_of c.in_ok-chosen.chosen) ∷ c.next-2.new.self) (sym c.header_len.ensures.len) ∙ ap (λ p. p ∷ c.next-2.new.self) (sym c.part_after.ensures)

pub returns-then-line-eq1-clause-within : goal.returns-then-line-eq1-clause-within
returns-then-line-eq1-clause-within c =
    let has = has_line c.args.text.now (c.loop-number._number - 1) c.loop-number.left c.next-2.new.self (part_of c.in_ok-chosen.chosen) c.loop-number.invariant c.in_ok-chosen.ensures.steps in
    let few = c.header_len.ensures.few in
    let end = end_of-part_after c.header_len.result (part_of c.in_ok-chosen.chosen) in
    let bound : end_of (part_after c.header_len.result (part_of c.in_ok-chosen.chosen)) ≤ length c.args.text.now + 12 = omega (arith, has.within) in
    subst (λ (p : Part). end_of p ≤ length c.args.text.now + 12) (sym c.part_after.ensures) bound

pub returns-then-line-eq1-clause-rest : goal.returns-then-line-eq1-clause-rest
returns-then-line-eq1-clause-rest c =
    (has_line c.args.text.now (c.loop-number._number - 1) c.loop-number.left c.next-2.new.self (part_of c.in_ok-chosen.chosen) c.loop-number.invariant c.in_ok-chosen.ensures.steps).rest_within

pub returns-else-line-eq1-clause-chosen : goal.returns-else-line-eq1-clause-chosen
returns-else-line-eq1-clause-chosen c =
    let has = has_line c.args.text.now (c.loop-number._number - 1) c.loop-number.left c.next-2.new.self (part_of c.in_ok-chosen.chosen) c.loop-number.invariant c.in_ok-chosen.ensures.steps in
    let other = c.if-line-eq1.false in
    let last : c.loop-number._number - 1 ≡ c.args.line - 1 = omega arith in
    later_line c.args.text.now c.args.line (part_of c.in_ok-chosen.chosen) c.next-2.new.self (omega arith) (subst (λ (n : ℕ). drop n (lines_of c.args.text.now) ≡ part_of c.in_ok-chosen.chosen ∷ c.next-2.new.self) last has.left)

pub returns-else-line-eq1-clause-within : goal.returns-else-line-eq1-clause-within
returns-else-line-eq1-clause-within c =
    let has = has_line c.args.text.now (c.loop-number._number - 1) c.loop-number.left c.next-2.new.self (part_of c.in_ok-chosen.chosen) c.loop-number.invariant c.in_ok-chosen.ensures.steps in
    omega (arith, has.within)

pub returns-else-line-eq1-clause-rest : goal.returns-else-line-eq1-clause-rest
returns-else-line-eq1-clause-rest c =
    (has_line c.args.text.now (c.loop-number._number - 1) c.loop-number.left c.next-2.new.self (part_of c.in_ok-chosen.chosen) c.loop-number.invariant c.in_ok-chosen.ensures.steps).rest_within
