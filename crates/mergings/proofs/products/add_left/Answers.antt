use Rattle.std.proofs.Common.{◌==◌, ◌+◌, ◌*◌, length, slice_index, ap, ◌∙◌}
use Rattle.std.proofs.lemmas.Bool.{eq-eqb, ne_eqb}
use Rattle.mergings.proofs.Folds.{fold_yes, fold_no}
use Rattle.mergings.proofs.products.add_left.Goals as goal
use Rattle.mergings.proofs.products.add_left.Goals.{then-own-head, else-own-head}

pub loop-i-init : goal.loop-i-init
loop-i-init c = record { len = c.requires.rows; each = λ p l. c.requires.zero p l }

pub loop-i-preserved : goal.loop-i-preserved
loop-i-preserved c =
    let heads = c.args.heads.now in
    let head = c.args.head in
    let table = c.args.table.now in
    let i = c.loop-i.i in
    let h = c.loop-i.invariant in
    elim c.if-own-head.branch [
      | then-own-head w ↦ record {
        len = ap length w.rows-is ∙ w.add_square.ensures.len;
        each = λ p l. fold_yes (λ d. slice_index heads d == head) (λ d. slice_index table (d * 256 + p)) i (slice_index c.loop-i.rows p) (slice_index c.if-own-head.rows p) (eq-eqb _ _ w.if-own-head.true) (h.each p l)
            (ap (λ r. slice_index r p) w.rows-is ∙ w.add_square.ensures.each p l);
      }
      | else-own-head w ↦ record {
        len = ap length w.rows-is ∙ h.len;
        each = λ p l. fold_no (λ d. slice_index heads d == head) (λ d. slice_index table (d * 256 + p)) i (slice_index c.loop-i.rows p) (slice_index c.if-own-head.rows p) (ne_eqb _ _ w.if-own-head.false) (h.each p l)
            (ap (λ r. slice_index r p) w.rows-is);
      }
    ]
