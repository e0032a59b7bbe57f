use Rattle.std.proofs.Common.{◌++◌, ap, ◌∙◌, append_assoc}
use Rattle.std.specs.Prelude.{codes}
use Rattle.text_lines.specs.Rows.{matrix_row}
use Rattle.text_lines.proofs.LinesText.{lines_more}
use Rattle.text_lines.proofs.row_texts.put_rows.Goals as goal

pub loop-x-preserved : goal.loop-x-preserved
loop-x-preserved c =
    let row = matrix_row c.args.matrix.now c.loop-x.x in
    lines_more (λ x. matrix_row c.args.matrix.now x ++ codes "\n") c.args.text.now c.loop-x.text c.put.new.self c.loop-x.x c.loop-x.invariant
    (c.in_ok-put.ensures ∙ ap (λ text. text ++ codes "\n") c.in_ok-put_row.ensures ∙ append_assoc c.loop-x.text row (codes "\n"))
