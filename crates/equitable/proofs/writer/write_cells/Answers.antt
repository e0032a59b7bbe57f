use Rattle.std.proofs.Common.{◌++◌, map, ap, ◌∙◌, arith}
use Rattle.std.specs.Prelude.{codes, decimal}
use Rattle.std.proofs.lemmas.List.{take_all}
use Rattle.text_lines.specs.Joined.{spaced}
use Rattle.text_lines.specs.LinesText.{lines_text}
use Rattle.equitable.specs.CellText.{step_line}
use Rattle.text_lines.proofs.LinesText.{rows_text}
use Rattle.equitable.proofs.WrittenLines.{step_more, whole_text}
use Rattle.equitable.proofs.writer.write_cells.Goals as goal

pub loop-place-preserved : goal.loop-place-preserved
loop-place-preserved c =
    step_more c.put_rows.new.text c.loop-place.text c.put_step.new.text c.args.claim.now.steps c.loop-place.place c.at.result c.loop-place.invariant
    c.at.ensures c.in_ok-put_step.ensures

pub returns : goal.returns
returns c =
    let claim = c.args.claim.now in
    let all = take_all c.loop-place.place claim.steps (omega (arith, c.loop-place-test.false, c.len-place-end.ensures)) in
    c.into_bytes.ensures
    ∙ whole_text c.put.new.self c.put_field.new.self c.put-2.new.self c.put_rows.new.text c.loop-place.text c.put-3.new.self c.put_line.new.self
    c.put-4.new.self claim
    (c.in_ok-put.ensures ∙ ap (λ t. t ++ codes "cells 1\n") c.new-text.ensures)
    (c.in_ok-put_field.ensures ∙ ap (λ n. c.put.new.self ++ codes "points " ++ decimal n) c.size.ensures.points)
    c.in_ok-put-2.ensures (c.in_ok-put_rows.ensures ∙ ap (λ t. c.put-2.new.self ++ t) (rows_text claim.arcs))
    (c.loop-place.invariant ∙ ap (λ l. c.put_rows.new.text ++ lines_text (map step_line l)) all)
    c.in_ok-put-3.ensures
    (c.in_ok-put_line.ensures ∙ ap (λ l. c.put-3.new.self ++ (spaced l ++ codes "\n")) c.as_slice.ensures)
    c.in_ok-put-4.ensures
