use Rattle.std.proofs.Common.{◌++◌, map, ap, ◌∙◌, arith}
use Rattle.std.proofs.lemmas.List.{take_all}
use Rattle.trace_text.specs.TraceText.{step_line}
use Rattle.trace_text.proofs.WrittenLines.{step_more, stage_text}
use Rattle.trace_text.proofs.writer.put_stage.Goals as goal
use Rattle.text_lines.specs.LinesText.{lines_text}

pub loop-place-preserved : goal.loop-place-preserved
loop-place-preserved c =
    step_more c.put_rows.new.text c.loop-place.text c.put_step.new.text c.args.stage.now.steps c.loop-place.place c.at.result c.loop-place.invariant c.at.ensures c.in_ok-put_step.ensures

pub returns : goal.returns
returns c =
    let steps = c.args.stage.now.steps in
    let all = take_all c.loop-place.place steps (omega (arith, c.loop-place-test.false, c.len-place-end.ensures)) in
    stage_text c.args.text.now c.put.new.self c.put_rows.new.text c.loop-place.text c.args.stage.now c.in_ok-put.ensures c.in_ok-put_rows.ensures
    (c.loop-place.invariant ∙ ap (λ l. c.put_rows.new.text ++ lines_text (map step_line l)) all)
