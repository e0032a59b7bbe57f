use Rattle.std.proofs.Common.{◌++◌, ap, ◌∙◌, arith}
use Rattle.std.specs.Prelude.{codes, decimal}
use Rattle.std.specs.List.{flat_map}
use Rattle.std.proofs.lemmas.List.{take_all}
use Rattle.trace_text.specs.TraceText.{stage_lines}
use Rattle.trace_text.proofs.WrittenLines.{whole_text}
use Rattle.trace_text.proofs.writer.write_trace.Goals as goal
use Rattle.text_lines.specs.LinesText.{lines_text}

pub returns : goal.returns
returns c =
    let all = take_all c.loop-stage.stage-index c.args.stages.now (omega (arith, c.loop-stage-test.false)) in
    c.into_bytes.ensures
    ∙ whole_text c.put_field.new.self c.put_field-2.new.self c.put.new.self c.loop-stage.text c.put-2.new.self c.put_rows.new.text c.put-3.new.self (record { version = c.args.version; chain = c.args.stages.now; closure = c.args.closure.now })
    (c.in_ok-put_field.ensures ∙ (λ i. c.new-text.ensures i ++ codes "trace " ++ decimal c.args.version))
    (c.in_ok-put_field-2.ensures ∙ (λ i. c.put_field.new.self ++ codes "\npoints " ++ decimal (c.size.ensures.points i)))
    c.in_ok-put.ensures (c.loop-stage.invariant ∙ ap (λ l. c.put.new.self ++ lines_text (flat_map stage_lines l)) all)
    c.in_ok-put-2.ensures c.in_ok-put_rows.ensures c.in_ok-put-3.ensures
