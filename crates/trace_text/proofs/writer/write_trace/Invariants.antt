use Rattle.std.proofs.Common.{◌≡◌, ◌++◌, take}
use Rattle.std.specs.List.{flat_map}
use Rattle.trace_text.specs.TraceText.{stage_lines}
use Rattle.trace_text.proofs.writer.write_trace.Given as goal
use Rattle.text_lines.specs.LinesText.{lines_text}

abbrev pub invariant-loop-stage : goal.invariant-loop-stage
invariant-loop-stage l = l.text ≡ l.initial.text ++ lines_text (flat_map stage_lines (take l.stage-index l.stages))
