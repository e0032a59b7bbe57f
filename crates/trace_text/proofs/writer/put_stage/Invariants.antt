use Rattle.std.proofs.Common.{◌≡◌, ◌++◌, map, take}
use Rattle.trace_text.specs.TraceText.{step_line}
use Rattle.trace_text.proofs.writer.put_stage.Given as goal
use Rattle.text_lines.specs.LinesText.{lines_text}

abbrev pub invariant-loop-place : goal.invariant-loop-place
invariant-loop-place l = l.text ≡ l.initial.text ++ lines_text (map step_line (take l.place l.stage.steps))
