use Rattle.std.proofs.Common.{ap, length, arith}
use Rattle.std.proofs.lemmas.List.{length-map}
use Rattle.text_lines.proofs.LineWords.{few_lines}
use Rattle.text_lines.proofs.line_cursor.LineCursor.new.Goals as goal

pub invariant_of-result : goal.invariant_of-result
invariant_of-result c = omega (arith, length-map c.lines.result (λ part. part.bytes), ap length c.lines.ensures, few_lines 0 c.args.text.now, c.requires)
