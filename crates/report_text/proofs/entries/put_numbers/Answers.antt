use Rattle.std.proofs.Common.{arith}
use Rattle.text_lines.specs.Joined.{space}
use Rattle.report_text.proofs.EntryLines.{number_more}
use Rattle.report_text.proofs.entries.put_numbers.Goals as goal

pub loop-place-preserved : goal.loop-place-preserved
loop-place-preserved g c =
    number_more space _ c.args.text.now c.loop-place.text c.put_next.new.self c.loop-place.place c.width-place-end.result c.number.result (omega arith) c.width-place-end.ensures c.loop-place.invariant c.number.ensures c.in_ok-put_next.ensures
