use Rattle.std.proofs.Common.{arith}
use Rattle.report_text.proofs.EntryLines.{entry_more}
use Rattle.report_text.proofs.entries.put_entries.Goals as goal

pub loop-entry-preserved : goal.loop-entry-preserved
loop-entry-preserved g c =
    entry_more _ c.args.text.now c.loop-entry.text c.put_entry.new.text c.loop-entry.entry c.args.count (omega arith) c.requires c.loop-entry.invariant c.in_ok-put_entry.ensures
