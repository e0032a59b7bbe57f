use Rattle.report_text.proofs.ConstantLists.{text_more}
use Rattle.report_text.proofs.constants.put_rows.Goals as goal

pub loop-class-preserved : goal.loop-class-preserved
loop-class-preserved c =
    text_more c.args.k.now c.loop-class.class c.entries.result.now c.entries.ensures.row c.entries.ensures.classes c.args.text.now c.loop-class.text c.put_row.new.text c.loop-class.invariant c.in_ok-put_row.ensures
