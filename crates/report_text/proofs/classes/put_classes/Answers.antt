use Rattle.report_text.specs.Classes.{class_line}
use Rattle.text_lines.proofs.LinesText.{lines_more}
use Rattle.report_text.proofs.classes.put_classes.Goals as goal

pub loop-class-preserved : goal.loop-class-preserved
loop-class-preserved c =
    lines_more (class_line c.args.k.now) c.args.text.now c.loop-class.text c.put_class.new.text c.loop-class.class c.loop-class.invariant c.in_ok-put_class.ensures
