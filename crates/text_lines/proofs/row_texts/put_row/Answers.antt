use Rattle.pair_colours.specs.Colouring.{colour_at}
use Rattle.text_lines.specs.Joined.{space}
use Rattle.text_lines.proofs.LinesText.{row_more}
use Rattle.text_lines.proofs.row_texts.put_row.Goals as goal

pub loop-y-preserved : goal.loop-y-preserved
loop-y-preserved c =
    row_more space (λ y. colour_at c.args.matrix.now c.args.x y) c.args.text.now c.loop-y.text c.put_next.new.self c.loop-y.y c.get.result c.loop-y.invariant c.get.ensures c.in_ok-put_next.ensures
