use Rattle.std.proofs.Common.{◌+◌, sym, ◌∙◌, arith}
use Rattle.text_lines.specs.Views.{part_of}
use Rattle.script_text.proofs.LineLemmas.{read_fine, read_product, too_many_products}
use Rattle.script_text.proofs.reading.numbered_act.Goals as goal

pub returns-then-is_product-clause-err : goal.returns-then-is_product-clause-err
returns-then-is_product-clause-err c =
    let line = part_of c.args.line in
    let read = c.in_ok-act.ensures.ok in
    too_many_products c.args.number (c.args.products + 1) line (omega arith) (read_fine line c.in_ok-act.act read)
    (read_product line c.in_ok-act.act read ∙ sym c.is_product.ensures ∙ c.if-is_product.true) (omega arith)
