use Rattle.products.proofs.Products.{wreath_is_coherent}
use Rattle.products.proofs.multiplying.wreath.Goals as goal

pub returns-clause-coherent : goal.returns-clause-coherent
returns-clause-coherent c =
    wreath_is_coherent c.args.a.now c.args.b.now c.in_ok-multiplied.field-0 c.requires.left c.requires.right
    (c.has_one_fibre.ensures.answer.0 c.if-not-has_one_fibre.false)
    (c.has_one_fibre-else-not-has_one_fibre.ensures.answer.0 c.if-not-has_one_fibre-2.false)
    c.in_ok-multiplied.ensures
