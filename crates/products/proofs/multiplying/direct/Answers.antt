use Rattle.products.proofs.Products.{direct_is_coherent}
use Rattle.products.proofs.multiplying.direct.Goals as goal

pub returns-clause-coherent : goal.returns-clause-coherent
returns-clause-coherent c = direct_is_coherent c.args.a.now c.args.b.now c.in_ok-multiplied.field-0 c.requires.left c.requires.right c.in_ok-multiplied.ensures
