use Rattle.std.proofs.Common.{refl}
use Rattle.std.proofs.lemmas.List.{get_or-replicate}
use Rattle.mergings.proofs.products.zeros.Goals as goal

pub returns-clause-len : goal.returns-clause-len
returns-clause-len c = refl

pub returns-clause-zero : goal.returns-clause-zero
returns-clause-zero c = λ p l. get_or-replicate 256 p 0 0 l
