use Rattle.products.proofs.LawProofs.{direct_is_coherent, direct_exists, direct_is_unique, wreath_is_coherent, wreath_exists, wreath_is_unique}
use Rattle.products.proofs.laws.l7.Goals as goal

pub returns-clause-direct : goal.returns-clause-direct
returns-clause-direct c = direct_is_coherent

pub returns-clause-direct_exists : goal.returns-clause-direct_exists
returns-clause-direct_exists c = direct_exists

pub returns-clause-direct_unique : goal.returns-clause-direct_unique
returns-clause-direct_unique c = direct_is_unique

pub returns-clause-wreath : goal.returns-clause-wreath
returns-clause-wreath c = wreath_is_coherent

pub returns-clause-wreath_exists : goal.returns-clause-wreath_exists
returns-clause-wreath_exists c = wreath_exists

pub returns-clause-wreath_unique : goal.returns-clause-wreath_unique
returns-clause-wreath_unique c = wreath_is_unique
