use Rattle.scheme_tests.proofs.LawProofs.{one_order_is_enough}
use Rattle.scheme_tests.proofs.laws.one_order.Goals as goal

pub returns : goal.returns
returns c = one_order_is_enough
