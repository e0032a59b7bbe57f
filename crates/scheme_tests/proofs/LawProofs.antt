-- The proofs of the laws, under the names by which crates above cite them.
use Rattle.scheme_tests.specs.Law.{AnswersExist, OneOrderIsEnough}
use Rattle.scheme_tests.proofs.SomeAnswers as some
use Rattle.scheme_tests.proofs.OneOrder as order

pub answers_exist : AnswersExist
answers_exist = some.answers_exist

pub one_order_is_enough : OneOrderIsEnough
one_order_is_enough = order.one_order_is_enough
