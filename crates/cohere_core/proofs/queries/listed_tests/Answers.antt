use Rattle.std.proofs.Common.{◌≡◌}
use Rattle.std.proofs.lemmas.Result.{IfOk-weaker}
use Rattle.report_text.specs.Tests.{tests_text_of}
use Rattle.scheme_tests.specs.declared.properties.SchemeTests.{SchemeTests}
use Rattle.scheme_tests.specs.Law.{AreAnswers}
use Rattle.cohere_core.specs.Answer.{OfConfiguration}
use Rattle.cohere_core.proofs.queries.listed_tests.Goals as goal

pub returns : goal.returns
returns c =
    let answers = c.in_ok-answers.answers in
    let right : AreAnswers c.in_ok-constants.constants answers = record {
      homogeneous = c.in_ok-answers.ensures.homogeneous;
      symmetric = c.in_ok-answers.ensures.symmetric;
      commutative = c.in_ok-answers.ensures.commutative;
      thin = c.in_ok-answers.ensures.thin;
      primitive = c.in_ok-answers.ensures.primitive;
    } in
    IfOk-weaker c.tests_text.result (λ text. text.items ≡ tests_text_of answers)
    (λ text. OfConfiguration c.args.bench.now (λ K. (t : SchemeTests) × AreAnswers K t × (text.items ≡ tests_text_of t)))
    (λ text e. record { configuration = c.in_ok-constants.constants; closure = c.in_ok-constants.ensures; holds = (answers, right, e) })
    c.tests_text.ensures
