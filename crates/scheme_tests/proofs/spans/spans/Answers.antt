use Rattle.std.proofs.Common.{◌≡◌, Bool, List, All, Any, true, false, subst}
use Rattle.std.specs.Bool.{OnTrue, OnFalse}
use Rattle.pair_colours.specs.Colouring.{PairColouring}
use Rattle.scheme_tests.specs.Steps.{MarksReached}
use Rattle.scheme_tests.proofs.ClosedSets.{spans_answer}
use Rattle.scheme_tests.proofs.spans.spans.Goals as goal

pub returns : goal.returns
returns c =
    let answer = c.all_marked.result in
    spans_answer c.args.k.now c.colouring.ensures.configuration c.requires.homogeneous c.args.class c.in_ok-marks.marks.items
    (subst (λ (P : PairColouring). MarksReached P c.args.class c.in_ok-marks.marks.items) c.colouring.ensures.value c.in_ok-marks.ensures) c.requires.class answer
    (subst (λ (ms : List Bool). OnTrue answer (All (λ mark. mark ≡ true) ms)) c.deref.ensures.value c.all_marked.ensures.all)
    (subst (λ (ms : List Bool). OnFalse answer (Any (λ mark. mark ≡ false) ms)) c.deref.ensures.value c.all_marked.ensures.some)
