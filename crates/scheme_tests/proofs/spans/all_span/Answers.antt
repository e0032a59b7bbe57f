use Rattle.std.proofs.Common.{◌≡◌, refl, ap, ◌∙◌, arith}
use Rattle.pair_colours.specs.Colouring.{colour_at}
use Rattle.scheme_tests.proofs.ClosedSets.{primitive_from_spans}
use Rattle.scheme_tests.proofs.spans.all_span.Goals as goal

pub returns : goal.returns
returns c =
    let K = c.args.k.now in
    let end : c.loop-class.class ≡ c.rank-class-end.result = omega arith in
    let diagonal : c.get-diagonal.result ≡ colour_at K 0 0 = c.get-diagonal.ensures ∙ ap (λ P. colour_at P 0 0) c.colouring.ensures.value in (
      λ t. primitive_from_spans K c.colouring.ensures.configuration c.requires.homogeneous c.requires.rank
          (λ k l ne. c.loop-class.invariant k (omega (arith, l, end, c.rank-class-end.ensures.value)) (λ e. ne (e ∙ diagonal))),
      λ p. refl,
    )
