use Rattle.std.proofs.Common.{◌≡◌, ◌↔◌, IsTrue, sym, subst, ◌∙◌}
use Rattle.std.proofs.lemmas.Bool.{false≢true}
use Rattle.pair_colours.specs.ColourSets.{is_in}
use Rattle.pair_colours.proofs.ColourSets.{IsLoopless, IsSymmetric}
use Rattle.pair_colours.proofs.colour_sets.is_edge_set.Goals as goal
use Rattle.pair_colours.proofs.colour_sets.is_edge_set.Goals.{then-is_loopless, else-is_loopless}

pub returns : goal.returns
returns c =
    let C = c.args.relation.now in
    let set = c.args.set.now in
    let same : is_in c.in_ok-edges.edges ≡ is_in set = c.in_ok-edges.ensures in
    let colours = c.in_ok-is_colour_set.ensures.0 c.if-not-branch.false in
    let loops : IsTrue c.is_loopless.result ↔ IsLoopless C (is_in set) = subst (λ test. IsTrue c.is_loopless.result ↔ IsLoopless C test) same c.is_loopless.ensures in
    elim c.if-is_loopless.branch [
      | then-is_loopless w ↦
          let turns : IsTrue w.is_symmetric.result ↔ IsSymmetric C (is_in set) = subst (λ test. IsTrue w.is_symmetric.result ↔ IsSymmetric C test) same w.is_symmetric.ensures in (
            λ t. record { colours = colours; loopless = loops.0 w.if-is_loopless.true; symmetric = turns.0 (sym w.result-is ∙ t) },
            λ e. w.result-is ∙ turns.1 e.symmetric,
          )
      | else-is_loopless w ↦ (
        λ t. absurd (false≢true (sym w.if-is_loopless.false ∙ sym w.result-is ∙ t)),
        λ e. absurd (false≢true (sym w.if-is_loopless.false ∙ loops.1 e.loopless)),
      )
    ]
