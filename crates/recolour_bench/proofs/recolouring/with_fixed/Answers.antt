use Rattle.std.proofs.Common.{◌≡◌, cond, IfOk, subst}
use Rattle.pair_colours.specs.Colouring.{colour_at}
use Rattle.recolour_bench.specs.Recolouring.{is_pair, recoloured}
use Rattle.recolour_bench.proofs.recolouring.with_fixed.Goals as goal

pub returns : goal.returns
returns c =
    let C = c.args.colouring.now in
    let x = c.args.x in
    subst (λ number. IfOk c.with_pair.result (λ next. next ≡ recoloured C (λ u v. cond (is_pair x x u v) number (colour_at C u v))))
    c.in_ok-colour.ensures.number c.with_pair.ensures
