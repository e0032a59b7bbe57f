use Rattle.std.proofs.Common.{◌≡◌, sym, ap, ◌∙◌}
use Rattle.std.proofs.lemmas.Bool.{eqb-true, eq-eqb}
use Rattle.pair_colours.specs.Colouring.{colour_at}
use Rattle.mergings.proofs.heads.is_diagonal.Goals as goal

pub returns : goal.returns
returns c =
    let K = c.args.k.now in
    let p = c.pair-x.result in
    let t = c.pair-x.ensures in (
      λ e.
          let same : p.0 ≡ p.1 = eqb-true _ _ e in
          record { x = p.0; row = t.row; is = ap (colour_at K p.0) same ∙ t.colour },
      λ d. eq-eqb _ _ (c.rank-rank.ensures.configuration.coherent.splits_diagonal d.x p.0 p.1 d.row t.row t.column (d.is ∙ sym t.colour)),
    )
