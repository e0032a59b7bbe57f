use Rattle.std.proofs.Common.{◌≡◌, ◌==◌, ap, ◌∙◌, arith}
use Rattle.std.proofs.lemmas.Bool.{eq-eqb, ne_eqb}
use Rattle.pair_colours.specs.Colouring.{colour_at}
use Rattle.pair_colours.proofs.Counts.{unit_of, count_more, count_short}
use Rattle.struct_consts.proofs.classes.count_from.Goals as goal
use Rattle.struct_consts.proofs.classes.count_from.Goals.{then-get-colour, else-get-colour}

pub overflow_add-count : goal.overflow_add-count
overflow_add-count c =
    let K = c.args.k.now in
    omega (arith, c.loop-v.invariant, count_short (λ v. colour_at K c.args.x v == c.args.colour) c.loop-v.v)

pub loop-v-preserved : goal.loop-v-preserved
loop-v-preserved c =
    let K = c.args.k.now in
    let seen = colour_at K c.args.x c.loop-v.v in
    let step = count_more (λ v. colour_at K c.args.x v == c.args.colour) c.loop-v.v c.loop-v.count c.if-get-colour.count c.loop-v.invariant in
    elim c.if-get-colour.branch [
      | then-get-colour w ↦
          let same : seen ≡ c.args.colour = omega (arith, c.get.ensures, w.if-get-colour.true) in
          step (omega (arith, w.count-is, ap unit_of (eq-eqb seen c.args.colour same)))
      | else-get-colour w ↦
          let other : seen ≡ c.args.colour → ⊥ = λ e. w.if-get-colour.false (c.get.ensures ∙ e) in
          step (omega (arith, w.count-is, ap unit_of (ne_eqb seen c.args.colour other)))
    ]
