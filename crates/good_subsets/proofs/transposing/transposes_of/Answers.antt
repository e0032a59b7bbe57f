use Rattle.std.proofs.Common.{◌≡◌, ℕ, ◌+◌, Bool, sym, ap, subst, ◌∙◌, arith}
use Rattle.pair_colours.specs.Naming.{rank_of}
use Rattle.colour_wl.specs.BlockSums.{transposed}
use Rattle.colour_wl.proofs.Classes.{pair_of_class-holds}
use Rattle.visitors.specs.Masks.{is_member, HasBits}
use Rattle.visitors.proofs.MaskSets.{HasBits-yes, HasBits-no}
use Rattle.good_subsets.proofs.GoodMasks.{turned_made}
use Rattle.good_subsets.proofs.transposing.transposes_of.Goals as goal
use Rattle.good_subsets.proofs.transposing.transposes_of.Goals.{then-has_colour, else-has_colour}

pub loop-colour-preserved : goal.loop-colour-preserved
loop-colour-preserved c =
    let K = c.args.k.now in
    let n = c.loop-colour.colour in
    let t = c.loop-colour.turned in
    let p : ℕ → Bool = λ d. is_member c.args.mask (transposed K d) in
    let q = pair_of_class-holds K c.rank-rank.ensures.configuration n (omega (arith, c.loop-colour-test.true, c.rank-rank.ensures.value)) in
    let here : transposed K n ≡ c.transpose.result = c.transpose.ensures.everywhere _ _ q.row q.column q.colour in
    elim c.if-has_colour.branch [
      | then-has_colour w ↦ subst (λ m. HasBits (n + 1) m p) (sym (w.turned-is ∙ w.with_colour-turned.ensures)) (HasBits-yes n t p c.loop-colour.invariant (ap (is_member c.args.mask) here ∙ sym c.has_colour.ensures ∙ w.if-has_colour.true))
      | else-has_colour w ↦ subst (λ m. HasBits (n + 1) m p) (sym w.turned-is) (HasBits-no n t p c.loop-colour.invariant (ap (is_member c.args.mask) here ∙ sym c.has_colour.ensures ∙ w.if-has_colour.false))
    ]

pub returns : goal.returns
returns c =
    let K = c.args.k.now in
    let end : c.loop-colour.colour ≡ rank_of K = omega (arith, c.loop-colour-test.false, c.loop-colour.auto.colour-end, c.rank-rank.ensures.value) in
    turned_made K c.rank-rank.ensures.configuration c.args.mask c.loop-colour.turned (subst (λ n. HasBits n c.loop-colour.turned (λ d. is_member c.args.mask (transposed K d))) end c.loop-colour.invariant)
