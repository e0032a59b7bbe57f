use Rattle.std.proofs.Common.{◌≡◌, ◌<◌, slice_index, sym, ap, ◌∙◌, arith}
use Rattle.std.proofs.lemmas.Bool.{eqb-true, eq-eqb}
use Rattle.pair_colours.specs.Naming.{rank_of}
use Rattle.colour_wl.specs.BlockSums.{transposed}
use Rattle.colour_wl.proofs.Classes.{pair_of_class-holds}
use Rattle.mergings.proofs.heads.is_turned.Goals as goal

pub transpose-right-requires : goal.transpose-right-requires
transpose-right-requires c = omega (arith, c.requires.low c.args.colour c.requires.colour, c.requires.colour)

pub returns : goal.returns
returns c =
    let K = c.args.k.now in
    let heads = c.args.heads.now in
    let h = c.rank-rank.ensures.configuration in
    let head = slice_index heads c.args.colour in
    let low : head < rank_of K = omega (arith, c.requires.low c.args.colour c.requires.colour, c.requires.colour) in
    let p = pair_of_class-holds K h c.args.colour c.requires.colour in
    let q = pair_of_class-holds K h head low in
    let left : transposed K c.args.colour ≡ c.transpose-left.result = c.transpose-left.ensures.everywhere _ _ p.row p.column p.colour in
    let right : transposed K head ≡ c.transpose-right.result = c.transpose-right.ensures.everywhere _ _ q.row q.column q.colour in (
      λ e. ap (slice_index heads) left ∙ eqb-true _ _ e ∙ sym (ap (slice_index heads) right),
      λ e. eq-eqb _ _ (sym (ap (slice_index heads) left) ∙ e ∙ ap (slice_index heads) right),
    )
