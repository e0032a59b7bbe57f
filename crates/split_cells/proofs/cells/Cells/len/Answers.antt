use Rattle.std.proofs.Common.{◌==◌, ◌<◌, count_by, sym, ap, ◌∙◌, arith}
use Rattle.std.proofs.lemmas.List.{get_or_read}
use Rattle.std.proofs.lemmas.List.Sums.{count_by-le-length}
use Rattle.pair_colours.specs.Colouring.{PairColouring}
use Rattle.pair_colours.specs.Naming.{rank_of}
use Rattle.split_cells.proofs.CellLemmas.{members_counted, few_pairs}
use Rattle.split_cells.proofs.Labelled.{all_pairs, few_classes, rank_shown, inner_low, shown_counted}
use Rattle.split_cells.proofs.cells.Cells.len.Goals as goal

pub index-inner-requires : goal.index-inner-requires
index-inner-requires c =
    let h = c.self.invariant.shown in
    omega (arith, c.requires, ap rank_of c.self.view_is, rank_shown h, few_classes h, h.numbers.inverse.inner_len, c.self.inside.labels.inner.ok.0)

pub members-requires-clause-class : goal.members-requires-clause-class
members-requires-clause-class c =
    let h = c.self.invariant.shown in
    let k : c.args.k < c.self.inside.pairs.parting.rank = omega (arith, c.requires, ap rank_of c.self.view_is, rank_shown h) in
    let inner = c.self.inside.labels.inner.items in
    let is = get_or_read inner c.args.k c.index-inner.result.now (omega (arith, k, few_classes h, h.numbers.inverse.inner_len)) c.index-inner.ensures 0 in
    omega (arith, is, inner_low h c.args.k k)

pub overflow_cast-result : goal.overflow_cast-result
overflow_cast-result c =
    let pairs = c.self.inside.pairs in
    let h = c.self.invariant.shown in
    omega (
      arith,
      members_counted c.members.ensures.members,
      count_by-le-length (λ colour. colour == c.index-inner.result.now) pairs.parting.class.items,
      all_pairs h,
      few_pairs pairs.size h.classed.limit,
    )

pub returns : goal.returns
returns c =
    let h = c.self.invariant.shown in
    let k : c.args.k < c.self.inside.pairs.parting.rank = omega (arith, c.requires, ap rank_of c.self.view_is, rank_shown h) in
    let inner = c.self.inside.labels.inner.items in
    let is = get_or_read inner c.args.k c.index-inner.result.now (omega (arith, k, few_classes h, h.numbers.inverse.inner_len)) c.index-inner.ensures 0 in
    sym (members_counted c.members.ensures.members) ∙ sym (shown_counted h c.args.k c.index-inner.result.now k is) ∙ ap (λ (P : PairColouring). count_by (λ colour. colour == c.args.k) P.colours) c.self.view_is
