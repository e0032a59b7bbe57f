use Rattle.std.proofs.Common.{◌/◌, ◌%◌, ap, arith, length}
use Rattle.std.proofs.lemmas.List.{length_push}
use Rattle.pair_colours.specs.Naming.{rank_of}
use Rattle.visitors.specs.Masks.{HasBits}
use Rattle.closed_subsets.specs.Products.{is_product}
use Rattle.closed_subsets.proofs.Tables.{each_more, HasBits-at}
use Rattle.closed_subsets.proofs.products.products_of.Goals as goal

pub loop-place-preserved : goal.loop-place-preserved
loop-place-preserved c =
    let K = c.args.k.now in
    let n = c.loop-place.place in
    record {
      len = omega (arith, ap length c.in_ok-push.ensures.items, length_push c.loop-place.table.items c.product_of.result, c.loop-place.invariant.len);
      each = each_more (λ p x. HasBits (rank_of K) x (is_product K (p / rank_of K) (p % rank_of K))) c.loop-place.table.items _ n c.product_of.result
          c.loop-place.invariant.len c.in_ok-push.ensures.items c.loop-place.invariant.each
          (HasBits-at K c.rank-rank.result n c.product_of.result c.rank-rank.ensures.value c.product_of.ensures);
    }
