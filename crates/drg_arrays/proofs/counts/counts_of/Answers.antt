use Rattle.std.proofs.Common.{◌≡◌, ◌+◌, ◌/◌, ◌%◌, length, get_or, ap, ◌∙◌}
use Rattle.std.proofs.lemmas.List.{length_push}
use Rattle.drg_arrays.specs.Tables.{neighbour_count}
use Rattle.drg_arrays.proofs.Counting.{values_more}
use Rattle.drg_arrays.proofs.counts.counts_of.Goals as goal

pub loop-place-preserved : goal.loop-place-preserved
loop-place-preserved c =
    let G = c.args.graph.now in
    let d = c.args.distances.now in
    let p = c.loop-place.place in
    let old = c.loop-place.counts in
    let i = c.loop-place.invariant in
    let u : p / c.size.result ≡ p / G.size = ap (λ n. p / n) c.size.ensures.points in
    let v : p % c.size-in-loop-place.result ≡ p % G.size = ap (λ n. p % n) c.size-in-loop-place.ensures.points in record {
      nearer_len = ap length c.in_ok-push.ensures.items ∙ length_push old.nearer.items c.neighbour_count-nearer.result ∙ ap (λ n. n + 1) i.nearer_len;
      farther_len = ap length c.in_ok-push-2.ensures.items ∙ length_push old.farther.items c.neighbour_count-farther.result ∙ ap (λ n. n + 1) i.farther_len;
      nearer_is = values_more (λ q. neighbour_count G d (q / G.size) (q % G.size) (get_or d q 0)) old.nearer.items c.push.new.self.items c.neighbour_count-nearer.result p i.nearer_len c.in_ok-push.ensures.items
          (c.neighbour_count-nearer.ensures ∙ (λ j. neighbour_count G d (u j) (v j) (get_or d p 0))) i.nearer_is;
      farther_is = values_more (λ q. neighbour_count G d (q / G.size) (q % G.size) (get_or d q 0 + 2)) old.farther.items c.push-in-loop-place.new.self.items c.neighbour_count-farther.result p i.farther_len c.in_ok-push-2.ensures.items
          (c.neighbour_count-farther.ensures ∙ (λ j. neighbour_count G d (u j) (v j) (get_or d p 0 + 2))) i.farther_is;
    }
