use Rattle.std.proofs.Common.{◌+◌, ◌*◌, ◌<◌, ℕ, IsTrue, sym, ap, ◌∙◌, arith, get_or}
use Rattle.std.proofs.lemmas.Bool.{both_ways}
use Rattle.pair_colours.specs.Naming.{rank_of}
use Rattle.pair_colours.specs.IntersectionNumber.{intersection_number}
use Rattle.visitors.specs.Masks.{is_member}
use Rattle.closed_subsets.proofs.Tables.{before_more, product_read, product_kept}
use Rattle.closed_subsets.proofs.closedness.has_products_of.Goals as goal
use Rattle.closed_subsets.proofs.closedness.has_products_of.Goals.{else-has_colour-via-then-has_colour+else-not-is_within, else-has_colour-via-else-has_colour}

pub returns-then-not-is_within : goal.returns-then-not-is_within
returns-then-not-is_within c =
    let K = c.args.k.now in
    let table = c.args.table.now in
    let i = c.args.i in
    let j = c.loop-class.class in
    let l : j < rank_of K = omega (arith, c.loop-class-test.true, c.rank-rank.ensures.value) in
    let place = ap (λ r. get_or table (i * r + j) 0) c.rank-rank.ensures.value in
    (λ e. cc, λ h. absurd (both_ways _ c.if-not-is_within.true (c.is_within.ensures.1 (product_kept K table c.requires.table i j c.requires.class l _ c.args.mask place h (sym c.has_colour.ensures ∙ c.if-has_colour.true)))))

pub loop-class-preserved : goal.loop-class-preserved
loop-class-preserved c =
    let K = c.args.k.now in
    let table = c.args.table.now in
    let i = c.args.i in
    let j = c.loop-class.class in
    let set = is_member c.args.mask in
    let l : j < rank_of K = omega (arith, c.loop-class-test.true, c.rank-rank.ensures.value) in
    let place = ap (λ r. get_or table (i * r + j) 0) c.rank-rank.ensures.value in
    λ a n la. before_more (λ b. (n : ℕ) → n < rank_of K → IsTrue (set b) → 0 < intersection_number K i b n → IsTrue (set n)) j (λ b lb n. c.loop-class.invariant b n lb)
    (elim c.else-has_colour.branch [
      | else-has_colour-via-then-has_colour+else-not-is_within w ↦ λ n ln _ more. product_read K table c.requires.table i j c.requires.class l _ c.args.mask (omega (arith, c.requires.rank)) place (w.is_within.ensures.0 w.if-not-is_within.false) n ln more
      | else-has_colour-via-else-has_colour w ↦ λ n ln t. absurd (both_ways _ (sym c.has_colour.ensures ∙ w.if-has_colour.false) t)
    ]) a la n
