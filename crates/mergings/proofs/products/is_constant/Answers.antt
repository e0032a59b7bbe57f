use Rattle.std.proofs.Common.{◌≡◌, ℕ, ◌+◌, ◌*◌, ◌%◌, ◌^◌, ◌<◌, sum_by, slice_index, sym, subst, ◌∙◌, arith}
use Rattle.pair_colours.specs.Naming.{rank_of}
use Rattle.mergings.specs.Searches.{block_at}
use Rattle.mergings.proofs.Folds.{sums_exact}
use Rattle.mergings.proofs.products.is_constant.Goals as goal

pub add_right-requires-clause-low : goal.add_right-requires-clause-low
add_right-requires-clause-low c = λ d l. c.requires.heads.low d (omega (arith, l, c.rank-rank.ensures.value))

pub are_one-requires-clause-low : goal.are_one-requires-clause-low
are_one-requires-clause-low c = λ d l. c.requires.heads.low d (omega (arith, l, c.rank-rank.ensures.value))

pub returns : goal.returns
returns c =
    let K = c.args.k.now in
    let heads = c.args.heads.now in
    let table = c.args.table.now in
    let x = c.args.x in
    let rows = c.add_left.new.rows in
    let sums = c.add_right.new.sums in
    let r = subst (λ m. (p : ℕ) → p < 256 → slice_index rows p ≡ sum_by (λ i. slice_index table (i * 256 + p)) (block_at m heads x) % 2 ^ 32) c.rank-rank.ensures.value c.add_left.ensures.each in
    let s = subst (λ m. (y k : ℕ) → y < 16 → k < 16 → slice_index sums (y * 16 + k) ≡ sum_by (λ j. slice_index rows (j * 16 + k)) (block_at m heads y) % 2 ^ 32) c.rank-rank.ensures.value c.add_right.ensures.each in
    let exact = sums_exact K c.rank-rank.ensures.fits c.requires.small table c.requires.table heads x rows sums r s in
    let own : (d : ℕ) → d < c.rank-rank.result → d < rank_of K = λ d l. omega (arith, l, c.rank-rank.ensures.value) in
    let told : (d : ℕ) → d < rank_of K → d < c.rank-rank.result = λ d l. omega (arith, l, c.rank-rank.ensures.value) in
    let below : (d : ℕ) → d < rank_of K → slice_index heads d < rank_of K = λ d l. omega (arith, l, c.requires.heads.low d l) in (
      λ e. record { each = λ y l ly ll hy. sym (exact y l ly ll) ∙ c.are_one.ensures.0 e y (told y ly) hy l (told l ll) ∙ exact y (slice_index heads l) ly (below l ll) },
      λ f. c.are_one.ensures.1 (λ y ly hy l ll. exact y l (own y ly) (own l ll) ∙ f.each y l (own y ly) (own l ll) hy ∙ sym (exact y (slice_index heads l) (own y ly) (below l (own l ll)))),
    )

pub add_left-requires-clause-zero : goal.add_left-requires-clause-zero
add_left-requires-clause-zero c = c.zeros-rows.ensures.zero

pub add_right-requires-clause-zero : goal.add_right-requires-clause-zero
add_right-requires-clause-zero c = c.zeros-sums.ensures.zero
