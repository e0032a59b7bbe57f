use Rattle.std.proofs.Common.{length, sym, ap, subst, arith}
use Rattle.std.specs.List.Sorted.{IsPermutation, IsNonDecreasing}
use Rattle.std.proofs.lemmas.Result.{IfOk-weaker}
use Rattle.std.proofs.lemmas.List.Sorted.{IsNonDecreasingBy-from_sort, length_permutation}
use Rattle.pair_colours.specs.SideCodes.{side_codes}
use Rattle.pair_colours.proofs.SideCodes.{length-side_codes}
use Rattle.triangle_count.specs.Row.{IsRowAt}
use Rattle.triangle_count.specs.Runs.{IsTally}
use Rattle.triangle_count.proofs.RowLemmas.{IsRowAt-from_tally}
use Rattle.triangle_count.proofs.triangles.row_at.Goals as goal

pub runs-requires-clause-short : goal.runs-requires-clause-short
runs-requires-clause-short c =
    let C = c.args.c.now in
    omega (arith, ap length c.deref.ensures.value, length_permutation _ _ c.sort_unstable.ensures.permutation, ap length c.in_ok-codes.ensures.codes, length-side_codes C c.args.x c.args.y, c.in_ok-codes.ensures.within.limit)

pub runs-requires-clause-sorted : goal.runs-requires-clause-sorted
runs-requires-clause-sorted c =
    subst IsNonDecreasing (sym c.deref.ensures.value) (IsNonDecreasingBy-from_sort (λ x. x) c.sort_unstable.new.self.items c.sort_unstable.ensures.sorted)

pub returns : goal.returns
returns c =
    let C = c.args.c.now in
    let x = c.args.x in
    let y = c.args.y in
    let codes = c.sort_unstable.new.self.items in
    let moved : IsPermutation (side_codes C x y) codes = subst (λ l. IsPermutation l codes) c.in_ok-codes.ensures.codes c.sort_unstable.ensures.permutation in
    IfOk-weaker c.runs.result (IsTally c.deref.result.now) (IsRowAt C x y)
    (λ row t. IsRowAt-from_tally C x y codes row c.in_ok-codes.ensures.within c.requires.row c.requires.column moved (subst (λ l. IsTally l row) c.deref.ensures.value t))
    c.runs.ensures
