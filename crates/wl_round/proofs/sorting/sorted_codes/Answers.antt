use Rattle.std.proofs.Common.{◌≡◌, length, map, ap, ◌∙◌, arith}
use Rattle.std.proofs.lemmas.List.Sorted.{IsNonDecreasingBy-from_sort}
use Rattle.pair_colours.specs.Colouring.{points}
use Rattle.wl_round.proofs.PlaceLists.{written_more}
use Rattle.wl_round.proofs.SortedPlaces.{AreSorted-from, code_at}
use Rattle.wl_round.proofs.sorting.sorted_codes.Goals as goal

pub loop-p-preserved : goal.loop-p-preserved
loop-p-preserved c =
    written_more (code_at c.args.numbers.now) c.loop-p.p c.pair_code.result c.loop-p.codes.items c.push.new.self.items c.loop-p.invariant c.pair_code.ensures c.in_ok-push.ensures.items

pub returns : goal.returns
returns c =
    let numbers = c.args.numbers.now in
    let end : c.loop-p.p ≡ length numbers = omega (arith, c.loop-p.auto.p-end, c.loop-p-test.false) in
    AreSorted-from numbers c.loop-p.codes.items c.sort_unstable.new.self.items c.requires (c.loop-p.invariant ∙ ap (λ n. map (code_at numbers) (points n)) end)
    c.sort_unstable.ensures.permutation (IsNonDecreasingBy-from_sort (λ x. x) c.sort_unstable.new.self.items c.sort_unstable.ensures.sorted)
