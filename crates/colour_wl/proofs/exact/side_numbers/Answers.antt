use Rattle.std.proofs.Common.{◌≡◌, ap, sym, subst, ◌∙◌}
use Rattle.std.specs.List.Sorted.{IsPermutation}
use Rattle.std.proofs.lemmas.List.{take_all}
use Rattle.pair_colours.specs.IntersectionNumber.{pair_of_class}
use Rattle.pair_colours.specs.SideCodes.{side_codes}
use Rattle.colour_wl.proofs.Classes.{pair_of_class-holds}
use Rattle.colour_wl.specs.Fusions.{merge}
use Rattle.colour_wl.proofs.Expanded.{expanded, IsPermutation-expanded}
use Rattle.colour_wl.proofs.exact.side_numbers.Goals as goal

pub returns : goal.returns
returns c =
    let K = c.args.k.now in
    let a = c.args.a.now in
    let entries = c.entries-entries.result.now in
    let p = pair_of_class-holds K c.requires.configuration c.args.class c.requires.class in
    let all : c.loop-i.codes.items ≡ expanded a entries = c.loop-i.invariant ∙ ap (expanded a) (take_all c.loop-i.i entries c.loop-i-test.false) in
    subst (IsPermutation (side_codes (merge K a) (pair_of_class K c.args.class).0 (pair_of_class K c.args.class).1)) (sym all)
    (IsPermutation-expanded K c.requires.configuration a _ _ p.row p.column entries c.entries-entries.ensures.row)
