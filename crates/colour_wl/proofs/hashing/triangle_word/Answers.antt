use Rattle.std.proofs.Common.{◌%◌, ◌^◌, sum_by, ap, ◌∙◌}
use Rattle.std.proofs.lemmas.List.{take_all}
use Rattle.std.proofs.lemmas.List.Sorted.{sum_by-IsPermutation}
use Rattle.pair_colours.specs.IntersectionNumber.{pair_of_class}
use Rattle.pair_colours.specs.SideCodes.{side_codes}
use Rattle.colour_wl.specs.Fusions.{merge}
use Rattle.colour_wl.specs.Words.{mix}
use Rattle.colour_wl.proofs.Classes.{pair_of_class-holds}
use Rattle.colour_wl.proofs.Expanded.{expanded, IsPermutation-expanded}
use Rattle.colour_wl.proofs.hashing.triangle_word.Goals as goal

pub returns : goal.returns
returns c =
    let K = c.args.k.now in
    let a = c.args.a.now in
    let entries = c.entries-entries.result.now in
    let p = pair_of_class-holds K c.requires.configuration c.args.class c.requires.class in
    let perm = IsPermutation-expanded K c.requires.configuration a _ _ p.row p.column entries c.entries-entries.ensures.row in
    c.loop-i.invariant
    ∙ ap (λ l. sum_by mix (expanded a l) % 2 ^ 64) (take_all c.loop-i.i entries c.loop-i-test.false)
    ∙ ap (λ n. n % 2 ^ 64) (sum_by-IsPermutation mix (side_codes (merge K a) (pair_of_class K c.args.class).0 (pair_of_class K c.args.class).1) (expanded a entries) perm)
