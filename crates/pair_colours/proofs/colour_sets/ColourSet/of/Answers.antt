use Rattle.std.proofs.Common.{◌≡◌, ℕ, ap, ◌∙◌}
use Rattle.std.proofs.lemmas.List.{take_all}
use Rattle.pair_colours.specs.ColourSets.{is_in}
use Rattle.pair_colours.proofs.ColourSets.{is_in-contains}
use Rattle.pair_colours.proofs.colour_sets.ColourSet.of.Goals as goal

pub returns : goal.returns
returns c =
    let numbers = c.args.numbers.now in
    let all = take_all c.loop-number.number-index numbers c.loop-number-test.false in
    let each : (k : ℕ) → is_in c.loop-number.members.keys k ≡ is_in numbers k = λ k. is_in-contains c.loop-number.members.keys k ∙ c.loop-number.invariant k ∙ ap (λ xs. is_in xs k) all in λ i k. each k i
