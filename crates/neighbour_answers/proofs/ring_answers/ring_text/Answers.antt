use Rattle.std.proofs.Common.{◌++◌, sym, ap, ◌∙◌}
use Rattle.std.specs.Prelude.{codes, decimal}
use Rattle.text_lines.specs.Joined.{spaced}
use Rattle.schur_rings.proofs.LawProofs.{growth_counts}
use Rattle.neighbour_answers.proofs.ring_answers.ring_text.Goals as goal

pub returns : goal.returns
returns c =
    let numbers = c.args.numbers.now in
    let rank = c.least_above.ensures ∙ sym (growth_counts c.args.points numbers c.requires) in
    let start = c.in_ok-put_field.ensures ∙ ap (λ text. text ++ codes "ring points " ++ decimal c.args.points) c.new-text.ensures in
    c.into_bytes.ensures
    ∙ c.in_ok-put_line.ensures
    ∙ ap (λ text. text ++ (spaced numbers ++ codes "\n"))
    (c.in_ok-put.ensures ∙ ap (λ text. text ++ codes "\n") (c.in_ok-put_field-2.ensures ∙ (λ i. start i ++ codes " rank " ++ decimal (rank i))))
