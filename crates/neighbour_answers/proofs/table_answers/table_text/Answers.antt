use Rattle.std.proofs.Common.{◌+◌, ◌++◌, ap, ◌∙◌}
use Rattle.std.specs.Prelude.{codes, decimal}
use Rattle.std.specs.List.{flat_map}
use Rattle.neighbour_answers.specs.TableAnswer.{nonzero_triples, number_line}
use Rattle.neighbour_answers.proofs.table_answers.table_text.Goals as goal

pub returns : goal.returns
returns c =
    let A = c.args.table.now in
    let rank = ap (λ n. n + 1) c.diameter.ensures.value in
    let points = c.in_ok-put_field.ensures ∙ (λ i. c.new-text.ensures i ++ codes "table points " ++ decimal (c.points.ensures.value i)) in
    let ranked = c.in_ok-put_field-2.ensures ∙ (λ i. points i ++ codes " rank " ++ decimal (rank i)) in
    let counted = c.in_ok-put_field-3.ensures ∙ (λ i. ranked i ++ codes " entries " ++ decimal (c.entry_count.ensures i)) in
    c.into_bytes.ensures
    ∙ c.in_ok-put_numbers.ensures
    ∙ ap (λ text. text ++ flat_map (number_line A) (nonzero_triples A)) (c.in_ok-put.ensures ∙ ap (λ text. text ++ codes "\n") counted)
