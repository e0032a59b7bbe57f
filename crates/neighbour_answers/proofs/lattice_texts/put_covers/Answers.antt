use Rattle.std.proofs.Common.{◌++◌, take, ap, sym, ◌∙◌, arith}
use Rattle.std.proofs.lemmas.List.{take_all, flat_map_more}
use Rattle.pair_colours.proofs.ListLemmas.{take_more_at}
use Rattle.neighbour_answers.specs.LatticeAnswer.{cover_line, cover_lines}
use Rattle.neighbour_answers.proofs.lattice_texts.put_covers.Goals as goal

pub loop-place-preserved : goal.loop-place-preserved
loop-place-preserved c =
    let covers = c.args.covers.now in
    let place = c.loop-place.place in
    let cover = c.at-cover.result in
    c.in_ok-put_line.ensures
    ∙ ap (λ text. text ++ cover_line cover) c.loop-place.invariant
    ∙ flat_map_more cover_line c.args.text.now (take place covers) cover
    ∙ ap (λ l. c.args.text.now ++ cover_lines l) (sym (take_more_at covers place cover c.at-cover.ensures))

pub returns : goal.returns
returns c =
    let all = take_all c.loop-place.place c.args.covers.now (omega (arith, c.loop-place-test.false, c.len-place-end.ensures)) in
    c.loop-place.invariant ∙ ap (λ l. c.args.text.now ++ cover_lines l) all
