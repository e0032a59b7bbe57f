use Rattle.std.proofs.Common.{◌≡◌, [], map, get_or, vec_items, sym, ap, subst, ◌∙◌, arith}
use Rattle.std.proofs.lemmas.List.{get_or-map, length-map}
use Rattle.visitors.specs.Entries.{IsEntry}
use Rattle.mergings.proofs.pieces.entry_at.Goals as goal

pub returns-clause-same : goal.returns-clause-same
returns-clause-same c =
    let L = c.args.strings.now in
    c.deref.ensures.value ∙ ap vec_items c.index-strings-place.is ∙ sym (get_or-map vec_items L c.args.place c.index-strings-place.result [] c.requires.place)

pub returns-clause-entry : goal.returns-clause-entry
returns-clause-entry c =
    let L = c.args.strings.now in
    let same : c.deref.result.now ≡ get_or (map vec_items L) c.args.place [] = c.deref.ensures.value ∙ ap vec_items c.index-strings-place.is ∙ sym (get_or-map vec_items L c.args.place c.index-strings-place.result [] c.requires.place) in
    subst IsEntry (sym same) (c.requires.entries c.args.place [] (omega (arith, c.requires.place, length-map L vec_items)))
