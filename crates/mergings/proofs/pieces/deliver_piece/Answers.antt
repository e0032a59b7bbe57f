use Rattle.std.proofs.Common.{◌-◌, length, length-append, map, vec_items, All, sym, ap, subst, ◌∙◌, arith}
use Rattle.std.proofs.lemmas.List.{length-map}
use Rattle.visitors.specs.Entries.{IsEntry}
use Rattle.mergings.specs.Cuts.{IsListCut}
use Rattle.mergings.specs.Mergings.{IsMergings}
use Rattle.mergings.proofs.ListParts.{front_none, front_whole, piece_entries, piece_front, piece_end, piece_next}
use Rattle.mergings.proofs.pieces.deliver_piece.Goals as goal

pub returns-in_err-find_piece-clause-front : goal.returns-in_err-find_piece-clause-front
returns-in_err-find_piece-clause-front g c = front_none _ _

pub deliver_strings-requires-clause-entries : goal.deliver_strings-requires-clause-entries
deliver_strings-requires-clause-entries g c = subst (All IsEntry) (sym c.strings-strings.ensures) (piece_entries c.args.k.now c.rank.ensures.configuration c.requires.small c.args.after c.args.size _ c.in_ok-find_piece.ensures)

pub returns-in_err-deliver_strings-clause-front : goal.returns-in_err-deliver_strings-clause-front
returns-in_err-deliver_strings-clause-front g c =
    piece_front c.args.k.now c.args.after c.args.size _ _ _ (subst (IsListCut (IsMergings c.args.k.now c.args.after) c.args.size) (sym c.strings-strings.ensures) c.in_ok-find_piece.ensures) c.in_err-deliver_strings.ensures.front

pub returns-in-Stop-clause-front : goal.returns-in-Stop-clause-front
returns-in-Stop-clause-front g c =
    piece_front c.args.k.now c.args.after c.args.size _ _ _ (subst (IsListCut (IsMergings c.args.k.now c.args.after) c.args.size) (sym c.strings-strings.ensures) c.in_ok-find_piece.ensures) c.in_ok-deliver_strings.ensures.front

pub returns-in-Stop-clause-end : goal.returns-in-Stop-clause-end
returns-in-Stop-clause-end g c = λ _.
    front_whole _ _ _ _
    (piece_front c.args.k.now c.args.after c.args.size _ _ _ (subst (IsListCut (IsMergings c.args.k.now c.args.after) c.args.size) (sym c.strings-strings.ensures) c.in_ok-find_piece.ensures) c.in_ok-deliver_strings.ensures.front)
    (c.in_ok-deliver_strings.ensures.stop c.in-Stop.is)

pub returns-then-strings-size-clause-front : goal.returns-then-strings-size-clause-front
returns-then-strings-size-clause-front g c =
    piece_front c.args.k.now c.args.after c.args.size _ _ _ (subst (IsListCut (IsMergings c.args.k.now c.args.after) c.args.size) (sym c.strings-strings.ensures) c.in_ok-find_piece.ensures) c.in_ok-deliver_strings.ensures.front

pub returns-then-strings-size-clause-end : goal.returns-then-strings-size-clause-end
returns-then-strings-size-clause-end g c = λ _.
    piece_end c.args.k.now c.args.after c.args.size _ _ _ (subst (IsListCut (IsMergings c.args.k.now c.args.after) c.args.size) (sym c.strings-strings.ensures) c.in_ok-find_piece.ensures) _
    (c.in_ok-deliver_strings.ensures.more c.in-More.is)
    (omega (arith, c.if-strings-size.true, length-map c.strings-strings.result.now vec_items))
    (c.in_ok-deliver_strings.ensures.space c.in-More.is)

pub returns-in_err-last-clause-front : goal.returns-in_err-last-clause-front
returns-in_err-last-clause-front g c =
    piece_front c.args.k.now c.args.after c.args.size _ _ _ (subst (IsListCut (IsMergings c.args.k.now c.args.after) c.args.size) (sym c.strings-strings.ensures) c.in_ok-find_piece.ensures) c.in_ok-deliver_strings.ensures.front

pub returns-clause-front : goal.returns-clause-front
returns-clause-front g c =
    piece_front c.args.k.now c.args.after c.args.size _ _ _ (subst (IsListCut (IsMergings c.args.k.now c.args.after) c.args.size) (sym c.strings-strings.ensures) c.in_ok-find_piece.ensures) c.in_ok-deliver_strings.ensures.front

pub returns-clause-next : goal.returns-clause-next
returns-clause-next g c =
    let strings = map vec_items c.strings-strings.result.now in
    let added = c.in_ok-deliver_strings.ensures.more c.in-More.is in
    piece_next c.args.k.now c.args.after c.args.size strings _ _ (subst (IsListCut (IsMergings c.args.k.now c.args.after) c.args.size) (sym c.strings-strings.ensures) c.in_ok-find_piece.ensures) (c.args.size - 1) c.in_ok-last.last.items
    (omega (arith, c.requires.size))
    added
    (omega (arith, c.if-strings-size.false, length-map c.strings-strings.result.now vec_items))
    (c.in_ok-last.ensures.items ∙ c.entry_at.ensures.same)
    (ap length added ∙ length-append _ strings)

pub entry_at-requires-clause-entries : goal.entry_at-requires-clause-entries
entry_at-requires-clause-entries g c = subst (All IsEntry) (sym c.strings-strings.ensures) (piece_entries c.args.k.now c.rank.ensures.configuration c.requires.small c.args.after c.args.size _ c.in_ok-find_piece.ensures)
