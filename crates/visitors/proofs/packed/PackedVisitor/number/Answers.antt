use Rattle.std.proofs.Common.{◌<◌, sym, ap, subst, ◌∙◌, arith, length, slice_index}
use Rattle.visitors.specs.Entries.{Met}
use Rattle.visitors.specs.Packing.{piece_at, unpacked}
use Rattle.visitors.proofs.Packings.{inside_read, width_read, entry_read}
use Rattle.visitors.proofs.packed.PackedVisitor.number.Goals as goal

pub number_at-requires-clause-entry : goal.number_at-requires-clause-entry
number_at-requires-clause-entry c =
    subst (λ ps. c.args.entry < length ps) (sym c.deref-2.ensures.value)
    (inside_read c.self.inside.tails.items c.self.inside.pieces.items c.self.invariant.1 _ (ap (λ (v : Met). v.met) c.self.view_is) c.args.entry c.requires.entry)

pub number_at-requires-clause-place : goal.number_at-requires-clause-place
number_at-requires-clause-place c =
    subst (λ ps. c.args.place < (piece_at ps c.args.entry).width) (sym c.deref-2.ensures.value)
    (omega (arith, c.requires.place, width_read c.self.inside.tails.items c.self.inside.pieces.items c.self.invariant.1 _ (ap (λ (v : Met). v.met) c.self.view_is) c.args.entry c.requires.entry))

pub returns : goal.returns
returns c =
    c.number_at.ensures
    ∙ (λ i. slice_index (unpacked (c.deref.ensures.value i) (c.deref-2.ensures.value i) c.args.entry) c.args.place)
    ∙ ap (λ xs. slice_index xs c.args.place) (entry_read c.self.inside.tails.items c.self.inside.pieces.items c.self.invariant.1 _ (ap (λ (v : Met). v.met) c.self.view_is) c.args.entry c.requires.entry)
