use Rattle.std.proofs.Common.{ap, ◌∙◌, arith}
use Rattle.std.proofs.lemmas.List.{get_or_default}
use Rattle.visitors.specs.Entries.{Met}
use Rattle.visitors.specs.declared.pieces.Piece.{Piece}
use Rattle.visitors.proofs.Packings.{inside_read, width_read}
use Rattle.visitors.proofs.packed.PackedVisitor.width.Goals as goal

pub index-requires : goal.index-requires
index-requires c = let l = inside_read c.self.inside.tails.items c.self.inside.pieces.items c.self.invariant.1 _ (ap (λ (v : Met). v.met) c.self.view_is) c.args.entry c.requires in omega (arith, l, c.self.inside.pieces.ok)

pub returns : goal.returns
returns c =
    let l = inside_read c.self.inside.tails.items c.self.inside.pieces.items c.self.invariant.1 _ (ap (λ (v : Met). v.met) c.self.view_is) c.args.entry c.requires in
    ap (λ (p : Piece). p.width) (c.index.ensures ∙ get_or_default c.self.inside.pieces.items c.args.entry c.index.result.now _ l)
    ∙ width_read c.self.inside.tails.items c.self.inside.pieces.items c.self.invariant.1 _ (ap (λ (v : Met). v.met) c.self.view_is) c.args.entry c.requires
