use Rattle.std.proofs.Common.{length, ap, arith}
use Rattle.visitors.specs.Entries.{Met}
use Rattle.visitors.proofs.Packings.{length-all}
use Rattle.visitors.proofs.packed.PackedVisitor.len.Goals as goal

pub returns : goal.returns
returns c = omega (arith, c.len.ensures, c.self.inside.pieces.ok, length-all c.self.inside.tails.items c.self.inside.pieces.items, ap (λ (v : Met). length v.met) c.self.view_is)
