use Rattle.std.proofs.Common.{◌≡◌, ℕ, Bool, map, subst}
use Rattle.std.specs.Prelude.{IfOk}
use Rattle.pair_colours.specs.Colouring.{colour_at}
use Rattle.relation_text.specs.Orders.{column_pairs}
use Rattle.relation_text.proofs.writers.column_bits.Goals as goal

pub returns : goal.returns
returns c =
    let C = c.args.relation.now in
    subst (λ (t : ℕ → Bool). IfOk c.bits_in_columns-2.result (λ bits. bits.items ≡ map (λ pair. t (colour_at C pair.0 pair.1)) (column_pairs C.size))) c.in_ok-of.ensures c.bits_in_columns-2.ensures
