use Rattle.std.proofs.Common.{ℕ, ◌+◌, ◌*◌, List, length, get_or, slice_get, ap, ◌∙◌, Bor}
use Rattle.std.proofs.lemmas.Option.{IfSome_then}
use Rattle.pair_colours.proofs.SquareRows.{length-rows, row_at}
use Rattle.pair_colours.proofs.coloured_pairs.Colouring.from_rows.Goals as goal

pub invariant_of-result : goal.invariant_of-result
invariant_of-result c =
    let rows = c.args.rows.now in
    record {
      colouring = record { has_points = c.requires.has_points; has_pairs = ap length c.in_ok-colours.ensures.rows ∙ length-rows (λ (row : Bor (List ℕ)). row.now) (length rows) rows c.requires.square };
      limit = c.requires.limit;
      numbers = c.in_ok-colours.ensures.small;
    }

pub returns-clause-pairs : goal.returns-clause-pairs
returns-clause-pairs c x y hx hy =
    let rows = c.args.rows.now in
    let n = length rows in
    IfSome_then (slice_get rows x) (row_at (λ (row : Bor (List ℕ)). row.now) n rows c.requires.square x y hy)
    (λ row is. ap (λ (colours : List ℕ). get_or colours (x * n + y) 0) c.in_ok-colours.ensures.rows ∙ is)
