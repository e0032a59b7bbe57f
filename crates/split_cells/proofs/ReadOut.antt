-- A partition read out as a colouring.
use Rattle.std.proofs.Common.{◌≡◌, ℕ, ◌*◌, ◌/◌, ◌%◌, ◌<◌, length, get_or, sym, ap, subst, ◌∙◌}
use Rattle.std.proofs.lemmas.List.{ext_get_or}
use Rattle.pair_colours.specs.Colouring.{PairColouring, IsColouring, colour_at}
use Rattle.pair_colours.proofs.Places.{at_place, row_below, column_below}

-- as many colours that agree with those of A at each pair are those of A
pub same_at_pairs : (A N : PairColouring) → IsColouring A → N.size ≡ A.size → length N.colours ≡ A.size * A.size
    → ((x y : ℕ) → x < A.size → y < A.size → colour_at N x y ≡ colour_at A x y) → N ≡ A
same_at_pairs A N a sizes len same = λ i. record { size = sizes i; colours = lists i }
  where
    at : (p : ℕ) → p < length N.colours → get_or N.colours p 0 ≡ get_or A.colours p 0
    at p h =
        let inside : p < A.size * A.size = subst (λ (n : ℕ). p < n) len h in
        sym (at_place N p) ∙ ap (λ n. colour_at N (p / n) (p % n)) sizes
        ∙ same (p / A.size) (p % A.size) (row_below A.size p a.has_points inside) (column_below A.size p a.has_points) ∙ at_place A p

    lists : N.colours ≡ A.colours
    lists = ext_get_or 0 N.colours A.colours (len ∙ sym a.has_pairs) at
