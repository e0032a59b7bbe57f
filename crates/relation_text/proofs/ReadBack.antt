-- What is written of a graph is read back.
use Rattle.std.proofs.Common.{◌≡◌, ◌≢◌, ℕ, ◌+◌, ◌*◌, ◌<◌, ◌≤◌, Bool, true, false, cond, List, [], ◌∷◌, ◌++◌, length, drop, get_or, refl, sym, ap, ◌∙◌, arith, inl, inr}
use Rattle.std.specs.Prelude.{All, codes, nat_eq}
use Rattle.std.specs.List.{starts_with}
use Rattle.std.proofs.lemmas.Bool.{cases_order, false_from_ne_true}
use Rattle.std.proofs.lemmas.List.{get_or-map, length-map}
use Rattle.std.proofs.lemmas.List.Elements.{All-cons, All-weaker}
use Rattle.text_lines.proofs.OneLine.{lines_of-one}
use Rattle.pair_colours.specs.Colouring.{PairColouring, colour_at}
use Rattle.pair_colours.specs.ColourSets.{is_in, IsEdgeSet}
use Rattle.pair_colours.specs.declared.coloured_pairs.TheConstants.{MOST_POINTS}
use Rattle.relation_text.specs.declared.graph_format.GraphFormat.{GraphFormat}
use Rattle.relation_text.specs.declared.graph_format.GraphFormat.TheVariants.{Graph, Digraph}
use Rattle.relation_text.specs.Bits.{size_bytes, bit_bytes}
use Rattle.relation_text.specs.Orders.{column_pairs, row_pairs, pair_at, pairs_of, column_place}
use Rattle.relation_text.specs.Lines.{header_len, first_line_after, lines_at}
use Rattle.relation_text.specs.Relation.{IsRelationText, graph, digraph, IsBitText, pair_colour, bit_at}
use Rattle.relation_text.specs.Faults.{is_graph_byte}
use Rattle.relation_text.specs.Written.{pair_bits, graph6_of, digraph6_of}
use Rattle.relation_text.specs.Law.{IsGraphOf}
use Rattle.relation_text.proofs.SizeLemmas.{from_graph_byte}
use Rattle.relation_text.proofs.GraphBodies.{IsSize, body-from_IsBitText}
use Rattle.relation_text.proofs.GraphReadings.{edge_colour, edge_bit-below, edge_bit-above, edge_bit-diagonal, IsGraphLine-from_colours, IsDigraphLine-from_colours}
use Rattle.relation_text.proofs.OrderLemmas.{column_pairs-at, row_pairs-at}
use Rattle.relation_text.proofs.Readings.{begins}

-- no header stands in front of a text that begins otherwise
no_header : (text : List ℕ) → get_or text 0 0 ≢ 62 → header_len text ≡ 0
no_header text other =
    let graph6 : starts_with nat_eq text (codes ">>graph6<<") ≡ false = false_from_ne_true (starts_with nat_eq text (codes ">>graph6<<")) (λ e. other (ap (λ xs. get_or xs 0 0) (begins text (codes ">>graph6<<") e))) in
    let digraph6 : starts_with nat_eq text (codes ">>digraph6<<") ≡ false = false_from_ne_true (starts_with nat_eq text (codes ">>digraph6<<")) (λ e. other (ap (λ xs. get_or xs 0 0) (begins text (codes ">>digraph6<<") e))) in
    ap (λ b. cond b 10 (cond (starts_with nat_eq text (codes ">>digraph6<<")) 12 0)) graph6 ∙ ap (λ b. cond b 12 0) digraph6

one_line : (text : List ℕ) → 0 < length text → All (λ b. 13 < b) text → get_or text 0 0 ≢ 62 → lines_at text 1 ≡ record { start = 0; bytes = text } ∷ []
one_line text some high other = ap (first_line_after (header_len text)) (lines_of-one text some high) ∙ ap (λ k. record { start = 0 + k; bytes = drop k text } ∷ []) (no_header text other)

-- the bits of the pairs
bit_of_pair : (C : PairColouring) (set : List ℕ) (pairs : List (ℕ × ℕ)) (k i j : ℕ) → k < length pairs → pair_at pairs k ≡ (i, j) → bit_at (pair_bits C set pairs) k ≡ is_in set (colour_at C i j)
bit_of_pair C set pairs k i j h e = get_or-map (λ p. is_in set (colour_at C p.0 p.1)) pairs k (0, 0) false h ∙ ap (λ (p : ℕ × ℕ). is_in set (colour_at C p.0 p.1)) e

encoded : (format : GraphFormat) (C : PairColouring) (set : List ℕ) (n : ℕ) → C.size ≡ n → IsBitText format (size_bytes C.size ++ bit_bytes (pair_bits C set (pairs_of format C.size))) n (pair_bits C set (pairs_of format C.size))
encoded format C set n e = rw (← e) (record { text = refl; pairs = length-map (pairs_of format C.size) (λ p. is_in set (colour_at C p.0 p.1)) })

printable : (format : GraphFormat) (bytes : List ℕ) (n : ℕ) (bits : List Bool) → IsSize n → IsBitText format bytes n bits → (0 < length bytes) × All (λ b. 63 ≤ b) bytes
printable format bytes n bits size text =
    let good = body-from_IsBitText format bytes n bits size text in
    (good.some, All-weaker (λ b. is_graph_byte b ≡ true) (λ b. 63 ≤ b) (λ b e. (from_graph_byte b e).0) bytes good.printable)

same_in : (a b : Bool) → (a ≡ true → b ≡ true) → (b ≡ true → a ≡ true) → a ≡ b
same_in true b f g = sym (f refl)
same_in false true f g = g refl
same_in false false f g = refl

pub graph_read_back : (C : PairColouring) (set : List ℕ) → C.size ≤ MOST_POINTS → IsEdgeSet C set → (D : PairColouring) → IsGraphOf C set D → IsRelationText (graph6_of C set) 1 D
graph_read_back C set limit edges D is =
    let points = is.points in
    let some = is.colouring.has_points in
    let size : IsSize D.size = record { least = some; most = omega arith } in
    let bits = pair_bits C set (column_pairs C.size) in
    let text = graph6_of C set in
    let code : IsBitText Graph text D.size bits = encoded Graph C set D.size (sym points) in
    let high = printable Graph text D.size bits size code in
    let bit : (i j : ℕ) → i < j → j < C.size → bit_at bits (column_place i j) ≡ is_in set (colour_at C i j) = λ i j h l.
    let at = column_pairs-at C.size i j h l in bit_of_pair C set (column_pairs C.size) (column_place i j) i j at.0 at.1 in
    let colours : (x y : ℕ) → x < D.size → y < D.size → colour_at D x y ≡ edge_colour bits x y = λ x y h l.
    is.colours x y (omega arith) (omega arith) ∙ ap (pair_colour x y) (elim (cases_order x y) [
      | inl same ↦ ap (λ z. is_in set (colour_at C x z)) (sym same) ∙ edges.loopless x (omega arith) ∙ sym (edge_bit-diagonal bits x y same)
      | inr apart ↦ elim apart [
        | inl below ↦ sym (edge_bit-below bits x y below ∙ bit x y below (omega arith))
        | inr above ↦ same_in (is_in set (colour_at C x y)) (is_in set (colour_at C y x)) (edges.symmetric x y (omega arith) (omega arith)) (edges.symmetric y x (omega arith) (omega arith))
            ∙ sym (edge_bit-above bits x y above ∙ bit y x above (omega arith))
      ]
    ]) in
    record {
      colouring = is.colouring;
      limit = size.most;
      chosen = record { start = 0; bytes = text };
      rows = [];
      lines = one_line text high.0 (All-weaker (λ b. 63 ≤ b) (λ b. 13 < b) (λ b h. omega arith) text high.1) (λ e. let first = high.1 0 0 high.0 in omega arith);
      relation = graph (IsGraphLine-from_colours text D bits code colours);
    }

pub digraph_read_back : (C : PairColouring) (set : List ℕ) → C.size ≤ MOST_POINTS → (D : PairColouring) → IsGraphOf C set D → IsRelationText (digraph6_of C set) 1 D
digraph_read_back C set limit D is =
    let points = is.points in
    let some = is.colouring.has_points in
    let size : IsSize D.size = record { least = some; most = omega arith } in
    let bits = pair_bits C set (row_pairs C.size) in
    let body : List ℕ = size_bytes C.size ++ bit_bytes bits in
    let text = digraph6_of C set in
    let code : IsBitText Digraph body D.size bits = encoded Digraph C set D.size (sym points) in
    let high = printable Digraph body D.size bits size code in
    let colours : (x y : ℕ) → x < D.size → y < D.size → colour_at D x y ≡ pair_colour x y (bit_at bits (x * D.size + y)) = λ x y h l.
    let at = row_pairs-at C.size x y (omega arith) (omega arith) in
    is.colours x y (omega arith) (omega arith) ∙ ap (pair_colour x y) (sym (ap (λ n. bit_at bits (x * n + y)) points ∙ bit_of_pair C set (row_pairs C.size) (x * C.size + y) x y at.0 at.1)) in
    record {
      colouring = is.colouring;
      limit = size.most;
      chosen = record { start = 0; bytes = text };
      rows = [];
      lines = one_line text (omega arith) (All-cons (λ b. 13 < b) 38 body (omega arith) (All-weaker (λ b. 63 ≤ b) (λ b. 13 < b) (λ b h. omega arith) body high.1)) (λ e. omega arith);
      relation = digraph (IsDigraphLine-from_colours text body D bits refl code colours);
    }
