-- A relation text has a reading where it has no fault, and then one alone.
use Rattle.std.proofs.Common.{◌≡◌, ℕ, ◌+◌, ◌*◌, ◌<◌, ◌≤◌, Bool, true, false, cond, List, [], ◌∷◌, ◌++◌, length, drop, get_or, Option, Some, None, Result, Ok, Err, refl, sym, ap, subst, ◌∙◌, arith, inl, inr}
use Rattle.std.specs.Prelude.{codes, decimal, nat_eq, MatchOption, IfOk, OnOk}
use Rattle.std.specs.List.{starts_with}
use Rattle.std.proofs.lemmas.Bool.{cases_Bool, cases_order, eq-eqb, false_from_ne_true}
use Rattle.std.proofs.lemmas.Bool.Decides.{Decides-eqb}
use Rattle.std.proofs.lemmas.Option.{none-some}
use Rattle.std.proofs.lemmas.Slice.Eq.{starts_is}
use Rattle.text_lines.specs.Part.{Part}
use Rattle.pair_colours.specs.Colouring.{PairColouring, IsColouring, colour_at}
use Rattle.pair_colours.specs.Tests.{first_that_holds}
use Rattle.pair_colours.proofs.Exists.{by_pairs, colour_at-by_pairs, IsColouring-by_pairs}
use Rattle.relation_text.specs.declared.faults.RelationWord.{RelationWord}
use Rattle.relation_text.specs.declared.graph_format.GraphFormat.{GraphFormat}
use Rattle.relation_text.specs.declared.graph_format.GraphFormat.TheVariants.{Graph, Digraph}
use Rattle.relation_text.specs.declared.faults.RelationFault.{RelationFault}
use Rattle.relation_text.specs.Bits.{bit_in}
use Rattle.relation_text.specs.Orders.{row_pairs, column_place}
use Rattle.relation_text.specs.Lines.{lines_at, part_after}
use Rattle.relation_text.specs.Relation.{IsRelationText, IsRelation, graph, digraph, matrix, IsGraphLine, IsBitText, pair_colour, bit_at}
use Rattle.relation_text.specs.LineColours.{size_in, cell, HasEdges, HasArcs}
use Rattle.relation_text.specs.Faults.{graph_tests, matrix_tests, relation_tests, relation_fault, size_of, bits_part}
use Rattle.relation_text.proofs.GraphBodies.{IsSize, IsGraphBody, body-from_none, none-from_body, IsSize-from_body, IsBitText-from_body, body-from_IsBitText, bits_of, count_of, at_byte}
use Rattle.relation_text.proofs.GraphReadings.{edge_colour, edge_bit-below, edge_bit-above, edge_bit-diagonal, IsGraphLine-from_colours, IsDigraphLine-from_colours, same_graphs, same_digraphs}
use Rattle.relation_text.proofs.BitLemmas.{bit_at-bits_in}
use Rattle.relation_text.proofs.OrderLemmas.{column_pairs-at, row_pairs-at}
use Rattle.relation_text.proofs.MatrixReadings.{matrix-from_none, none-from_matrix, IsMatrix-from_good, good-from_IsMatrix, same_matrices}
use Rattle.pair_colours.proofs.SameColours.{SameColours, same_colouring}

-- a text that begins with another
pub begins : (xs p : List ℕ) → starts_with nat_eq xs p ≡ true → xs ≡ p ++ drop (length p) xs
begins xs p e = (starts_is Decides-eqb xs p (starts_with nat_eq xs p) refl).0 e

starts : (xs p rest : List ℕ) → xs ≡ p ++ rest → starts_with nat_eq xs p ≡ true
starts xs p rest e = (starts_is Decides-eqb xs p (starts_with nat_eq xs p) refl).1 rest e

abbrev is_matrix : Part → Bool
is_matrix chosen = starts_with nat_eq chosen.bytes (codes "matrix ")

abbrev is_digraph : Part → Bool
is_digraph chosen = starts_with nat_eq chosen.bytes (codes "&")

-- the tests by the form of the line
pub tests-matrix : (len : ℕ) (chosen : Part) (rows : List Part) → is_matrix chosen ≡ true → first_that_holds (relation_tests len (chosen ∷ rows)) ≡ first_that_holds (matrix_tests len chosen rows)
tests-matrix len chosen rows e = ap (λ b. first_that_holds (cond b (matrix_tests len chosen rows) (cond (is_digraph chosen) (graph_tests Digraph (part_after 1 chosen)) (graph_tests Graph chosen)))) e

pub tests-digraph : (len : ℕ) (chosen : Part) (rows : List Part) → is_matrix chosen ≡ false → is_digraph chosen ≡ true → first_that_holds (relation_tests len (chosen ∷ rows)) ≡ first_that_holds (graph_tests Digraph (part_after 1 chosen))
tests-digraph len chosen rows e f =
    ap (λ b. first_that_holds (cond b (matrix_tests len chosen rows) (cond (is_digraph chosen) (graph_tests Digraph (part_after 1 chosen)) (graph_tests Graph chosen)))) e
    ∙ ap (λ b. first_that_holds (cond b (graph_tests Digraph (part_after 1 chosen)) (graph_tests Graph chosen))) f

pub tests-graph : (len : ℕ) (chosen : Part) (rows : List Part) → is_matrix chosen ≡ false → is_digraph chosen ≡ false → first_that_holds (relation_tests len (chosen ∷ rows)) ≡ first_that_holds (graph_tests Graph chosen)
tests-graph len chosen rows e f =
    ap (λ b. first_that_holds (cond b (matrix_tests len chosen rows) (cond (is_digraph chosen) (graph_tests Digraph (part_after 1 chosen)) (graph_tests Graph chosen)))) e
    ∙ ap (λ b. first_that_holds (cond b (graph_tests Digraph (part_after 1 chosen)) (graph_tests Graph chosen))) f

-- so the fault of the text is the first of its line
pub fault-matrix : (text : List ℕ) (line : ℕ) (chosen : Part) (rows : List Part) → lines_at text line ≡ chosen ∷ rows → true ≡ is_matrix chosen
    → relation_fault text line ≡ first_that_holds (matrix_tests (length text) chosen rows)
fault-matrix text line chosen rows lines head = ap (λ ls. first_that_holds (relation_tests (length text) ls)) lines ∙ tests-matrix (length text) chosen rows (sym head)

pub fault-digraph : (text : List ℕ) (line : ℕ) (chosen body : Part) (rows : List Part) → lines_at text line ≡ chosen ∷ rows → false ≡ is_matrix chosen → true ≡ is_digraph chosen → body ≡ part_after 1 chosen
    → relation_fault text line ≡ first_that_holds (graph_tests Digraph body)
fault-digraph text line chosen body rows lines other ampersand is =
    ap (λ ls. first_that_holds (relation_tests (length text) ls)) lines ∙ tests-digraph (length text) chosen rows (sym other) (sym ampersand) ∙ ap (λ p. first_that_holds (graph_tests Digraph p)) (sym is)

pub fault-graph : (text : List ℕ) (line : ℕ) (chosen : Part) (rows : List Part) → lines_at text line ≡ chosen ∷ rows → false ≡ is_matrix chosen → false ≡ is_digraph chosen
    → relation_fault text line ≡ first_that_holds (graph_tests Graph chosen)
fault-graph text line chosen rows lines other plain = ap (λ ls. first_that_holds (relation_tests (length text) ls)) lines ∙ tests-graph (length text) chosen rows (sym other) (sym plain)

-- a colouring of the right colours is a reading of a line without a fault
pub graph_reading : (text : List ℕ) (line : ℕ) (chosen : Part) (rows : List Part) (C : PairColouring) → lines_at text line ≡ chosen ∷ rows → first_that_holds (graph_tests Graph chosen) ≡ None
    → IsColouring C → C.size ≡ size_of chosen.bytes → ((x y : ℕ) → x < C.size → y < C.size → colour_at C x y ≡ edge_colour (bits_of Graph chosen.bytes) x y) → IsRelationText text line C
graph_reading text line chosen rows C lines none colouring size colours =
    let good = body-from_none Graph chosen none in
    let limits = IsSize-from_body Graph chosen.bytes good in
    let most = limits.most in
    record {
      colouring = colouring;
      limit = omega arith;
      chosen = chosen;
      rows = rows;
      lines = lines;
      relation = graph (IsGraphLine-from_colours chosen.bytes C (bits_of Graph chosen.bytes) (rw size (IsBitText-from_body Graph chosen.bytes good)) colours);
    }

pub digraph_reading : (text : List ℕ) (line : ℕ) (chosen : Part) (rows : List Part) (C : PairColouring) → lines_at text line ≡ chosen ∷ rows → is_digraph chosen ≡ true → first_that_holds (graph_tests Digraph (part_after 1 chosen)) ≡ None
    → IsColouring C → C.size ≡ size_of (drop 1 chosen.bytes) → ((x y : ℕ) → x < C.size → y < C.size → colour_at C x y ≡ pair_colour x y (bit_at (bits_of Digraph (drop 1 chosen.bytes)) (x * C.size + y))) → IsRelationText text line C
digraph_reading text line chosen rows C lines ampersand none colouring size colours =
    let body = drop 1 chosen.bytes in
    let good = body-from_none Digraph (part_after 1 chosen) none in
    let limits = IsSize-from_body Digraph body good in
    let most = limits.most in
    record {
      colouring = colouring;
      limit = omega arith;
      chosen = chosen;
      rows = rows;
      lines = lines;
      relation = digraph (IsDigraphLine-from_colours chosen.bytes body C (bits_of Digraph body) (begins chosen.bytes (codes "&") ampersand) (rw size (IsBitText-from_body Digraph body good)) colours);
    }

pub matrix_reading : (text : List ℕ) (line : ℕ) (chosen : Part) (rows : List Part) (C : PairColouring) → lines_at text line ≡ chosen ∷ rows → is_matrix chosen ≡ true → first_that_holds (matrix_tests (length text) chosen rows) ≡ None
    → IsColouring C → C.size ≡ size_in chosen → ((x y : ℕ) → x < C.size → y < C.size → colour_at C x y ≡ cell rows x y) → IsRelationText text line C
matrix_reading text line chosen rows C lines head none colouring size colours =
    let good = matrix-from_none (length text) chosen rows none in
    let limits = good.size in
    let most = limits.most in
    record {
      colouring = colouring;
      limit = omega arith;
      chosen = chosen;
      rows = rows;
      lines = lines;
      relation = matrix (IsMatrix-from_good chosen rows (size_in chosen) C (begins chosen.bytes (codes "matrix ") head) good size (λ x y h l. colours x y (omega arith) (omega arith)));
    }

-- so there is a reading where there is no fault
graph_exists : (text : List ℕ) (line : ℕ) (chosen : Part) (rows : List Part) → lines_at text line ≡ chosen ∷ rows → first_that_holds (graph_tests Graph chosen) ≡ None → (C : PairColouring) × IsRelationText text line C
graph_exists text line chosen rows lines none =
    let n = size_of chosen.bytes in
    let f = edge_colour (bits_of Graph chosen.bytes) in
    let limits = IsSize-from_body Graph chosen.bytes (body-from_none Graph chosen none) in
    (by_pairs n f, graph_reading text line chosen rows (by_pairs n f) lines none (IsColouring-by_pairs n f limits.least) refl (λ x y h l. colour_at-by_pairs n f x y h l))

digraph_exists : (text : List ℕ) (line : ℕ) (chosen : Part) (rows : List Part) → lines_at text line ≡ chosen ∷ rows → is_digraph chosen ≡ true → first_that_holds (graph_tests Digraph (part_after 1 chosen)) ≡ None → (C : PairColouring) × IsRelationText text line C
digraph_exists text line chosen rows lines ampersand none =
    let body = drop 1 chosen.bytes in
    let n = size_of body in
    let f : ℕ → ℕ → ℕ = λ x y. pair_colour x y (bit_at (bits_of Digraph body) (x * n + y)) in
    let limits = IsSize-from_body Digraph body (body-from_none Digraph (part_after 1 chosen) none) in
    (by_pairs n f, digraph_reading text line chosen rows (by_pairs n f) lines ampersand none (IsColouring-by_pairs n f limits.least) refl (λ x y h l. colour_at-by_pairs n f x y h l))

matrix_exists : (text : List ℕ) (line : ℕ) (chosen : Part) (rows : List Part) → lines_at text line ≡ chosen ∷ rows → is_matrix chosen ≡ true → first_that_holds (matrix_tests (length text) chosen rows) ≡ None → (C : PairColouring) × IsRelationText text line C
matrix_exists text line chosen rows lines head none =
    let n = size_in chosen in
    let f = cell rows in
    let good = matrix-from_none (length text) chosen rows none in
    (by_pairs n f, matrix_reading text line chosen rows (by_pairs n f) lines head none (IsColouring-by_pairs n f good.size.least) refl (λ x y h l. colour_at-by_pairs n f x y h l))

chosen_exists : (text : List ℕ) (line : ℕ) (chosen : Part) (rows : List Part) → lines_at text line ≡ chosen ∷ rows → first_that_holds (relation_tests (length text) (chosen ∷ rows)) ≡ None → (C : PairColouring) × IsRelationText text line C
chosen_exists text line chosen rows lines none = elim (cases_Bool (is_matrix chosen)) [
  | inl head ↦ matrix_exists text line chosen rows lines head (sym (tests-matrix (length text) chosen rows head) ∙ none)
  | inr other ↦ elim (cases_Bool (is_digraph chosen)) [
    | inl ampersand ↦ digraph_exists text line chosen rows lines ampersand (sym (tests-digraph (length text) chosen rows other ampersand) ∙ none)
    | inr plain ↦ graph_exists text line chosen rows lines (sym (tests-graph (length text) chosen rows other plain) ∙ none)
  ]
]

reading_at : (text : List ℕ) (line : ℕ) (lines : List Part) → lines_at text line ≡ lines → first_that_holds (relation_tests (length text) lines) ≡ None → (C : PairColouring) × IsRelationText text line C
reading_at text line [] e none = absurd cc
reading_at text line (chosen ∷ rows) e none = chosen_exists text line chosen rows e none

pub reading_exists : (text : List ℕ) (line : ℕ) → relation_fault text line ≡ None → (C : PairColouring) × IsRelationText text line C
reading_exists text line none = reading_at text line (lines_at text line) refl none

-- the three forms exclude each other
printable_first : (format : GraphFormat) (bytes : List ℕ) (n : ℕ) (bits : List Bool) → IsSize n → IsBitText format bytes n bits → (k : ℕ) → k < length bytes → 63 ≤ get_or bytes k 0
printable_first format bytes n bits size encoded k h = (at_byte bytes (body-from_IsBitText format bytes n bits size encoded).printable k h).0

not_graph_matrix : (bytes rest : List ℕ) (C : PairColouring) → IsSize C.size → IsGraphLine bytes C → bytes ≡ codes "matrix " ++ rest → ⊥
not_graph_matrix bytes rest C size is e =
    let low = printable_first Graph bytes C.size is.bits size is.encoded 6 in
    let len : length bytes ≡ length (codes "matrix " ++ rest) = ap length e in
    let byte : get_or bytes 6 0 ≡ 32 = ap (λ xs. get_or xs 6 0) e in
    omega (arith, low (omega arith))

not_graph_digraph : (bytes rest : List ℕ) (C : PairColouring) → IsSize C.size → IsGraphLine bytes C → bytes ≡ codes "&" ++ rest → ⊥
not_graph_digraph bytes rest C size is e =
    let low = printable_first Graph bytes C.size is.bits size is.encoded 0 in
    let len : length bytes ≡ length (codes "&" ++ rest) = ap length e in
    let byte : get_or bytes 0 0 ≡ 38 = ap (λ xs. get_or xs 0 0) e in
    omega (arith, low (omega arith))

not_both : (bytes rest other : List ℕ) → bytes ≡ codes "&" ++ rest → bytes ≡ codes "matrix " ++ other → ⊥
not_both bytes rest other e f =
    let first : get_or bytes 0 0 ≡ 38 = ap (λ xs. get_or xs 0 0) e in
    let second : get_or bytes 0 0 ≡ 109 = ap (λ xs. get_or xs 0 0) f in
    omega arith

-- a reading has no fault
no_fault : (len : ℕ) (chosen : Part) (rows : List Part) (C : PairColouring) → IsSize C.size → IsRelation chosen rows C → first_that_holds (relation_tests len (chosen ∷ rows)) ≡ None
no_fault len chosen rows C size (graph is) =
    let other : is_matrix chosen ≡ false = false_from_ne_true (is_matrix chosen) (λ e. not_graph_matrix chosen.bytes _ C size is (begins chosen.bytes (codes "matrix ") e)) in
    let plain : is_digraph chosen ≡ false = false_from_ne_true (is_digraph chosen) (λ e. not_graph_digraph chosen.bytes _ C size is (begins chosen.bytes (codes "&") e)) in
    tests-graph len chosen rows other plain ∙ none-from_body Graph chosen (body-from_IsBitText Graph chosen.bytes C.size is.bits size is.encoded)
no_fault len chosen rows C size (digraph is) =
    let other : is_matrix chosen ≡ false = false_from_ne_true (is_matrix chosen) (λ e. not_both chosen.bytes is.body _ is.ampersand (begins chosen.bytes (codes "matrix ") e)) in
    let ampersand : is_digraph chosen ≡ true = starts chosen.bytes (codes "&") is.body is.ampersand in
    let body : drop 1 chosen.bytes ≡ is.body = ap (drop 1) is.ampersand in
    tests-digraph len chosen rows other ampersand
    ∙ none-from_body Digraph (part_after 1 chosen) (subst (IsGraphBody Digraph) (sym body) (body-from_IsBitText Digraph is.body C.size is.bits size is.encoded))
no_fault len chosen rows C size (matrix is) =
    tests-matrix len chosen rows (starts chosen.bytes (codes "matrix ") (decimal C.size) is.sized) ∙ none-from_matrix len chosen rows C.size (good-from_IsMatrix chosen rows C size is)

size_read : (text : List ℕ) (line : ℕ) (C : PairColouring) → IsRelationText text line C → IsSize C.size
size_read text line C is = record { least = is.colouring.has_points; most = is.limit }

pub no_fault-read : (text : List ℕ) (line : ℕ) (C : PairColouring) → IsRelationText text line C → relation_fault text line ≡ None
no_fault-read text line C is = ap (λ lines. first_that_holds (relation_tests (length text) lines)) is.lines ∙ no_fault (length text) is.chosen is.rows C (size_read text line C is) is.relation

-- two readings of the same lines
same_relation : (chosen : Part) (rows : List Part) (C D : PairColouring) → IsSize C.size → IsSize D.size → IsRelation chosen rows C → IsRelation chosen rows D → SameColours C D
same_relation chosen rows C D s t (graph a) (graph b) = same_graphs chosen.bytes C D a b
same_relation chosen rows C D s t (digraph a) (digraph b) = same_digraphs chosen.bytes C D a b
same_relation chosen rows C D s t (matrix a) (matrix b) = same_matrices chosen.bytes rows C D s t a b
same_relation chosen rows C D s t (graph a) (digraph b) = absurd (not_graph_digraph chosen.bytes b.body C s a b.ampersand)
same_relation chosen rows C D s t (graph a) (matrix b) = absurd (not_graph_matrix chosen.bytes (decimal D.size) C s a b.sized)
same_relation chosen rows C D s t (digraph a) (graph b) = absurd (not_graph_digraph chosen.bytes a.body D t b a.ampersand)
same_relation chosen rows C D s t (digraph a) (matrix b) = absurd (not_both chosen.bytes a.body (decimal D.size) a.ampersand b.sized)
same_relation chosen rows C D s t (matrix a) (graph b) = absurd (not_graph_matrix chosen.bytes (decimal C.size) D t b a.sized)
same_relation chosen rows C D s t (matrix a) (digraph b) = absurd (not_both chosen.bytes b.body (decimal C.size) b.ampersand a.sized)

pub reading_is_unique : (text : List ℕ) (line : ℕ) (C D : PairColouring) → IsRelationText text line C → IsRelationText text line D → C ≡ D
reading_is_unique text line C D a b =
    let lines : a.chosen ∷ a.rows ≡ b.chosen ∷ b.rows = sym a.lines ∙ b.lines in
    let chosen : a.chosen ≡ b.chosen = cc in
    let rows : a.rows ≡ b.rows = cc in
    let other : IsRelation a.chosen a.rows D = subst (λ (p : Part). IsRelation p a.rows D) (sym chosen) (subst (λ (ps : List Part). IsRelation b.chosen ps D) (sym rows) b.relation) in
    same_colouring C D a.colouring b.colouring (same_relation a.chosen a.rows C D (size_read text line C a) (size_read text line D b) a.relation other)

pub fault_has_no_reading : (text : List ℕ) (line : ℕ) (fault : RelationWord × ℕ) → relation_fault text line ≡ Some fault → (C : PairColouring) → ¬ IsRelationText text line C
fault_has_no_reading text line fault e C is = none-some fault (sym (no_fault-read text line C is) ∙ e)

fault_or_reading : (text : List ℕ) (line : ℕ) (o : Option (RelationWord × ℕ)) → relation_fault text line ≡ o → MatchOption o ((C : PairColouring) × IsRelationText text line C) (λ _. (C : PairColouring) → ¬ IsRelationText text line C)
fault_or_reading text line None e = reading_exists text line e
fault_or_reading text line (Some fault) e = fault_has_no_reading text line fault e

pub reads_or_fails : (text : List ℕ) (line : ℕ) → 1 ≤ line → MatchOption (relation_fault text line) ((C : PairColouring) × IsRelationText text line C) (λ _. (C : PairColouring) → ¬ IsRelationText text line C)
reads_or_fails text line h = fault_or_reading text line (relation_fault text line) refl

-- the bits of a good line are those that its bytes hold
edges_hold : (bytes : List ℕ) (C : PairColouring) → C.size ≡ size_of bytes → HasEdges (bits_part bytes) C → (x y : ℕ) → x < C.size → y < C.size → colour_at C x y ≡ edge_colour (bits_of Graph bytes) x y
edges_hold bytes C size has x y h l = elim (cases_order x y) [
  | inl same ↦ ap (λ z. colour_at C x z) (sym same) ∙ has.diagonal x h ∙ sym (ap (pair_colour x y) (edge_bit-diagonal (bits_of Graph bytes) x y same) ∙ ap (λ t. cond t 0 2) (eq-eqb x y same))
  | inr apart ↦ elim apart [
    | inl below ↦ has.edge x y below l ∙ ap (pair_colour x y) (sym (edge_bit-below (bits_of Graph bytes) x y below ∙ bit x y below l))
    | inr above ↦ has.turned y x above h ∙ ap (pair_colour x y) (sym (edge_bit-above (bits_of Graph bytes) x y above ∙ bit y x above h))
  ]
]
  where
    bit : (i j : ℕ) → i < j → j < C.size → bit_at (bits_of Graph bytes) (column_place i j) ≡ bit_in (bits_part bytes) (column_place i j)
    bit i j b w = bit_at-bits_in (count_of Graph (size_of bytes)) (bits_part bytes) (column_place i j) (column_pairs-at (size_of bytes) i j b (omega arith)).0

arcs_hold : (bytes : List ℕ) (C : PairColouring) → C.size ≡ size_of bytes → HasArcs (bits_part bytes) C → (x y : ℕ) → x < C.size → y < C.size → colour_at C x y ≡ pair_colour x y (bit_at (bits_of Digraph bytes) (x * C.size + y))
arcs_hold bytes C size has x y h l =
    let within : x * C.size + y < count_of Digraph (size_of bytes) = subst (λ (n : ℕ). x * C.size + y < length (row_pairs n)) size (row_pairs-at C.size x y h l).0 in
    has.arc x y h l ∙ ap (pair_colour x y) (sym (bit_at-bits_in (count_of Digraph (size_of bytes)) (bits_part bytes) (x * C.size + y) within))

pub graph_read : (text : List ℕ) (line : ℕ) (chosen : Part) (rows : List Part) (r : Result PairColouring RelationFault) → lines_at text line ≡ chosen ∷ rows → OnOk r (first_that_holds (graph_tests Graph chosen) ≡ None)
    → IfOk r (λ c. IsColouring c) → IfOk r (λ c. c.size ≡ size_of chosen.bytes) → IfOk r (λ c. HasEdges (bits_part chosen.bytes) c) → IfOk r (λ c. IsRelationText text line c)
graph_read text line chosen rows (Ok c) lines none colouring size edges = graph_reading text line chosen rows c lines none colouring size (edges_hold chosen.bytes c size edges)
graph_read text line chosen rows (Err e) lines none colouring size edges = tt

pub digraph_read : (text : List ℕ) (line : ℕ) (chosen body : Part) (rows : List Part) (r : Result PairColouring RelationFault) → lines_at text line ≡ chosen ∷ rows → true ≡ is_digraph chosen → body ≡ part_after 1 chosen
    → OnOk r (first_that_holds (graph_tests Digraph body) ≡ None) → IfOk r (λ c. IsColouring c) → IfOk r (λ c. c.size ≡ size_of body.bytes) → IfOk r (λ c. HasArcs (bits_part body.bytes) c) → IfOk r (λ c. IsRelationText text line c)
digraph_read text line chosen body rows (Ok c) lines ampersand is none colouring size arcs =
    let size_too : c.size ≡ size_of (drop 1 chosen.bytes) = size ∙ ap (λ p. size_of p.bytes) is in
    digraph_reading text line chosen rows c lines (sym ampersand) (ap (λ p. first_that_holds (graph_tests Digraph p)) (sym is) ∙ none) colouring size_too
    (arcs_hold (drop 1 chosen.bytes) c size_too (subst (λ (p : Part). HasArcs (bits_part p.bytes) c) is arcs))
digraph_read text line chosen body rows (Err e) lines ampersand is none colouring size arcs = tt

pub matrix_read : (text : List ℕ) (line : ℕ) (chosen : Part) (rows : List Part) (r : Result PairColouring RelationFault) → lines_at text line ≡ chosen ∷ rows → true ≡ is_matrix chosen → OnOk r (first_that_holds (matrix_tests (length text) chosen rows) ≡ None)
    → IfOk r (λ c. IsColouring c) → IfOk r (λ c. c.size ≡ size_in chosen) → IfOk r (λ c. (x y : ℕ) → x < c.size → y < c.size → colour_at c x y ≡ cell rows x y) → IfOk r (λ c. IsRelationText text line c)
matrix_read text line chosen rows (Ok c) lines head none colouring size cells = matrix_reading text line chosen rows c lines (sym head) none colouring size cells
matrix_read text line chosen rows (Err e) lines head none colouring size cells = tt
