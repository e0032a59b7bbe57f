-- What a graph line tells of each pair.
use Rattle.std.proofs.Common.{◌≡◌, ℕ, ◌+◌, ◌*◌, ◌<◌, Bool, false, cond, ltb, List, ◌++◌, refl, sym, ap, subst, ◌∙◌, arith, inl, inr}
use Rattle.std.specs.Prelude.{codes}
use Rattle.std.proofs.lemmas.List.{append_cancel_left}
use Rattle.std.proofs.lemmas.Bool.{cases_order, lt-ltb, le-ltb}
use Rattle.pair_colours.specs.Colouring.{PairColouring, colour_at}
use Rattle.relation_text.specs.declared.graph_format.GraphFormat.{GraphFormat}
use Rattle.relation_text.specs.declared.graph_format.GraphFormat.TheVariants.{Graph, Digraph}
use Rattle.relation_text.specs.Bits.{size_bytes, bit_bytes}
use Rattle.relation_text.specs.Orders.{column_place}
use Rattle.relation_text.specs.Relation.{IsBitText, IsGraphLine, IsDigraphLine, pair_colour, bit_at}
use Rattle.relation_text.specs.Faults.{size_of}
use Rattle.relation_text.proofs.SizeLemmas.{size_of-size_bytes}
use Rattle.relation_text.proofs.BitLemmas.{same_bits}
use Rattle.relation_text.proofs.OrderLemmas.{column_pairs-at, column_pairs-all, row_pairs-at, row_pairs-all}
use Rattle.pair_colours.proofs.SameColours.{SameColours}

-- one text has one size and one list of bits
pub same_size : (format : GraphFormat) (bytes : List ℕ) (m n : ℕ) (x y : List Bool) → IsBitText format bytes m x → IsBitText format bytes n y → m ≡ n
same_size format bytes m n x y a b = sym (size_of-size_bytes m (bit_bytes x)) ∙ ap size_of (sym a.text ∙ b.text) ∙ size_of-size_bytes n (bit_bytes y)

pub same_encoded : (format : GraphFormat) (bytes : List ℕ) (n : ℕ) (x y : List Bool) → IsBitText format bytes n x → IsBitText format bytes n y → x ≡ y
same_encoded format bytes n x y a b = same_bits x y (a.pairs ∙ sym b.pairs) (append_cancel_left (size_bytes n) (bit_bytes x) (bit_bytes y) (sym a.text ∙ b.text))

-- the bit of a pair in a graph, and its colour
abbrev pub edge_bit : List Bool → ℕ → ℕ → Bool
edge_bit bits x y = cond (ltb x y) (bit_at bits (column_place x y)) (cond (ltb y x) (bit_at bits (column_place y x)) false)

abbrev pub edge_colour : List Bool → ℕ → ℕ → ℕ
edge_colour bits x y = pair_colour x y (edge_bit bits x y)

pub edge_bit-below : (bits : List Bool) (x y : ℕ) → x < y → edge_bit bits x y ≡ bit_at bits (column_place x y)
edge_bit-below bits x y h = ap (λ t. cond t (bit_at bits (column_place x y)) (cond (ltb y x) (bit_at bits (column_place y x)) false)) (lt-ltb x y h)

pub edge_bit-above : (bits : List Bool) (x y : ℕ) → y < x → edge_bit bits x y ≡ bit_at bits (column_place y x)
edge_bit-above bits x y h =
    ap (λ t. cond t (bit_at bits (column_place x y)) (cond (ltb y x) (bit_at bits (column_place y x)) false)) (le-ltb x y (omega arith))
    ∙ ap (λ t. cond t (bit_at bits (column_place y x)) false) (lt-ltb y x h)

pub edge_bit-diagonal : (bits : List Bool) (x y : ℕ) → x ≡ y → edge_bit bits x y ≡ false
edge_bit-diagonal bits x y h =
    ap (λ t. cond t (bit_at bits (column_place x y)) (cond (ltb y x) (bit_at bits (column_place y x)) false)) (le-ltb x y (omega arith))
    ∙ ap (λ t. cond t (bit_at bits (column_place y x)) false) (le-ltb y x (omega arith))

-- each pair of a graph line has the colour of its bit
pub colour_at-graph : (line : List ℕ) (C : PairColouring) (graph : IsGraphLine line C) (x y : ℕ) → x < C.size → y < C.size → colour_at C x y ≡ edge_colour graph.bits x y
colour_at-graph line C graph x y h l = elim (cases_order x y) [
  | inl same ↦ ap (λ z. colour_at C x z) (sym same) ∙ graph.diagonal x h ∙ ap (λ z. pair_colour x z false) same ∙ ap (pair_colour x y) (sym (edge_bit-diagonal graph.bits x y same))
  | inr apart ↦ elim apart [
    | inl below ↦
        let at = column_pairs-at C.size x y below l in
        let k = column_place x y in
        let edge = graph.edge k (omega (arith, graph.encoded.pairs, at.0)) in
        subst (λ (p : ℕ × ℕ). colour_at C p.0 p.1 ≡ pair_colour p.0 p.1 (bit_at graph.bits k)) at.1 edge ∙ ap (pair_colour x y) (sym (edge_bit-below graph.bits x y below))
    | inr above ↦
        let at = column_pairs-at C.size y x above h in
        let k = column_place y x in
        let turned = graph.turned k (omega (arith, graph.encoded.pairs, at.0)) in
        subst (λ (p : ℕ × ℕ). colour_at C p.1 p.0 ≡ pair_colour p.1 p.0 (bit_at graph.bits k)) at.1 turned ∙ ap (pair_colour x y) (sym (edge_bit-above graph.bits x y above))
  ]
]

-- and where each pair has that colour, the line is a graph line
pub IsGraphLine-from_colours : (line : List ℕ) (C : PairColouring) (bits : List Bool) → IsBitText Graph line C.size bits
    → ((x y : ℕ) → x < C.size → y < C.size → colour_at C x y ≡ edge_colour bits x y) → IsGraphLine line C
IsGraphLine-from_colours line C bits encoded colours = record {
  bits = bits;
  encoded = encoded;
  diagonal = λ i h. colours i i h h ∙ ap (pair_colour i i) (edge_bit-diagonal bits i i refl);
  edge = λ k h.
      let at = column_pairs-all C.size k (omega (arith, encoded.pairs)) in
      let below = at.below in
      let within = at.within in
      subst (λ (p : ℕ × ℕ). colour_at C p.0 p.1 ≡ pair_colour p.0 p.1 (bit_at bits k)) (sym at.pair)
      (colours at.i at.j (omega arith) within ∙ ap (pair_colour at.i at.j) (edge_bit-below bits at.i at.j below ∙ ap (bit_at bits) (sym at.place)));
  turned = λ k h.
      let at = column_pairs-all C.size k (omega (arith, encoded.pairs)) in
      let below = at.below in
      let within = at.within in
      subst (λ (p : ℕ × ℕ). colour_at C p.1 p.0 ≡ pair_colour p.1 p.0 (bit_at bits k)) (sym at.pair)
      (colours at.j at.i within (omega arith) ∙ ap (pair_colour at.j at.i) (edge_bit-above bits at.j at.i below ∙ ap (bit_at bits) (sym at.place)));
}

-- each pair of a digraph line has the colour of its bit, and so too the other way round
pub colour_at-digraph : (line : List ℕ) (C : PairColouring) (digraph : IsDigraphLine line C) (x y : ℕ) → x < C.size → y < C.size → colour_at C x y ≡ pair_colour x y (bit_at digraph.bits (x * C.size + y))
colour_at-digraph line C digraph x y h l =
    let at = row_pairs-at C.size x y h l in
    let k = x * C.size + y in
    subst (λ (p : ℕ × ℕ). colour_at C p.0 p.1 ≡ pair_colour p.0 p.1 (bit_at digraph.bits k)) at.1 (digraph.arc k (omega (arith, digraph.encoded.pairs, at.0)))

pub IsDigraphLine-from_colours : (line body : List ℕ) (C : PairColouring) (bits : List Bool) → line ≡ codes "&" ++ body → IsBitText Digraph body C.size bits
    → ((x y : ℕ) → x < C.size → y < C.size → colour_at C x y ≡ pair_colour x y (bit_at bits (x * C.size + y))) → IsDigraphLine line C
IsDigraphLine-from_colours line body C bits ampersand encoded colours = record {
  body = body;
  ampersand = ampersand;
  bits = bits;
  encoded = encoded;
  arc = λ k h.
      let at = row_pairs-all C.size k (omega (arith, encoded.pairs)) in
      subst (λ (p : ℕ × ℕ). colour_at C p.0 p.1 ≡ pair_colour p.0 p.1 (bit_at bits k)) (sym at.pair)
      (colours at.i at.j at.row at.column ∙ ap (pair_colour at.i at.j) (ap (bit_at bits) (sym at.place)));
}

-- two readings of a graph line have the same colours
pub same_graphs : (line : List ℕ) (C D : PairColouring) → IsGraphLine line C → IsGraphLine line D → SameColours C D
same_graphs line C D a b =
    let sizes : C.size ≡ D.size = same_size Graph line C.size D.size a.bits b.bits a.encoded b.encoded in
    let bits : a.bits ≡ b.bits = same_encoded Graph line C.size a.bits b.bits a.encoded (subst (λ (n : ℕ). IsBitText Graph line n b.bits) (sym sizes) b.encoded) in
    record {
      sizes = sizes;
      colours = λ x y h l. colour_at-graph line C a x y h l ∙ ap (λ z. edge_colour z x y) bits ∙ sym (colour_at-graph line D b x y (omega arith) (omega arith));
    }

pub same_digraphs : (line : List ℕ) (C D : PairColouring) → IsDigraphLine line C → IsDigraphLine line D → SameColours C D
same_digraphs line C D a b =
    let bodies : a.body ≡ b.body = append_cancel_left (codes "&") a.body b.body (sym a.ampersand ∙ b.ampersand) in
    let other : IsBitText Digraph a.body D.size b.bits = subst (λ (bytes : List ℕ). IsBitText Digraph bytes D.size b.bits) (sym bodies) b.encoded in
    let sizes : C.size ≡ D.size = same_size Digraph a.body C.size D.size a.bits b.bits a.encoded other in
    let bits : a.bits ≡ b.bits = same_encoded Digraph a.body C.size a.bits b.bits a.encoded (subst (λ (n : ℕ). IsBitText Digraph a.body n b.bits) (sym sizes) other) in
    record {
      sizes = sizes;
      colours = λ x y h l. colour_at-digraph line C a x y h l ∙ ap (λ z. pair_colour x y (bit_at z (x * C.size + y))) bits ∙ ap (λ n. pair_colour x y (bit_at b.bits (x * n + y))) sizes
          ∙ sym (colour_at-digraph line D b x y (omega arith) (omega arith));
    }
