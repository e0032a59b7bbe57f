-- Every equitable partition refines the partitions on the way of the steps, and so the cells of an accepted claim.
use Rattle.std.proofs.Common.{◌≡◌, ◌==◌, ℕ, ◌<◌, List, [], ◌∷◌, length, get_or, map, refl, sym, ap, subst, ◌∙◌, arith}
use Rattle.std.specs.List.{position_or_len}
use Rattle.std.proofs.lemmas.Bool.{eqb-true}
use Rattle.std.proofs.lemmas.Grind.{same_number_lists}
use Rattle.std.proofs.lemmas.List.{length-map, get_or-map, length-replicate, get_or-replicate}
use Rattle.std.proofs.lemmas.List.Sums.{passes_at_first}
use Rattle.pair_colours.specs.Colouring.{PairColouring}
use Rattle.pair_colours.proofs.NumberedLists.{any_position}
use Rattle.pair_colours.proofs.Places.{first_place}
use Rattle.equitable.specs.declared.cell_steps.CellStep.{CellStep}
use Rattle.equitable.specs.Equitable.{IsEquitable, IsCells, numbered}
use Rattle.equitable.specs.CellSplit.{key_of, split_of, cells_after}
use Rattle.equitable.specs.Acceptance.{one_cell, last_cells}
use Rattle.equitable.specs.Law.{AcceptedAreCells, CellsAreUnique}
use Rattle.equitable.proofs.ArcCounts.{IsCoarser, arcs_coarser}
use Rattle.equitable.proofs.CellNumbers.{IsCell, length-numbered, numbered_same, same_numbered, numbered-numbered, numbered-renamed}
use Rattle.equitable.proofs.Parts.{new_number, parted_at, length-parted_by}

-- the partition with one cell is the coarsest of all
pub IsCoarser-one_cell : (n : ℕ) (V : List ℕ) → IsCoarser n V (one_cell n)
IsCoarser-one_cell n V = record { together = λ x y hx hy e. get_or-replicate n x 0 0 hx ∙ sym (get_or-replicate n y 0 0 hy) }

-- a step keeps what refines the partition before it and is equitable
pub IsCoarser-split_of : (G : PairColouring) (V W : List ℕ) (s : CellStep) → IsEquitable G V → length W ≡ G.size → IsCoarser G.size V W
    → IsCoarser G.size V (split_of G W s)
IsCoarser-split_of G V W s v len h = record {
  together = λ x y hx hy e.
      let own = h.together x y hx hy e in
      let key : key_of G W s x ≡ key_of G W s y = arcs_coarser G V W v.cells h x y (v.arcs x y hx hy e) s.into in
      parted_at W s.cell (key_of G W s) x (omega (arith, hx, len))
      ∙ (λ i. new_number W s.cell (key_of G W s) (own i) (key i))
      ∙ sym (parted_at W s.cell (key_of G W s) y (omega (arith, hy, len)));
}

-- and so do the steps
pub IsCoarser-cells_after : (G : PairColouring) (V W : List ℕ) (steps : List CellStep) → IsEquitable G V → length W ≡ G.size → IsCoarser G.size V W
    → IsCoarser G.size V (cells_after G W steps)
IsCoarser-cells_after G V W [] v len h = h
IsCoarser-cells_after G V W (s ∷ steps) v len h =
    IsCoarser-cells_after G V (split_of G W s) steps v (length-parted_by W s.cell (key_of G W s) ∙ len) (IsCoarser-split_of G V W s v len h)

-- the numbering of an equitable partition is equitable
pub IsEquitable-numbered : (G : PairColouring) (W : List ℕ) → IsEquitable G W → IsEquitable G (numbered W)
IsEquitable-numbered G W h = record {
  cells = length-numbered W ∙ h.cells;
  arcs = λ x y hx hy e.
      arcs_coarser G W (numbered W) h.cells coarser x y
      (h.arcs x y hx hy (same_numbered W x y (omega (arith, hx, h.cells)) (omega (arith, hy, h.cells)) e));
}
  where
    coarser : IsCoarser G.size W (numbered W)
    coarser = record { together = λ x y hx hy e. numbered_same W x y (omega (arith, hx, h.cells)) (omega (arith, hy, h.cells)) e }

-- an accepted claim shows the coarsest equitable partition
pub accepted_are_cells : AcceptedAreCells
accepted_are_cells claim a =
    let G = claim.arcs in
    let W = last_cells claim in
    subst (IsCells G) (sym a.named) (record {
      equitable = IsEquitable-numbered G W a.equitable;
      named = numbered-numbered W;
      coarsest = λ V v x y hx hy e.
          let h = IsCoarser-cells_after G V (one_cell G.size) claim.steps v (length-replicate G.size 0) (IsCoarser-one_cell G.size V) in
          numbered_same W x y (omega (arith, hx, a.equitable.cells)) (omega (arith, hy, a.equitable.cells)) (h.together x y hx hy e);
    })

-- two coarsest equitable partitions have the same cells, and so one numbering
pub cells_are_unique : CellsAreUnique
cells_are_unique G V W v w =
    sym v.named ∙ same_numbering ∙ w.named
  where
    len : length V ≡ length W
    len = v.equitable.cells ∙ sym w.equitable.cells

    over : ℕ → ℕ
    over c = get_or W (position_or_len (λ x. c == x) V) 0

    over_at : (x : ℕ) → x < length V → over (get_or V x 0) ≡ get_or W x 0
    over_at x l =
        let c : ℕ = get_or V x 0 in
        let f = first_place V x c l refl in
        w.coarsest V v.equitable (position_or_len (λ y. c == y) V) x (omega (arith, f.0, v.equitable.cells)) (omega (arith, l, v.equitable.cells)) f.1

    apart : (c d : ℕ) → IsCell V c → IsCell V d → over c ≡ over d → c ≡ d
    apart c d hc hd e =
        let p = any_position (λ x. c == x) V hc in
        let q = any_position (λ x. d == x) V hd in
        let ep : c ≡ get_or V (position_or_len (λ x. c == x) V) 0 = eqb-true c _ (passes_at_first (λ x. c == x) V 0 p) in
        let eq : d ≡ get_or V (position_or_len (λ x. d == x) V) 0 = eqb-true d _ (passes_at_first (λ x. d == x) V 0 q) in
        ep ∙ v.coarsest W w.equitable (position_or_len (λ x. c == x) V) (position_or_len (λ x. d == x) V) (omega (arith, p, v.equitable.cells))
        (omega (arith, q, v.equitable.cells)) e ∙ sym eq

    renamed : map over V ≡ W
    renamed =
        same_number_lists (map over V) W (length-map V over ∙ len)
        (λ x l. let k : x < length V = omega (arith, l, length-map V over) in get_or-map over V x 0 0 k ∙ over_at x k)

    same_numbering : numbered V ≡ numbered W
    same_numbering = sym (numbered-renamed over V apart) ∙ ap numbered renamed
