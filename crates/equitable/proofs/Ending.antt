-- What the end of the steps says of a claim.
use Rattle.std.proofs.Common.{◌≡◌, ◌↔◌, ℕ, ◌+◌, ◌-◌, ◌*◌, ◌/◌, ◌%◌, ◌<◌, ◌≤◌, ⊎_elim, set, Bool, IsTrue, List, [], ◌∷◌, length, get_or, map, refl, sym, ap, subst, ◌∙◌, arith, if◌then◌else◌}
use Rattle.std.proofs.lemmas.Bool.{cases_lt}
use Rattle.std.proofs.lemmas.Nat.{div-add-mod'}
use Rattle.std.proofs.lemmas.List.{length-replicate, length-map, get_or-map, get_or-set_other, get_or-set_same}
use Rattle.std.proofs.lemmas.Grind.{same_number_lists}
use Rattle.pair_colours.specs.Colouring.{PairColouring, colour_at}
use Rattle.pair_colours.proofs.Places.{at_place}
use Rattle.pair_colours.specs.ColourSets.{is_in, IsColourSet}
use Rattle.equitable.specs.declared.check_words.CellCheck.{CellCheck}
use Rattle.equitable.specs.declared.cell_steps.CellStep.{CellStep}
use Rattle.equitable.specs.declared.cell_claims.CellClaim.{CellClaim}
use Rattle.equitable.specs.Equitable.{IsEquitable, cell_count, numbered}
use Rattle.equitable.specs.Arcs.{IsArcSet, arcs_of}
use Rattle.equitable.specs.CellSplit.{keys_in, key_of, split_of, IsAllowed, AreAllowed, HasFollowed, cells_after}
use Rattle.equitable.specs.Cells.{UsesBelow}
use Rattle.equitable.specs.Acceptance.{AcceptsCells, IsReached, one_cell, last_cells}
use Rattle.equitable.specs.BadLines.{step_conditions, first_step_line, cells_line, end_conditions, IsFirstFailing, IsFirstBadLine}
use Rattle.equitable.specs.Verdict.{IsAccepted}
use Rattle.equitable.specs.Law.{StepsKeepNumbers}
use Rattle.equitable.proofs.CellNumbers.{cell_count-numbered, cell_count_used, cell_count-le}
use Rattle.equitable.proofs.Existing.{UsesBelow-one_cell, UsesBelow-split_of}
use Rattle.equitable.proofs.Conditions.{hold_from_allowed}
use Rattle.equitable.proofs.Following.{followed_start, followed_grows}
use Rattle.equitable.proofs.Judged.{failing_after, failing_before}
use Rattle.equitable.proofs.Parts.{length-parted_by}

length-cells_after : (G : PairColouring) (W : List ℕ) (steps : List CellStep) → length (cells_after G W steps) ≡ length W
length-cells_after G W [] = refl
length-cells_after G W (s ∷ steps) = length-cells_after G (split_of G W s) steps ∙ length-parted_by W s.cell (key_of G W s)

-- the steps were made from the partition with one cell on
pub ended : (G : PairColouring) (W X : List ℕ) (steps : List CellStep) (n : ℕ) → n ≡ G.size → W ≡ one_cell n → X ≡ cells_after G W steps
    → AreAllowed G W steps
    → HasFollowed G (one_cell G.size) X steps
ended G W X steps n size start led allowed =
    let is : W ≡ one_cell G.size = start ∙ ap one_cell size in
    record {
      points = ap length led ∙ length-cells_after G W steps ∙ ap length is ∙ length-replicate {A = ℕ} G.size 0;
      led = led ∙ ap (λ V. cells_after G V steps) is;
      allowed = subst (λ V. AreAllowed G V steps) is allowed;
    }

-- the last partition is equitable, and the claimed cells are its own
pub accepted_at : (claim : CellClaim) (X : List ℕ) (points cells steps : ℕ) → HasFollowed claim.arcs (one_cell claim.arcs.size) X claim.steps
    → IsEquitable claim.arcs X → claim.cells ≡ numbered X
    → points ≡ claim.arcs.size → cells ≡ cell_count X → steps ≡ length claim.steps → IsAccepted claim points cells steps
accepted_at claim X points cells steps f e n p c s = record {
  accepts = record { steps = f.allowed; equitable = subst (IsEquitable claim.arcs) f.led e; named = n ∙ ap numbered f.led };
  size = p;
  different = c ∙ sym (cell_count-numbered X) ∙ ap cell_count (sym n);
  counted = s;
}

-- or one of the two fails
pub refused_at : (claim : CellClaim) (X : List ℕ) (line n steps : ℕ) (word : CellCheck) → HasFollowed claim.arcs (one_cell claim.arcs.size) X claim.steps
    → ((l : ℕ) → IsFirstFailing (end_conditions l claim.arcs X claim.cells) l word) → n ≡ claim.arcs.size → steps ≡ length claim.steps
    → line ≡ 3 + n + steps → IsFirstBadLine claim line word
refused_at claim X line n steps word f fails size count is =
    let at : cells_line claim ≡ line = omega (arith, size, count, is) in
    subst (λ l. IsFirstBadLine claim l word) at
    (failing_after (step_conditions (first_step_line claim) claim.arcs (one_cell claim.arcs.size) claim.steps)
    (end_conditions (cells_line claim) claim.arcs (last_cells claim) claim.cells) (cells_line claim) word
    (hold_from_allowed (first_step_line claim) claim.arcs (one_cell claim.arcs.size) claim.steps f.allowed)
    (subst (λ V. IsFirstFailing (end_conditions (cells_line claim) claim.arcs V claim.cells) (cells_line claim) word) f.led (fails (cells_line claim))))

-- or a step before
pub refused_step : (claim : CellClaim) (W : List ℕ) (first n line : ℕ) (word : CellCheck) → n ≡ claim.arcs.size → W ≡ one_cell n
    → first ≡ first_step_line claim
    → IsFirstFailing (step_conditions first claim.arcs W claim.steps) line word → IsFirstBadLine claim line word
refused_step claim W first n line word size start is f =
    failing_before (step_conditions (first_step_line claim) claim.arcs (one_cell claim.arcs.size) claim.steps)
    (end_conditions (cells_line claim) claim.arcs (last_cells claim) claim.cells) line word
    (subst (λ V. IsFirstFailing (step_conditions (first_step_line claim) claim.arcs V claim.steps) line word) (start ∙ ap one_cell size)
    (subst (λ l. IsFirstFailing (step_conditions l claim.arcs W claim.steps) line word) is f))

-- the arcs of a set, pair by pair
pub arcs_whole : (C G : PairColouring) (set : List ℕ) (places : ℕ) → G.size ≡ C.size → length G.colours ≡ length C.colours → length C.colours ≤ places
    → ((k : ℕ) → k < places → get_or G.colours k 0 ≡ (if is_in set (get_or C.colours k 0) then 1 else 0)) → G ≡ arcs_of C set
arcs_whole C G set places size pairs all bits =
    let bit : ℕ → ℕ = λ colour. if is_in set colour then 1 else 0 in
    let same : G.colours ≡ map bit C.colours =
    same_number_lists G.colours (map bit C.colours) (pairs ∙ sym (length-map C.colours bit))
    (λ k l. let low : k < length C.colours = omega (arith, l, pairs) in bits k (omega (arith, low, all)) ∙ sym (get_or-map bit C.colours k 0 0 low)) in
    λ i. record { size = size i; colours = same i }

-- an empty list is no set that chooses classes, and another one is where its numbers are colours
pub arc_set_from : (C : PairColouring) (set : List ℕ) (answer : Bool) → 1 ≤ length set → (IsTrue answer) ↔ IsColourSet C set
    → (IsTrue answer) ↔ IsArcSet C set
arc_set_from C set answer some h = (λ t. record { some = some; colours = h.0 t }, λ a. h.1 a.colours)

-- one pair more
pub arc_more : (C old new : PairColouring) (chosen chooses : List ℕ) (place n bit : ℕ) → n ≡ C.size → old.size ≡ C.size
    → length old.colours ≡ length C.colours
    → ((k : ℕ) → k < place → get_or old.colours k 0 ≡ (if is_in chosen (get_or C.colours k 0) then 1 else 0)) → is_in chooses ≡ is_in chosen
    → bit ≡ (if is_in chooses (colour_at C (place / n) (place % n)) then 1 else 0)
    → new.colours ≡ set old.colours ((place / n) * old.size + place % n) bit → place < length C.colours
    → (k : ℕ) → k < place + 1 → get_or new.colours k 0 ≡ (if is_in chosen (get_or C.colours k 0) then 1 else 0)
arc_more C old new chosen chooses place n bit size sizes pairs before same is changed low k l =
    let at : (place / n) * old.size + place % n ≡ place = ap (λ m. (place / n) * m + place % n) (sizes ∙ sym size) ∙ div-add-mod' place n in
    let colour : colour_at C (place / n) (place % n) ≡ get_or C.colours place 0 = ap (λ m. colour_at C (place / m) (place % m)) size ∙ at_place C place in
    let here : bit ≡ (if is_in chosen (get_or C.colours place 0) then 1 else 0) = is ∙ (λ i. if same i (colour i) then 1 else 0) in
    let written : new.colours ≡ set old.colours place bit = changed ∙ ap (λ p. set old.colours p bit) at in
    ⊎_elim
    (λ (b : k < place).
    let ne : k ≡ place → ⊥ = λ e. omega (arith, e, b) in
    ap (λ cs. get_or cs k 0) written ∙ get_or-set_other old.colours place k bit 0 ne ∙ before k b)
    (λ (b : place ≤ k).
    let e : place ≡ k = omega (arith, b, l) in
    subst (λ j. get_or new.colours j 0 ≡ (if is_in chosen (get_or C.colours j 0) then 1 else 0)) e
    (ap (λ cs. get_or cs place 0) written ∙ get_or-set_same old.colours place bit 0 (omega (arith, low, pairs)) ∙ here))
    (cases_lt k place)

-- the numbers of the partition after steps are those below their number
used_after : (G : PairColouring) (W : List ℕ) (steps : List CellStep) (m : ℕ) → UsesBelow W m → AreAllowed G W steps
    → UsesBelow (cells_after G W steps) (cell_count (cells_after G W steps))
used_after G W [] m h a = subst (UsesBelow W) (sym (cell_count_used W m h)) h
used_after G W (s ∷ steps) m h a =
    used_after G (split_of G W s) steps (m + (length (keys_in W s.cell (key_of G W s)) - 1)) (UsesBelow-split_of G W m s h a.0.names.cell) a.1

-- one step more makes at least one cell more, and there are few cells
pub record Grows (G : PairColouring) (X Y : List ℕ) : Type 0 where
  pub more : cell_count X + 1 ≤ cell_count Y
  pub points : length Y ≡ length X
  pub few : cell_count Y ≤ length Y

pub grows : (G : PairColouring) (X Y : List ℕ) (steps : List CellStep) (s : CellStep) → 1 ≤ G.size → HasFollowed G (one_cell G.size) X steps
    → IsAllowed G X s → Y ≡ split_of G X s → Grows G X Y
grows G X Y steps s some f a e =
    let used = used_after G (one_cell G.size) steps 1 (UsesBelow-one_cell G.size some) f.allowed in
    let own : UsesBelow X (cell_count X) = subst (λ V. UsesBelow V (cell_count V)) (sym f.led) used in
    record {
      more = followed_grows G X Y s (cell_count X) own a e;
      points = ap length e ∙ length-parted_by X s.cell (key_of G X s);
      few = cell_count-le Y;
    }

-- at the start
pub refined_start : (G : PairColouring) (X : List ℕ) (n : ℕ) → n ≡ G.size → X ≡ one_cell n → IsReached G X []
refined_start G X n size start =
    let is : X ≡ one_cell G.size = start ∙ ap one_cell size in
    subst (λ V. IsReached G V []) (sym is) (followed_start G (one_cell G.size) (length-replicate {A = ℕ} G.size 0))

-- at the end
pub accepted_end : (G : PairColouring) (X : List ℕ) (steps : List CellStep) (cells : List ℕ) → HasFollowed G (one_cell G.size) X steps
    → IsEquitable G X → cells ≡ numbered X
    → AcceptsCells (record { arcs = G; steps = steps; cells = cells })
accepted_end G X steps cells f e n = record { steps = f.allowed; equitable = subst (IsEquitable G) f.led e; named = n ∙ ap numbered f.led }

pub steps_keep_numbers : StepsKeepNumbers
steps_keep_numbers G steps some a = used_after G (one_cell G.size) steps 1 (UsesBelow-one_cell G.size some) a
