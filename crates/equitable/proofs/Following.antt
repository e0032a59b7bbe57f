-- Steps that were made one after the other.
use Rattle.std.proofs.Common.{◌≡◌, ◌↔◌, ℕ, ◌+◌, ◌-◌, ◌≤◌, Bool, true, false, not, IsTrue, Option, None, List, [], ◌∷◌, ◌++◌, length, take, drop, refl, sym, ap, subst, ◌∙◌, arith}
use Rattle.std.specs.Prelude.{Some, slice_get, is_some, IfNone, IfSome}
use Rattle.std.proofs.lemmas.List.{take-append-drop, take_all, take_more, drop_more, length-take-le}
use Rattle.std.proofs.lemmas.Option.{get_or_from_slice_get, slice_get_within}
use Rattle.pair_colours.specs.Colouring.{PairColouring}
use Rattle.equitable.specs.declared.check_words.CellCheck.{CellCheck}
use Rattle.equitable.specs.declared.check_words.CellCheck.TheVariants.{NoSuchCell, IdleStep, NotEquitable, WrongCells}
use Rattle.equitable.specs.declared.cell_steps.CellStep.{CellStep}
use Rattle.equitable.specs.Equitable.{IsEquitable, cell_count, numbered}
use Rattle.equitable.specs.Cells.{UsesBelow}
use Rattle.equitable.specs.CellSplit.{NamesCells, HasParts, keys_in, key_of, split_of, IsAllowed, AreAllowed, HasFollowed, cells_after}
use Rattle.equitable.specs.BadLines.{names_cells, has_parts, ends_equitable, names_end, step_conditions, end_conditions, IsFirstFailing}
use Rattle.equitable.proofs.Conditions.{hold_from_allowed, step_conditions-append}
use Rattle.equitable.proofs.CellNumbers.{cell_count_used}
use Rattle.equitable.proofs.Existing.{allowed_not_equitable, UsesBelow-split_of}
use Rattle.equitable.proofs.Parts.{length-parted_by}
use Rattle.equitable.proofs.Judged.{failing_after, failing_before}

pub cells_after-append : (G : PairColouring) (W : List ℕ) (steps : List CellStep) (s : CellStep)
    → cells_after G W (steps ++ s ∷ []) ≡ split_of G (cells_after G W steps) s
cells_after-append G W [] s = refl
cells_after-append G W (t ∷ steps) s = cells_after-append G (split_of G W t) steps s

pub AreAllowed-append : (G : PairColouring) (W : List ℕ) (steps : List CellStep) (s : CellStep) → AreAllowed G W steps → IsAllowed G (cells_after G W steps) s
    → AreAllowed G W (steps ++ s ∷ [])
AreAllowed-append G W [] s a b = (b, tt)
AreAllowed-append G W (t ∷ steps) s a b = (a.0, AreAllowed-append G (split_of G W t) steps s a.1 b)

pub followed_start : (G : PairColouring) (W : List ℕ) → length W ≡ G.size → HasFollowed G W W []
followed_start G W len = record { points = len; led = refl; allowed = tt }

-- one step more
pub followed_more : (G : PairColouring) (W X Y : List ℕ) (steps : List CellStep) (s : CellStep) → HasFollowed G W X steps → IsAllowed G X s
    → Y ≡ split_of G X s
    → HasFollowed G W Y (steps ++ s ∷ [])
followed_more G W X Y steps s f a e = record {
  points = ap length e ∙ length-parted_by X s.cell (key_of G X s) ∙ f.points;
  led = e ∙ ap (λ Z. split_of G Z s) f.led ∙ sym (cells_after-append G W steps s);
  allowed = AreAllowed-append G W steps s f.allowed (subst (λ Z. IsAllowed G Z s) f.led a);
}

-- the steps up to one more
pub followed_taken : (G : PairColouring) (W X Y : List ℕ) (steps : List CellStep) (i : ℕ) (s : CellStep) → slice_get steps i ≡ Some s
    → HasFollowed G W X (take i steps) → IsAllowed G X s → Y ≡ split_of G X s → HasFollowed G W Y (take (i + 1) steps)
followed_taken G W X Y steps i s at f a e =
    let more : take (i + 1) steps ≡ take i steps ++ s ∷ [] =
    take_more steps i s (slice_get_within steps i s at) ∙ ap (λ t. take i steps ++ t ∷ []) (get_or_from_slice_get steps i s s at) in
    subst (HasFollowed G W Y) (sym more) (followed_more G W X Y (take i steps) s f a e)

-- the first step that fails
pub failing_step : (G : PairColouring) (W X : List ℕ) (steps : List CellStep) (i line : ℕ) (s : CellStep) (word : CellCheck) → slice_get steps i ≡ Some s
    → HasFollowed G W X (take i steps) → IsFirstFailing (step_conditions (line + i) G X (s ∷ [])) (line + i) word
    → IsFirstFailing (step_conditions line G W steps) (line + i) word
failing_step G W X steps i line s word at l f =
    let inside = slice_get_within steps i s at in
    let cut : take i steps ++ s ∷ drop (i + 1) steps ≡ steps =
    ap (λ t. take i steps ++ t ∷ drop (i + 1) steps) (sym (get_or_from_slice_get steps i s s at))
    ∙ ap (λ l. take i steps ++ l) (sym (drop_more steps i s inside)) ∙ take-append-drop i steps in
    let len : length (take i steps) ≡ i = length-take-le i steps (omega (arith, inside)) in
    let here : IsFirstFailing (step_conditions (line + i) G X (s ∷ drop (i + 1) steps)) (line + i) word =
    subst (λ cs. IsFirstFailing cs (line + i) word) (sym (step_conditions-append (line + i) G X (s ∷ []) (drop (i + 1) steps)))
    (failing_before (step_conditions (line + i) G X (s ∷ []))
    (step_conditions (line + i + length (s ∷ [])) G (cells_after G X (s ∷ [])) (drop (i + 1) steps)) (line + i) word f) in
    let there : IsFirstFailing (step_conditions (line + length (take i steps)) G (cells_after G W (take i steps)) (s ∷ drop (i + 1) steps)) (line + i) word =
    subst (λ Z. IsFirstFailing (step_conditions (line + length (take i steps)) G Z (s ∷ drop (i + 1) steps)) (line + i) word) l.led
    (subst (λ n. IsFirstFailing (step_conditions (line + n) G X (s ∷ drop (i + 1) steps)) (line + i) word) (sym len) here) in
    subst (λ l. IsFirstFailing (step_conditions line G W l) (line + i) word) cut
    (subst (λ cs. IsFirstFailing cs (line + i) word) (sym (step_conditions-append line G W (take i steps) (s ∷ drop (i + 1) steps)))
    (failing_after (step_conditions line G W (take i steps))
    (step_conditions (line + length (take i steps)) G (cells_after G W (take i steps)) (s ∷ drop (i + 1) steps)) (line + i) word
    (hold_from_allowed line G W (take i steps) l.allowed) there))

-- a step that names no cell, and one that leaves its cell whole
pub no_such_cell : (line : ℕ) (G : PairColouring) (W : List ℕ) (s : CellStep) → ¬ NamesCells W s
    → IsFirstFailing (step_conditions line G W (s ∷ [])) line NoSuchCell
no_such_cell line G W s n =
    record { before = []; condition = names_cells W s; rest = (line, has_parts G W s) ∷ []; parts = refl; hold = tt; fails = n; says = refl }

pub idle_step : (line : ℕ) (G : PairColouring) (W : List ℕ) (s : CellStep) → NamesCells W s → ¬ HasParts G W s
    → IsFirstFailing (step_conditions line G W (s ∷ [])) line IdleStep
idle_step line G W s h n =
    record { before = (line, names_cells W s) ∷ []; condition = has_parts G W s; rest = []; parts = refl; hold = (h, tt); fails = n; says = refl }

-- an end that is not equitable, and one with other cells
pub not_equitable : (line : ℕ) (G : PairColouring) (W cells : List ℕ) → ¬ IsEquitable G W → IsFirstFailing (end_conditions line G W cells) line NotEquitable
not_equitable line G W cells n =
    record { before = []; condition = ends_equitable G W; rest = (line, names_end cells W) ∷ []; parts = refl; hold = tt; fails = n; says = refl }

pub wrong_cells : (line : ℕ) (G : PairColouring) (W cells : List ℕ) → IsEquitable G W → ¬ (cells ≡ numbered W)
    → IsFirstFailing (end_conditions line G W cells) line WrongCells
wrong_cells line G W cells h n =
    record { before = (line, ends_equitable G W) ∷ []; condition = names_end cells W; rest = []; parts = refl; hold = (h, tt); fails = n; says = refl }

-- a search for a step that finds none says that the partition is equitable, and one that finds a step that it is not
pub none_found : (G : PairColouring) (W : List ℕ) (step : Option CellStep) (none : Bool) → IfNone step (IsEquitable G W)
    → IfSome step (IsAllowed G W) → is_some step ≡ not none
    → (IsTrue none) ↔ IsEquitable G W
none_found G W None true equitable allowed e = (λ t. equitable, λ h. refl)
none_found G W None false equitable allowed e = absurd cc
none_found G W (Some s) true equitable allowed e = absurd cc
none_found G W (Some s) false equitable allowed e = (λ t. absurd cc, λ h. absurd (allowed_not_equitable G W s allowed h))

-- all steps were made
pub followed_all : (G : PairColouring) (W X : List ℕ) (steps : List CellStep) (i : ℕ) → length steps ≤ i → HasFollowed G W X (take i steps)
    → HasFollowed G W X steps
followed_all G W X steps i l f = subst (HasFollowed G W X) (take_all i steps l) f

-- each step adds a cell at least, and there are no more cells than points
pub followed_grows : (G : PairColouring) (W Y : List ℕ) (s : CellStep) (m : ℕ) → UsesBelow W m → IsAllowed G W s → Y ≡ split_of G W s → m + 1 ≤ cell_count Y
followed_grows G W Y s m h a e =
    let more = UsesBelow-split_of G W m s h a.names.cell in
    omega (arith, a.parts, ap cell_count e, cell_count_used (split_of G W s) (m + (length (keys_in W s.cell (key_of G W s)) - 1)) more)
