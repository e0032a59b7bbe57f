-- Cells and their numbers: how many there are, and their numbering by first occurrence.
use Rattle.std.proofs.Common.{◌≡◌, ◌==◌, ℕ, ◌<◌, ◌≤◌, true, List, [], ◌∷◌, length, get_or, map, refl, sym, ap, subst, ◌∙◌, arith}
use Rattle.std.specs.List.{AllByRecursion, list_any, position_or_len}
use Rattle.std.proofs.lemmas.Bool.{eq-eqb, eqb-true}
use Rattle.std.proofs.lemmas.List.{length-map, get_or-map, get_or_default}
use Rattle.std.proofs.lemmas.List.Elements.{recursion_from_All, All-from_get_or}
use Rattle.std.proofs.lemmas.List.Folds.{list_any_at, Any-from_list_any}
use Rattle.pair_colours.specs.Naming.{first_met}
use Rattle.pair_colours.specs.ColourSets.{is_in}
use Rattle.pair_colours.proofs.ListLemmas.{map_agree, map-map}
use Rattle.pair_colours.proofs.Names.{met_all, Each-first_met, first_met-renamed, position-renamed}
use Rattle.pair_colours.proofs.NumberedLists.{any_position, same_number}
use Rattle.pair_colours.proofs.Below.{below_all, below_each, met_once, counted_from_any}
use Rattle.pair_colours.proofs.Few.{first_met-le}
use Rattle.equitable.specs.Equitable.{cell_count, cell_number, numbered}
use Rattle.equitable.specs.Cells.{UsesBelow}

-- a number of the list
abbrev pub IsCell : List ℕ → ℕ → Type 0
IsCell W c = list_any (λ other. c == other) W ≡ true

-- each number of the list is one
pub IsCell-at : (W : List ℕ) (x : ℕ) → x < length W → IsCell W (get_or W x 0)
IsCell-at W x l = list_any_at (λ other. get_or W x 0 == other) W x 0 l (eq-eqb (get_or W x 0) (get_or W x 0) refl)

pub IsCell-from : (W : List ℕ) (x c : ℕ) → x < length W → get_or W x 0 ≡ c → IsCell W c
IsCell-from W x c l e = subst (IsCell W) e (IsCell-at W x l)

-- some point is in a cell
pub point_of : (W : List ℕ) (c : ℕ) → is_in W c ≡ true → (x : ℕ) × (x < length W) × (get_or W x 0 ≡ c)
point_of W c h =
    let a = Any-from_list_any (λ member. member == c) W h in
    (a.0, a.2, get_or_default W a.0 0 a.1 a.2 ∙ a.3 ∙ eqb-true a.1 c a.4)

pub is_in_from : (W : List ℕ) (x c : ℕ) → x < length W → get_or W x 0 ≡ c → is_in W c ≡ true
is_in_from W x c l e = list_any_at (λ member. member == c) W x 0 l (eq-eqb (get_or W x 0) c e)

pub Each-cell : (W : List ℕ) → AllByRecursion (IsCell W) W
Each-cell W = recursion_from_All (IsCell W) W (All-from_get_or (IsCell W) W 0 (λ x l. IsCell-at W x l))

-- there are no more cells than points
pub cell_count-le : (W : List ℕ) → cell_count W ≤ length W
cell_count-le W = first_met-le W

-- where exactly the numbers below m are cells, there are m
pub cell_count_used : (W : List ℕ) (m : ℕ) → UsesBelow W m → cell_count W ≡ m
cell_count_used W m h =
    sym (below_all (first_met W) m (Each-first_met (λ k. k < m) W (recursion_from_All (λ k. k < m) W (All-from_get_or (λ k. k < m) W 0 h.below))))
    ∙ below_each (first_met W) m (λ k l.
    let p = point_of W k (h.used k l) in
    omega (arith, met_once W k, counted_from_any (first_met W) k (met_all W k (IsCell-from W p.0 k p.1 p.2))))

-- two cells of one number are one
pub number_apart : (W : List ℕ) (c d : ℕ) → IsCell W c → IsCell W d → cell_number W c ≡ cell_number W d → c ≡ d
number_apart W c d u v e =
    same_number (first_met W) c d e
    (any_position (λ other. c == other) (first_met W) (met_all W c u))
    (any_position (λ other. d == other) (first_met W) (met_all W d v))

pub number_below : (W : List ℕ) (c : ℕ) → IsCell W c → cell_number W c < cell_count W
number_below W c u = any_position (λ other. c == other) (first_met W) (met_all W c u)

pub length-numbered : (W : List ℕ) → length (numbered W) ≡ length W
length-numbered W = length-map W (cell_number W)

pub numbered_at : (W : List ℕ) (x : ℕ) → x < length W → get_or (numbered W) x 0 ≡ cell_number W (get_or W x 0)
numbered_at W x l = get_or-map (cell_number W) W x 0 0 l

-- the numbering has the same cells
pub numbered_same : (W : List ℕ) (x y : ℕ) → x < length W → y < length W → get_or W x 0 ≡ get_or W y 0 → get_or (numbered W) x 0 ≡ get_or (numbered W) y 0
numbered_same W x y hx hy e = numbered_at W x hx ∙ ap (cell_number W) e ∙ sym (numbered_at W y hy)

pub same_numbered : (W : List ℕ) (x y : ℕ) → x < length W → y < length W → get_or (numbered W) x 0 ≡ get_or (numbered W) y 0 → get_or W x 0 ≡ get_or W y 0
same_numbered W x y hx hy e =
    number_apart W (get_or W x 0) (get_or W y 0) (IsCell-at W x hx) (IsCell-at W y hy) (sym (numbered_at W x hx) ∙ e ∙ numbered_at W y hy)

-- a renaming that keeps cells apart has no bearing on their numbering
pub numbered-renamed : (f : ℕ → ℕ) (W : List ℕ) → ((c d : ℕ) → IsCell W c → IsCell W d → f c ≡ f d → c ≡ d) → numbered (map f W) ≡ numbered W
numbered-renamed f W apart =
    let met : first_met (map f W) ≡ map f (first_met W) = first_met-renamed f (IsCell W) apart W (Each-cell W) in
    let each : AllByRecursion (IsCell W) (first_met W) = Each-first_met (IsCell W) W (Each-cell W) in
    map-map (cell_number (map f W)) f W
    ∙ map_agree (λ c. cell_number (map f W) (f c)) (cell_number W) W
    (agree met each W (Each-cell W))
  where
    agree : first_met (map f W) ≡ map f (first_met W) → AllByRecursion (IsCell W) (first_met W) → (xs : List ℕ) → AllByRecursion (IsCell W) xs
        → AllByRecursion (λ c. cell_number (map f W) (f c) ≡ cell_number W c) xs
    agree met each [] a = tt
    agree met each (c ∷ xs) a = (
      ap (position_or_len (λ other. f c == other)) met ∙ position-renamed f (IsCell W) apart c a.0 (first_met W) each,
      agree met each xs a.1,
    )

pub numbered-numbered : (W : List ℕ) → numbered (numbered W) ≡ numbered W
numbered-numbered W = numbered-renamed (cell_number W) W (number_apart W)

-- and as many cells
pub cell_count-numbered : (W : List ℕ) → cell_count (numbered W) ≡ cell_count W
cell_count-numbered W =
    ap length (first_met-renamed (cell_number W) (IsCell W) (number_apart W) W (Each-cell W)) ∙ length-map (first_met W) (cell_number W)
