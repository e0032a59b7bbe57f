-- Each partition on the way is equitable or a step parts it further, and so all arcs have an accepted claim.
use Rattle.std.proofs.Common.{◌≡◌, ◌==◌, ◌&&◌, ℕ, zero, suc, ◌+◌, ◌-◌, ◌<◌, ◌≤◌, List, [], ◌∷◌, length, get_or, ◌⊎◌, inl, inr, ⊎_elim, refl, sym, ap, ◌∙◌, arith}
use Rattle.std.proofs.lemmas.Bool.{cases_eq, cases_lt, eqb-true, and_parts}
use Rattle.std.proofs.lemmas.List.{length-replicate, get_or-replicate}
use Rattle.std.proofs.lemmas.List.FromFn.{get_or-range_with_len, length-range_with_len}
use Rattle.std.proofs.lemmas.List.Elements.{All-from_recursion}
use Rattle.pair_colours.specs.Colouring.{PairColouring, colour_at, points}
use Rattle.pair_colours.proofs.Counts.{found}
use Rattle.pair_colours.proofs.Reaching.{each_below}
use Rattle.pair_colours.proofs.Below.{bounded}
use Rattle.equitable.specs.declared.cell_steps.CellStep.{CellStep}
use Rattle.equitable.specs.Equitable.{IsEquitable, arcs_into, cell_count, numbered}
use Rattle.equitable.specs.CellSplit.{keys_in, key_of, split_of, IsAllowed, AreAllowed, cells_after}
use Rattle.equitable.specs.Cells.{UsesBelow}
use Rattle.equitable.specs.Acceptance.{one_cell}
use Rattle.equitable.specs.Law.{AcceptedExists}
use Rattle.equitable.proofs.CellNumbers.{cell_count-le, cell_count_used, is_in_from}
use Rattle.equitable.proofs.Parts.{two_parts, two_points, UsesBelow-parted_by, length-parted_by}

-- all cells are numbers below m
abbrev pub AreBelow : List ℕ → ℕ → Type 0
AreBelow W m = (x : ℕ) → x < length W → get_or W x 0 < m

-- no arc leads into a number that is no cell
pub arcs_none : (G : PairColouring) (W : List ℕ) (m : ℕ) → length W ≡ G.size → AreBelow W m → (x c : ℕ) → m ≤ c → arcs_into G W x c ≡ 0
arcs_none G W m len h x c l = ⊎_elim
    (λ (some : 0 < arcs_into G W x c).
    let k = found (λ z. (colour_at G x z == 1) && (get_or W z 0 == c)) (points G.size) some in
    let low : k.0 < G.size = omega (arith, k.1, length-range_with_len 0 G.size) in
    let at : get_or (points G.size) k.0 0 ≡ k.0 = omega (arith, get_or-range_with_len 0 G.size k.0 0 low) in
    let both = and_parts (colour_at G x (get_or (points G.size) k.0 0) == 1) (get_or W (get_or (points G.size) k.0 0) 0 == c) (k.2 0) in
    let is : get_or W k.0 0 ≡ c = ap (λ z. get_or W z 0) (sym at) ∙ eqb-true _ c both.1 in
    absurd (omega (arith, h k.0 (omega (arith, low, len)), is, l)))
    (λ (none : arcs_into G W x c ≤ 0). omega (arith, none))
    (cases_lt 0 (arcs_into G W x c))

-- where points of one cell have equally many arcs into each of the cells, the partition is equitable
pub equitable_below : (G : PairColouring) (W : List ℕ) (m : ℕ) → length W ≡ G.size → AreBelow W m
    → ((x : ℕ) → x < G.size → (y : ℕ) → y < G.size → get_or W x 0 ≡ get_or W y 0 → (c : ℕ) → c < m → arcs_into G W x c ≡ arcs_into G W y c)
    → IsEquitable G W
equitable_below G W m len h all = record {
  cells = len;
  arcs = λ x y hx hy e c. ⊎_elim
      (λ (l : c < m). all x hx y hy e c l)
      (λ (l : m ≤ c). omega (arith, arcs_none G W m len h x c l, arcs_none G W m len h y c l))
      (cases_lt c m);
}

-- two points of one cell from which not equally many arcs lead into a cell make a step
pub allowed_from : (G : PairColouring) (W : List ℕ) (m : ℕ) → length W ≡ G.size → UsesBelow W m → (x y c : ℕ) → x < G.size → y < G.size → c < m
    → get_or W x 0 ≡ get_or W y 0 → (arcs_into G W x c ≡ arcs_into G W y c → ⊥) → IsAllowed G W (record { cell = get_or W x 0; into = c })
allowed_from G W m len h x y c hx hy lc e ne =
    let lx : x < length W = omega (arith, hx, len) in
    let ly : y < length W = omega (arith, hy, len) in
    let count = cell_count_used W m h in
    record {
      names = record { cell = omega (arith, h.below x lx, count); into = omega (arith, lc, count) };
      parts = two_parts W (get_or W x 0) (key_of G W (record { cell = get_or W x 0; into = c })) x y lx ly refl (sym e) ne;
    }

-- a partition that a step parts is not equitable
pub allowed_not_equitable : (G : PairColouring) (W : List ℕ) (s : CellStep) → IsAllowed G W s → ¬ IsEquitable G W
allowed_not_equitable G W s a h =
    let p = two_points W s.cell (key_of G W s) a.parts in
    p.6 (h.arcs p.0 p.1 (omega (arith, p.2, h.cells)) (omega (arith, p.3, h.cells)) (p.4 ∙ sym p.5) s.into)

-- two points of one cell from which not equally many arcs lead into the cell c
record IsOdd (G : PairColouring) (W : List ℕ) (m : ℕ) : Type 0 where
  x : ℕ
  y : ℕ
  c : ℕ
  row : x < G.size
  column : y < G.size
  cell : c < m
  together : get_or W x 0 ≡ get_or W y 0
  differ : arcs_into G W x c ≡ arcs_into G W y c → ⊥

-- from two points of one cell equally many arcs lead into each cell
abbrev Agree : PairColouring → List ℕ → ℕ → ℕ → ℕ → Type 0
Agree G W m x y = get_or W x 0 ≡ get_or W y 0 → (c : ℕ) → c < m → arcs_into G W x c ≡ arcs_into G W y c

agree_or_odd : (G : PairColouring) (W : List ℕ) (m x y : ℕ) → x < G.size → y < G.size → Agree G W m x y ⊎ IsOdd G W m
agree_or_odd G W m x y hx hy = ⊎_elim
    (λ (e : get_or W x 0 ≡ get_or W y 0). ⊎_elim
    (λ all. inl (λ _ c l. all c l))
    (λ s. inr (record { x = x; y = y; c = s.0; row = hx; column = hy; cell = s.1; together = e; differ = s.2 }))
    (each_below (λ c. arcs_into G W x c ≡ arcs_into G W y c) (λ c. arcs_into G W x c ≡ arcs_into G W y c → ⊥) m
    (λ c _. cases_eq (arcs_into G W x c) (arcs_into G W y c))))
    (λ ne. inl (λ e. absurd (ne e)))
    (cases_eq (get_or W x 0) (get_or W y 0))

all_or_odd : (G : PairColouring) (W : List ℕ) (m : ℕ) → ((x : ℕ) → x < G.size → (y : ℕ) → y < G.size → Agree G W m x y) ⊎ IsOdd G W m
all_or_odd G W m = ⊎_elim
    (λ all. inl all)
    (λ s. inr s.2)
    (each_below (λ x. (y : ℕ) → y < G.size → Agree G W m x y) (λ _. IsOdd G W m) G.size
    (λ x hx. ⊎_elim
    (λ all. inl all)
    (λ s. inr s.2)
    (each_below (Agree G W m x) (λ _. IsOdd G W m) G.size (λ y hy. agree_or_odd G W m x y hx hy))))

-- a partition is equitable, or some step parts it
pub equitable_or_odd : (G : PairColouring) (W : List ℕ) (m : ℕ) → length W ≡ G.size → UsesBelow W m → IsEquitable G W ⊎ ((s : CellStep) × IsAllowed G W s)
equitable_or_odd G W m len h = ⊎_elim
    (λ all. inl (equitable_below G W m len h.below all))
    (λ odd. inr (
      record { cell = get_or W odd.x 0; into = odd.c },
      allowed_from G W m len h odd.x odd.y odd.c odd.row odd.column odd.cell
          odd.together odd.differ,
    ))
    (all_or_odd G W m)

-- any list of cells is an equitable partition or not
pub equitable_or_not : (G : PairColouring) (W : List ℕ) → IsEquitable G W ⊎ ¬ IsEquitable G W
equitable_or_not G W = ⊎_elim
    (λ (len : length W ≡ G.size).
    let b = bounded W in
    let each = All-from_recursion (λ k. k < b.0) W b.1 in
    ⊎_elim
    (λ all. inl (equitable_below G W b.0 len (λ x l. each x 0 l) all))
    (λ odd. inr (λ h. odd.differ (h.arcs odd.x odd.y odd.row odd.column odd.together odd.c)))
    (all_or_odd G W b.0))
    (λ ne. inr (λ h. ne h.cells))
    (cases_eq (length W) G.size)

-- the numbers of the partition with one cell
pub UsesBelow-one_cell : (n : ℕ) → 1 ≤ n → UsesBelow (one_cell n) 1
UsesBelow-one_cell n h = record {
  below = λ x l. omega (arith, get_or-replicate {A = ℕ} n x 0 0 (omega (arith, l, length-replicate {A = ℕ} n 0)));
  used = λ k l. is_in_from (one_cell n) 0 k (omega (arith, h, length-replicate {A = ℕ} n 0))
      (omega (arith, l, get_or-replicate {A = ℕ} n 0 0 0 (omega (arith, h))));
}

-- what a step makes has more cells
pub UsesBelow-split_of : (G : PairColouring) (W : List ℕ) (m : ℕ) (s : CellStep) → UsesBelow W m → s.cell < cell_count W
    → UsesBelow (split_of G W s) (m + (length (keys_in W s.cell (key_of G W s)) - 1))
UsesBelow-split_of G W m s h l = UsesBelow-parted_by W s.cell (key_of G W s) m h (omega (arith, l, cell_count_used W m h))

-- steps from a partition on that lead to an equitable one
pub record LeadsOn (G : PairColouring) (W : List ℕ) : Type 0 where
  pub steps : List CellStep
  pub allowed : AreAllowed G W steps
  pub equitable : IsEquitable G (cells_after G W steps)

leads_on : (fuel : ℕ) (G : PairColouring) (W : List ℕ) (m : ℕ) → length W ≡ G.size → UsesBelow W m → G.size ≤ m + fuel → LeadsOn G W
leads_on zero G W m len h few = ⊎_elim
    (λ e. record { steps = []; allowed = tt; equitable = e })
    (λ odd.
    let s = odd.0 in
    let more = UsesBelow-split_of G W m s h odd.1.names.cell in
    absurd (omega (
      arith,
      odd.1.parts,
      cell_count_used (split_of G W s) (m + (length (keys_in W s.cell (key_of G W s)) - 1)) more,
      cell_count-le (split_of G W s),
      length-parted_by W s.cell (key_of G W s),
      len,
      few,
    )))
    (equitable_or_odd G W m len h)
leads_on (suc fuel) G W m len h few =
    let again = leads_on fuel G in
    ⊎_elim
    (λ e. record { steps = []; allowed = tt; equitable = e })
    (λ odd.
    let s = odd.0 in
    let more = UsesBelow-split_of G W m s h odd.1.names.cell in
    let rest = again (split_of G W s) (m + (length (keys_in W s.cell (key_of G W s)) - 1)) (length-parted_by W s.cell (key_of G W s) ∙ len) more
    (omega (arith, odd.1.parts, few)) in
    record { steps = s ∷ rest.steps; allowed = (odd.1, rest.allowed); equitable = rest.equitable })
    (equitable_or_odd G W m len h)

-- so all arcs have an accepted claim
pub accepted_exists : AcceptedExists
accepted_exists G h =
    let n : ℕ = G.size in
    let l = leads_on n G (one_cell n) 1 (length-replicate {A = ℕ} n 0) (UsesBelow-one_cell n h.fits.colouring.has_points) (omega arith) in (
      record { arcs = G; steps = l.steps; cells = numbered (cells_after G (one_cell n) l.steps) },
      refl,
      record { steps = l.allowed; equitable = l.equitable; named = refl },
    )
