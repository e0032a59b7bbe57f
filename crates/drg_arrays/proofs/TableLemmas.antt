-- The table of distances: a row more, and what it says where every entry is reached.
use Rattle.std.proofs.Common.{◌≡◌, ℕ, ◌+◌, ◌*◌, ◌/◌, ◌%◌, ◌<◌, ◌≤◌, ◌++◌, List, length, get_or, sym, ap, ◌∙◌, subst, arith, ⊎_elim, length-append}
use Rattle.std.proofs.lemmas.Bool.{cases_lt}
use Rattle.std.proofs.lemmas.Nat.{mul-add-lt, div-add-mod'}
use Rattle.std.proofs.lemmas.List.{get_or_append_left, get_or-append-add}
use Rattle.pair_colours.proofs.Places.{place_below, row_below, column_below}
use Rattle.drg_arrays.specs.declared.levels.TheConstants.{UNREACHED}
use Rattle.drg_arrays.specs.Graph.{Graph}
use Rattle.drg_arrays.specs.Distance.{HasWalk}
use Rattle.drg_arrays.specs.Tables.{IsDistanceEntry, IsDistanceRow, IsDistanceTable, AreDistances}
use Rattle.drg_arrays.specs.Answer.{IsDisconnectedAt}

pub IsDistanceTable-more : (G : Graph) (table row : List ℕ) (x : ℕ) → IsDistanceTable G table x → IsDistanceRow G x row → IsDistanceTable G (table ++ row) (x + 1)
IsDistanceTable-more G table row x h r = record {
  len = omega (arith, length-append table row, h.len, r.len);
  entries = λ a b ha hb. ⊎_elim
      (λ (l : a < x).
      let low : a * G.size + b < length table = omega (arith, mul-add-lt a G.size b x l hb, h.len) in
      subst (IsDistanceEntry G a b) (sym (get_or_append_left table row 0 (a * G.size + b) low)) (h.entries a b l hb))
      (λ (l : x ≤ a).
      let same : a ≡ x = omega (arith, l, ha) in
      let place : a * G.size + b ≡ length table + b = ap (λ z. z * G.size + b) same ∙ ap (λ z. z + b) (sym h.len) in
      let at : get_or (table ++ row) (a * G.size + b) 0 ≡ get_or row b 0 = ap (λ k. get_or (table ++ row) k 0) place ∙ get_or-append-add table row b 0 in
      subst (IsDistanceEntry G a b) (sym at) (subst (λ z. IsDistanceEntry G z b (get_or row b 0)) (sym same) (r.entries b hb)))
      (cases_lt a x);
}

-- the entry at a place is that of its row and column
pub entry_at : (G : Graph) (table : List ℕ) → 1 ≤ G.size → IsDistanceTable G table G.size → (p : ℕ) → p < length table
    → IsDistanceEntry G (p / G.size) (p % G.size) (get_or table p 0)
entry_at G table one h p l =
    let low : p < G.size * G.size = subst (λ n. p < n) h.len l in
    subst (IsDistanceEntry G (p / G.size) (p % G.size)) (ap (λ k. get_or table k 0) (div-add-mod' p G.size))
    (h.entries (p / G.size) (p % G.size) (row_below G.size p one low) (column_below G.size p one))

-- where each entry is reached, they are the distances of a connected graph
pub AreDistances-from_table : (G : Graph) (table : List ℕ) → 1 ≤ G.size → IsDistanceTable G table G.size
    → ((k : ℕ) → k < length table → get_or table k 0 ≡ UNREACHED → ⊥) → AreDistances G table
AreDistances-from_table G table one h all = record {
  len = h.len;
  is = λ x y hx hy. (h.entries x y hx hy).reached (all (x * G.size + y) (subst (λ n. x * G.size + y < n) (sym h.len) (place_below G.size x y hx hy)));
  small = λ p l. (entry_at G table one h p l).small (all p l);
}

-- the first entry that is not reached is that of the first pair with no walk
pub IsDisconnectedAt-from_table : (G : Graph) (table : List ℕ) → 1 ≤ G.size → IsDistanceTable G table G.size → (p : ℕ) → p < length table
    → get_or table p 0 ≡ UNREACHED → ((k : ℕ) → k < p → get_or table k 0 ≡ UNREACHED → ⊥) → IsDisconnectedAt G (p / G.size) (p % G.size)
IsDisconnectedAt-from_table G table one h p l none before = record {
  row = row_below G.size p one (subst (λ n. p < n) h.len l);
  column = column_below G.size p one;
  holds = (entry_at G table one h p l).unreached none;
  first = λ u v hu hv no. ⊎_elim
      (λ (b : u * G.size + v < p). absurd (no (walk u v hu hv (before (u * G.size + v) b))))
      (λ (b : p ≤ u * G.size + v). omega (arith, b, div-add-mod' p G.size)) (cases_lt (u * G.size + v) p);
}
  where
    walk : (u v : ℕ) → u < G.size → v < G.size → (get_or table (u * G.size + v) 0 ≡ UNREACHED → ⊥) → HasWalk G u v
    walk u v hu hv r = record { length = get_or table (u * G.size + v) 0; walk = ((h.entries u v hu hv).reached r).walk }
