-- What stands at each place of the naming walk.
use Rattle.std.proofs.Common.{◌≡◌, ℕ, suc, zero, ◌+◌, ◌-◌, ◌*◌, ◌/◌, ◌%◌, ◌<◌, ◌≤◌, cond, not, List, [], ◌∷◌, ◌++◌, length, take, Some, slice_get, ⊎_elim, refl, sym, ap, subst, ◌∙◌, arith}
use Rattle.std.proofs.lemmas.Bool.{cases_lt, cases_eq, eq-eqb, ne_eqb}
use Rattle.std.proofs.lemmas.List.{length-append, length_push, take_all}
use Rattle.std.proofs.lemmas.List.FromFn.{length-map-range_with_len}
use Rattle.std.proofs.lemmas.Nat.{div_below, mod_below, div-add-mod'}
use Rattle.pair_colours.specs.Naming.{walk}
use Rattle.pair_colours.proofs.Walked.{diagonal_to, rows_to, row_to, row_to_more}
use Rattle.pair_colours.proofs.FirstPair.{walk_at_diagonal, walk_at_row, rows_to_next}

-- row x up to y has as many pairs as there are numbers below y but x
row_to_low : (x y : ℕ) → y ≤ x → length (row_to x y) ≡ y
row_to_low x zero l = refl
row_to_low x (suc y) l =
    let e : suc y ≡ y + 1 = omega arith in
    let more = row_to_more x y (y ∷ []) (ap (λ b. cond (not b) (y ∷ []) []) (ne_eqb x y (λ s. omega (arith, s, l)))) in
    ap (λ k. length (row_to x k)) e ∙ ap length more ∙ length_push (row_to x y) (x, y) ∙ (let again = row_to_low x y (omega (arith, l)) in omega (arith, again))

row_to_high : (x y : ℕ) → x < y → length (row_to x y) + 1 ≡ y
row_to_high x zero l = absurd (omega (arith, l))
row_to_high x (suc y) l =
    let e : suc y ≡ y + 1 = omega arith in
    ⊎_elim
    (λ (same : x ≡ y).
    let more = row_to_more x y [] (ap (λ b. cond (not b) (y ∷ []) []) (eq-eqb x y same)) in
    omega (arith, ap (λ k. length (row_to x k)) e, ap length more, length-append (row_to x y) [], row_to_low x y (omega (arith, same))))
    (λ ne.
    let more = row_to_more x y (y ∷ []) (ap (λ b. cond (not b) (y ∷ []) []) (ne_eqb x y ne)) in
    omega (arith, ap (λ k. length (row_to x k)) e, ap length more, length_push (row_to x y) (x, y), row_to_high x y (omega (arith, l, ne))))
    (cases_eq x y)

-- m + 1 points: the diagonal pairs, and m pairs in each row
length-rows_to : (m x : ℕ) → x ≤ m + 1 → length (rows_to (m + 1) x) ≡ m + 1 + x * m
length-rows_to m zero l = omega (arith, length-append (diagonal_to (m + 1)) [], length-map-range_with_len {X = ℕ × ℕ} (λ z. (z, z)) 0 (m + 1))
length-rows_to m (suc x) l =
    let e : suc x ≡ x + 1 = omega arith in
    let again = length-rows_to m x (omega (arith, l)) in
    let row = row_to_high x (m + 1) (omega (arith, l)) in
    omega (arith, ap (λ k. length (rows_to (m + 1) k)) e, ap length (sym (rows_to_next (m + 1) x)), length-append (rows_to (m + 1) x) (row_to x (m + 1)), again, row)

-- the walk has each pair once
pub length-walk : (n : ℕ) → length (walk n) ≡ n * n
length-walk zero = refl
length-walk (suc m) =
    let e : suc m ≡ m + 1 = omega arith in
    ap (λ n. length (walk n)) e ∙ length-rows_to m (m + 1) (omega arith) ∙ omega arith

-- what stands behind a front
at_seam : {X : Type 0} (front : List X) (x : X) (rest : List X) → slice_get (front ++ x ∷ rest) (length front) ≡ Some x
at_seam [] x rest = refl
at_seam (y ∷ front) x rest = at_seam front x rest

-- the pair at a place: among the diagonal pairs
pub pair_at_diagonal : (n k : ℕ) → k < n → slice_get (walk n) k ≡ Some (k, k)
pair_at_diagonal n k l =
    let w = walk_at_diagonal n k l in
    let len : length (diagonal_to k) ≡ k = length-map-range_with_len {X = ℕ × ℕ} (λ z. (z, z)) 0 k in
    ap (λ ps. slice_get ps k) w.1 ∙ ap (slice_get (diagonal_to k ++ (k, k) ∷ w.0)) (sym len) ∙ at_seam (diagonal_to k) (k, k) w.0

-- and in a row
pub pair_at_row : (m k x y : ℕ) → x < m + 1 → y < m + 1 → (x ≡ y → ⊥) → length (row_to x y) + (m + 1 + x * m) ≡ k → slice_get (walk (m + 1)) k ≡ Some (x, y)
pair_at_row m k x y hx hy ne e =
    let w = walk_at_row (m + 1) x y hx hy ne in
    let front = rows_to (m + 1) x ++ row_to x y in
    let len : length front ≡ k = omega (arith, length-append (rows_to (m + 1) x) (row_to x y), length-rows_to m x (omega (arith, hx)), e) in
    ap (λ ps. slice_get ps k) w.1 ∙ ap (slice_get (front ++ (x, y) ∷ w.0)) (sym len) ∙ at_seam front (x, y) w.0

-- places past the diagonal pairs: with m + 1 points, the row and how many pairs of it stand before
module _ (m k : ℕ) (past : m + 1 ≤ k) (inside : k < (m + 1) * (m + 1)) where
  some_other : 0 < m
  some_other = ⊎_elim (λ (l : 0 < m). l) (λ (z : m ≤ 0). let e : m ≡ 0 = omega (arith, z) in absurd (omega (arith, past, subst (λ j. k < (j + 1) * (j + 1)) e inside))) (cases_lt 0 m)

  row_inside : (k - (m + 1)) / m < m + 1
  row_inside = div_below (k - (m + 1)) m (m + 1) some_other (omega (arith, past, inside))

  before_low : (k - (m + 1)) % m < m
  before_low = mod_below (k - (m + 1)) m some_other

  whole : (k - (m + 1)) / m * m + (k - (m + 1)) % m ≡ k - (m + 1)
  whole = div-add-mod' (k - (m + 1)) m

  pair_low : (k - (m + 1)) % m < (k - (m + 1)) / m → slice_get (walk (m + 1)) k ≡ Some ((k - (m + 1)) / m, (k - (m + 1)) % m)
  pair_low l =
      pair_at_row m k ((k - (m + 1)) / m) ((k - (m + 1)) % m) row_inside (omega (arith, before_low)) (λ e. omega (arith, e, l))
      (omega (arith, row_to_low ((k - (m + 1)) / m) ((k - (m + 1)) % m) (omega (arith, l)), whole, past))

  pair_high : (k - (m + 1)) / m ≤ (k - (m + 1)) % m → slice_get (walk (m + 1)) k ≡ Some ((k - (m + 1)) / m, (k - (m + 1)) % m + 1)
  pair_high l =
      pair_at_row m k ((k - (m + 1)) / m) ((k - (m + 1)) % m + 1) row_inside (omega (arith, before_low)) (λ e. omega (arith, e, l))
      (omega (arith, row_to_high ((k - (m + 1)) / m) ((k - (m + 1)) % m + 1) (omega (arith, l)), whole, past))

-- with n points
module _ (n k : ℕ) (past : n ≤ k) (inside : k < n * n) where
  some_point : n - 1 + 1 ≡ n
  some_point = ⊎_elim (λ (l : 0 < n). omega (arith, l)) (λ (z : n ≤ 0). let e : n ≡ 0 = omega (arith, z) in absurd (omega (arith, subst (λ j. k < j * j) e inside))) (cases_lt 0 n)

  pub row_below_size : (k - n) / (n - 1) < n
  row_below_size = subst (λ s. s ≤ k → k < s * s → (k - s) / (n - 1) < s) some_point (row_inside (n - 1) k) past inside

  pub pair_before_diagonal : (k - n) % (n - 1) < (k - n) / (n - 1) → slice_get (walk n) k ≡ Some ((k - n) / (n - 1), (k - n) % (n - 1))
  pair_before_diagonal =
      subst (λ s. s ≤ k → k < s * s → (k - s) % (n - 1) < (k - s) / (n - 1) → slice_get (walk s) k ≡ Some ((k - s) / (n - 1), (k - s) % (n - 1))) some_point (pair_low (n - 1) k) past inside

  pub pair_after_diagonal : (k - n) / (n - 1) ≤ (k - n) % (n - 1) → slice_get (walk n) k ≡ Some ((k - n) / (n - 1), (k - n) % (n - 1) + 1)
  pair_after_diagonal =
      subst (λ s. s ≤ k → k < s * s → (k - s) / (n - 1) ≤ (k - s) % (n - 1) → slice_get (walk s) k ≡ Some ((k - s) / (n - 1), (k - s) % (n - 1) + 1)) some_point (pair_high (n - 1) k) past inside

-- at the end of a loop over the places the whole walk is behind
pub walked : (n m k : ℕ) → m ≡ n → m * m ≤ k → take k (walk n) ≡ walk n
walked n m k e l = take_all k (walk n) (omega (arith, length-walk n, subst (λ j. j * j ≤ k) e l))
