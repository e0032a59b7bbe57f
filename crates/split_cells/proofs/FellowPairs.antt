-- Pairs of one class whose codes come equally often.
use Rattle.std.proofs.Common.{◌≡◌, ◌==◌, ◌&&◌, ℕ, ◌+◌, ◌*◌, ◌/◌, ◌%◌, ◌<◌, List, length, get_or, map, count_by, ⊎_elim, refl, sym, ap, ◌∙◌, arith}
use Rattle.std.specs.List.{range_with_len}
use Rattle.std.proofs.lemmas.Bool.{cases_lt}
use Rattle.std.proofs.lemmas.List.{length-map}
use Rattle.std.proofs.lemmas.List.FromFn.{length-range_with_len}
use Rattle.std.proofs.lemmas.Nat.{div-mul-add, mod-mul-add, same_from_place}
use Rattle.pair_colours.specs.Colouring.{PairColouring, colour_at, points}
use Rattle.pair_colours.specs.Closure.{Coherent}
use Rattle.pair_colours.proofs.Counts.{count_by_points}
use Rattle.pair_colours.proofs.Places.{place_below, row_below, column_below}
use Rattle.split_cells.specs.declared.classed_pairs.ClassedPairs.{ClassedPairs}
use Rattle.split_cells.specs.declared.codes.Codes.{Codes}
use Rattle.split_cells.specs.Segments.{IsMembers, class_at}
use Rattle.split_cells.specs.Pairs.{IsClassed, partition_of}
use Rattle.split_cells.specs.Faults.{IsSettled, HasHomes, HasLikeRows, HasLikeRowsOnce, SplitsTwo}
use Rattle.split_cells.specs.Codes.{IsCoded, code_over, code_count}
use Rattle.wl_round.specs.CodeCounts.{AreSides, IsCountOf, sum_at, sum_count}
use Rattle.split_cells.specs.Fellows.{HasCodeCounts, triangle_over}
use Rattle.wl_round.proofs.PointCounts.{count_of_list}
use Rattle.split_cells.proofs.GatherLemmas.{some_size}
use Rattle.split_cells.proofs.RowPairs.{like_rows, more_triangles, coherent_from_rows}
use Rattle.split_cells.proofs.FaultSteps.{all_pairs, below, at_points, turned_is, splits_triangles}

-- two lists are the left and the right numbers for the pair at place p
pub record AreSidesOf (size : ℕ) (codes : Codes) (p : ℕ) (xs ys : List ℕ) : Type 0 where
  pub left_len : length xs ≡ size
  pub right_len : length ys ≡ size
  pub left : (z : ℕ) → z < size → get_or xs z 0 ≡ get_or codes.lefts.items (p / size * size + z) 0
  pub right : (z : ℕ) → z < size → get_or ys z 0 ≡ get_or codes.rights.items (p % size * size + z) 0

-- the same, with the numbers as they were read
pub AreSidesOf-from : (n : ℕ) (codes : Codes) (p : ℕ) (left right : List ℕ) (m x y : ℕ) → m ≡ n → x ≡ p / n → y ≡ p % n → length left ≡ m → ((z : ℕ) → z < m → get_or left z 0 ≡ get_or codes.lefts.items (x * m + z) 0)
    → length right ≡ m → ((z : ℕ) → z < m → get_or right z 0 ≡ get_or codes.rights.items (y * m + z) 0) → AreSidesOf n codes p left right
AreSidesOf-from n codes p left right m x y em ex ey ll l rl r = record {
  left_len = ll ∙ em;
  right_len = rl ∙ em;
  left = λ z hz. l z (omega (arith, hz, em)) ∙ (λ i. get_or codes.lefts.items (ex i * em i + z) 0);
  right = λ z hz. r z (omega (arith, hz, em)) ∙ (λ i. get_or codes.rights.items (ey i * em i + z) 0);
}

module _ (n : ℕ) (codes : Codes) (p : ℕ) (left right : List ℕ) (s : AreSidesOf n codes p left right) where
  pub sum_is : (z : ℕ) → z < n → sum_at left right z ≡ code_over n codes (p / n) (p % n) z
  sum_is z hz = λ i. s.left z hz i + s.right z hz i

  pub sum_counts : (code : ℕ) → sum_count left right code ≡ code_count n codes (p / n) (p % n) code
  sum_counts code =
      ap (λ m. count_by (λ z. sum_at left right z == code) (points m)) s.left_len
      ∙ count_by_points (λ z. sum_at left right z == code) (λ z. code_over n codes (p / n) (p % n) z == code) n (λ z hz. ap (λ w. w == code) (sum_is z hz))

-- the counts of the codes of a pair count a list
pub IsCountOf-codes : (pairs : ClassedPairs) (codes : Codes) (p : ℕ) (counts : List ℕ) → HasCodeCounts pairs codes p counts → IsCountOf pairs.size counts
IsCountOf-codes pairs codes p counts h =
    let over : ℕ → ℕ = code_over pairs.size codes (p / pairs.size) (p % pairs.size) in
    record {
      list = map over (points pairs.size);
      len = length-map (points pairs.size) over ∙ length-range_with_len 0 pairs.size;
      is = λ code. h.is code ∙ count_of_list over pairs.size code;
    }

module _ (pairs : ClassedPairs) (h : IsClassed pairs) (s : IsSettled (partition_of pairs)) (home : HasHomes (partition_of pairs)) (codes : Codes) (c : IsCoded (partition_of pairs) codes) where
  abbrev n : ℕ
  n = pairs.size

  abbrev P : PairColouring
  P = partition_of pairs

  pub AreSides-of : (p : ℕ) (left right : List ℕ) → p < n * n → AreSidesOf n codes p left right → AreSides left right (n * n)
  AreSides-of p left right hp a =
      let some = some_size n p hp in
      record {
        lens = a.left_len ∙ sym a.right_len;
        short = omega (arith, a.left_len, h.limit);
        below = λ z l. let hz : z < n = omega (arith, l, a.left_len) in omega (arith, sum_is n codes p left right a z hz, c.low (p / n) (p % n) z (row_below n p some hp) (column_below n p some) hz);
      }

  -- a code that comes more often over q than over p
  pub splits_codes : (p q z : ℕ) (left right want : List ℕ) → p < n * n → q < n * n → z < n → class_at pairs.parting q ≡ class_at pairs.parting p → HasCodeCounts pairs codes p want → AreSidesOf n codes q left right
      → get_or want (sum_at left right z) 0 < sum_count left right (sum_at left right z) → SplitsTwo P pairs.parting.rank (triangle_over pairs q z)
  splits_codes p q z left right want hp hq hz e w a less =
      let some = some_size n p hp in
      let x = row_below n p some hp in
      let y = column_below n p some in
      let u = row_below n q some hq in
      let v = column_below n q some in
      let same : colour_at P (p / n) (p % n) ≡ colour_at P (q / n) (q % n) = at_points pairs h p ∙ sym e ∙ sym (at_points pairs h q) in
      let code = sum_is n codes q left right a z hz in
      let rarer : code_count n codes (p / n) (p % n) (code_over n codes (q / n) (q % n) z) < code_count n codes (q / n) (q % n) (code_over n codes (q / n) (q % n) z) =
      omega (
        arith,
        less,
        w.is (sum_at left right z),
        sum_counts n codes q left right a (sum_at left right z),
        ap (code_count n codes (p / n) (p % n)) code,
        ap (code_count n codes (q / n) (q % n)) code,
      ) in
      splits_triangles pairs h (class_at pairs.parting q) p q (colour_at P (q / n) z) (colour_at P z (q % n)) hp hq (sym e) refl
      (below pairs h (q / n * n + z) (place_below n (q / n) z u hz)) (below pairs h (z * n + q % n) (place_below n z (q % n) hz v))
      (more_triangles P s codes c home (p / n) (p % n) (q / n) (q % n) x y u v same z hz rarer)

  module _ {k : ℕ} {at : ℕ → ℕ} {members : List ℕ} (m : IsMembers pairs.parting.class.items k at members) where
    low : (x y : ℕ) → x < n → y < n → x * n + y < length pairs.parting.class.items
    low x y hx hy = omega (arith, all_pairs pairs h, place_below n x y hx hy)

    -- a class of one pair
    pub like_single : length members ≡ 1 → HasLikeRows P k
    like_single one = record {
      like = λ x y u v hx hy hu hv e f i j.
          let p = x * n + y in
          let q = u * n + v in
          let a = m.listed p (low x y hx hy) e in
          let b = m.listed q (low u v hu hv) f in
          let same : at p ≡ at q = omega (arith, a, b, one) in
          let is : p ≡ q = sym (m.is p (low x y hx hy) e) ∙ ap (λ w. get_or members w 0) same ∙ m.is q (low u v hu hv) f in
          let points = same_from_place x y u v n hy hv is in
          λ r. count_by (λ z. (colour_at P (points.0 r) z == i) && (colour_at P (points.1 r) z == j)) (range_with_len 0 n);
    }

    -- a class whose pairs all have the same counts of codes
    pub like_codes : (want : List ℕ) → ((a : ℕ) → a < length members → HasCodeCounts pairs codes (get_or members a 0) want) → HasLikeRows P k
    like_codes want counts = record {
      like = λ x y u v hx hy hu hv e f i j.
          like_rows P s codes c home x y u v hx hy hu hv (e ∙ sym f) (λ code. sym (count_at x y hx hy e code) ∙ count_at u v hu hv f code) i j;
    }
      where
        count_at : (x y : ℕ) → x < n → y < n → colour_at P x y ≡ k → (code : ℕ) → get_or want code 0 ≡ code_count n codes x y code
        count_at x y hx hy e code =
            let p = x * n + y in
            (counts (at p) (m.listed p (low x y hx hy) e)).is code ∙ ap (λ q. code_count n codes (q / n) (q % n) code) (m.is p (low x y hx hy) e)
            ∙ (λ i. code_count n codes (div-mul-add x n y hy i) (mod-mul-add x n y hy i) code)

    -- a class whose transposed class has a smaller number
    pub like_transposed : (p : ℕ) → p < n * n → class_at pairs.parting p ≡ k → get_or pairs.turned.items p 0 < k → HasLikeRowsOnce P k
    like_transposed p hp e less once =
        let some = some_size n p hp in
        let l = once (p / n) (p % n) (row_below n p some hp) (column_below n p some) (at_points pairs h p ∙ e) in
        absurd (omega (arith, l, less, turned_is pairs h p hp))

  -- all classes together
  pub coherent_from : ((k : ℕ) → k < pairs.parting.rank → HasLikeRowsOnce P k) → Coherent P
  coherent_from once =
      coherent_from_rows P s (λ k.
      ⊎_elim
      (λ l. once k l)
      (λ g o. record { like = λ x y u v hx hy hu hv e f i j. absurd (omega (arith, g, e, below pairs h (x * n + y) (place_below n x y hx hy))) })
      (cases_lt k pairs.parting.rank))
