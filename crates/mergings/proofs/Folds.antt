-- Sums of structure constants over blocks, folded from the table.
use Rattle.std.proofs.Common.{◌≡◌, ◌==◌, ◌&&◌, ℕ, ◌+◌, ◌*◌, ◌%◌, ◌^◌, ◌<◌, ◌≤◌, Bool, true, false, List, [], ◌∷◌, All, length, filter, get_or, sum_by, slice_index, inl, inr, refl, sym, ap, ◌∙◌, arith}
use Rattle.std.proofs.Math.Nat.{mod-add-mod, mod-eq_of_lt}
use Rattle.std.proofs.lemmas.List.Sums.{sum_by-cons, sum_by_push, sum_by-le, count_by-le-length, length-filter}
use Rattle.std.proofs.lemmas.List.FromFn.{length-range_with_len}
use Rattle.pair_colours.specs.Colouring.{PairColouring, FitsColouring, points, colour_at}
use Rattle.pair_colours.specs.declared.coloured_pairs.TheConstants.{MOST_POINTS}
use Rattle.pair_colours.specs.Naming.{rank_of}
use Rattle.pair_colours.proofs.Counts.{sum_by_add}
use Rattle.pair_colours.specs.IntersectionNumber.{intersection_number, pair_of_class}
use Rattle.pair_colours.proofs.SortedLists.{In, In-points_from}
use Rattle.pair_colours.proofs.SubsetLemmas.{In-filter_from}
use Rattle.colour_wl.specs.BlockSums.{product_at}
use Rattle.colour_wl.proofs.Sums.{sum_by_zero}
use Rattle.good_subsets.specs.Products.{IsTable}
use Rattle.visitors.proofs.MaskSets.{filter_yes, filter_no}
use Rattle.mergings.specs.Searches.{block_at}

-- sums so far, modulo 2^32
pub fold_yes : (p : ℕ → Bool) (f : ℕ → ℕ) (n s new : ℕ) → p n ≡ true → s ≡ sum_by f (filter p (points n)) % 2 ^ 32 → new ≡ (s + f n) % 2 ^ 32 → new ≡ sum_by f (filter p (points (n + 1))) % 2 ^ 32
fold_yes p f n s new t e g =
    let total : ℕ = sum_by f (filter p (points n)) in
    let more : sum_by f (filter p (points (n + 1))) ≡ total + f n = ap (sum_by f) (filter_yes p n t) ∙ sum_by_push f (filter p (points n)) n in
    g ∙ ap (λ m. (m + f n) % 2 ^ 32) e ∙ mod-add-mod total (2 ^ 32) (f n) ∙ ap (λ m. m % 2 ^ 32) (sym more)

pub fold_no : (p : ℕ → Bool) (f : ℕ → ℕ) (n s new : ℕ) → p n ≡ false → s ≡ sum_by f (filter p (points n)) % 2 ^ 32 → new ≡ s → new ≡ sum_by f (filter p (points (n + 1))) % 2 ^ 32
fold_no p f n s new t e g = g ∙ e ∙ ap (λ l. sum_by f l % 2 ^ 32) (sym (filter_no p n t))

-- sums of terms that agree at the members
sum_by_agree_in : (f g : ℕ → ℕ) (xs : List ℕ) → ((x : ℕ) → In x xs → f x ≡ g x) → sum_by f xs ≡ sum_by g xs
sum_by_agree_in f g [] h = refl
sum_by_agree_in f g (x ∷ xs) h =
    sum_by-cons f x xs ∙ (λ i. h x (inl refl) i + sum_by_agree_in f g xs (λ y m. h y (inr m)) i) ∙ sym (sum_by-cons g x xs)

sum_most : (f : ℕ → ℕ) (m : ℕ) (xs : List ℕ) → ((x : ℕ) → In x xs → f x ≤ m) → sum_by f xs ≤ length xs * m
sum_most f m [] h = omega arith
sum_most f m (x ∷ xs) h = omega (arith, sum_by-cons f x xs, h x (inl refl), sum_most f m xs (λ y k. h y (inr k)))

-- a double sum either way
sums_exchanged : (f : ℕ → ℕ → ℕ) (xs ys : List ℕ) → sum_by (λ j. sum_by (λ i. f i j) xs) ys ≡ sum_by (λ i. sum_by (λ j. f i j) ys) xs
sums_exchanged f xs [] = sym (sum_by_zero xs)
sums_exchanged f xs (y ∷ ys) =
    sum_by-cons (λ j. sum_by (λ i. f i j) xs) y ys
    ∙ ap (λ s. sum_by (λ i. f i y) xs + s) (sums_exchanged f xs ys)
    ∙ sym (sum_by_add (λ i. f i y) (λ i. sum_by (λ j. f i j) ys) xs)
    ∙ sum_by_agree_in (λ i. f i y + sum_by (λ j. f i j) ys) (λ i. sum_by (λ j. f i j) (y ∷ ys)) xs (λ i m. sym (sum_by-cons (λ j. f i j) y ys))

all_in : (P : ℕ → Type 0) (xs : List ℕ) → ((x : ℕ) → P x) → All P xs
all_in P xs h = λ k d l. h (get_or xs k d)

number_small : (K : PairColouring) → FitsColouring K → (i j k : ℕ) → intersection_number K i j k ≤ MOST_POINTS
number_small K f i j k = omega (arith, count_by-le-length (λ z. (colour_at K (pair_of_class K k).0 z == i) && (colour_at K z (pair_of_class K k).1 == j)) (points K.size), length-range_with_len 0 K.size, f.limit)

length-block : (n : ℕ) (heads : List ℕ) (x : ℕ) → length (block_at n heads x) ≤ n
length-block n heads x = omega (arith, length-filter (λ c. slice_index heads c == x) (points n), count_by-le-length (λ c. slice_index heads c == x) (points n), length-range_with_len 0 n)

in_block : (n : ℕ) (heads : List ℕ) (x c : ℕ) → In c (block_at n heads x) → c < n
in_block n heads x c m = In-points_from n c (In-filter_from (λ d. slice_index heads d == x) (points n) c m).1

module _ (K : PairColouring) (f : FitsColouring K) (small : rank_of K ≤ 16) (table : List ℕ) (t : IsTable K table) (heads : List ℕ) (x : ℕ) (rows sums : List ℕ)
    (r : (p : ℕ) → p < 256 → slice_index rows p ≡ sum_by (λ i. slice_index table (i * 256 + p)) (block_at (rank_of K) heads x) % 2 ^ 32)
    (s : (y k : ℕ) → y < 16 → k < 16 → slice_index sums (y * 16 + k) ≡ sum_by (λ j. slice_index rows (j * 16 + k)) (block_at (rank_of K) heads y) % 2 ^ 32) where
  -- the sum of constants at a right colour, which is small
  rows_exact : (j k : ℕ) → j < rank_of K → k < rank_of K → slice_index rows (j * 16 + k) ≡ sum_by (λ i. intersection_number K i j k) (block_at (rank_of K) heads x)
  rows_exact j k lj lk =
      let left : List ℕ = block_at (rank_of K) heads x in
      let total : ℕ = sum_by (λ i. intersection_number K i j k) left in
      let few : total ≤ length left * MOST_POINTS = sum_by-le (λ i. intersection_number K i j k) MOST_POINTS left (all_in (λ i. intersection_number K i j k ≤ MOST_POINTS) left (λ i. number_small K f i j k)) in
      let low : total < 2 ^ 32 = omega (arith, few, length-block (rank_of K) heads x, small) in
      r (j * 16 + k) (omega (arith, lj, lk, small))
      ∙ ap (λ m. m % 2 ^ 32) (sum_by_agree_in (λ i. slice_index table (i * 256 + (j * 16 + k))) (λ i. intersection_number K i j k) left
      (λ i m.
      let place : i * 256 + (j * 16 + k) ≡ (i * 16 + j) * 16 + k = omega arith in
      ap (slice_index table) place ∙ t.each i j k (in_block (rank_of K) heads x i m) lj lk))
      ∙ mod-eq_of_lt low

  row_few : (j k : ℕ) → j < rank_of K → k < rank_of K → slice_index rows (j * 16 + k) ≤ 16 * MOST_POINTS
  row_few j k lj lk =
      let left : List ℕ = block_at (rank_of K) heads x in
      let few : sum_by (λ i. intersection_number K i j k) left ≤ length left * MOST_POINTS = sum_by-le (λ i. intersection_number K i j k) MOST_POINTS left (all_in (λ i. intersection_number K i j k ≤ MOST_POINTS) left (λ i. number_small K f i j k)) in
      omega (arith, rows_exact j k lj lk, few, length-block (rank_of K) heads x, small)

  -- the coefficient of the product
  pub sums_exact : (y k : ℕ) → y < rank_of K → k < rank_of K → slice_index sums (y * 16 + k) ≡ product_at K (block_at (rank_of K) heads x) (block_at (rank_of K) heads y) k
  sums_exact y k ly lk =
      let left : List ℕ = block_at (rank_of K) heads x in
      let right : List ℕ = block_at (rank_of K) heads y in
      let agree : sum_by (λ j. slice_index rows (j * 16 + k)) right ≡ sum_by (λ j. sum_by (λ i. intersection_number K i j k) left) right =
      sum_by_agree_in (λ j. slice_index rows (j * 16 + k)) (λ j. sum_by (λ i. intersection_number K i j k) left) right (λ j m. rows_exact j k (in_block (rank_of K) heads y j m) lk) in
      let few : sum_by (λ j. slice_index rows (j * 16 + k)) right ≤ length right * (16 * MOST_POINTS) =
      sum_most (λ j. slice_index rows (j * 16 + k)) (16 * MOST_POINTS) right (λ j m. row_few j k (in_block (rank_of K) heads y j m) lk) in
      let low : sum_by (λ j. slice_index rows (j * 16 + k)) right < 2 ^ 32 = omega (arith, few, length-block (rank_of K) heads y, small) in
      s y k (omega (arith, ly, small)) (omega (arith, lk, small))
      ∙ mod-eq_of_lt low
      ∙ agree
      ∙ sums_exchanged (λ i j. intersection_number K i j k) left right
