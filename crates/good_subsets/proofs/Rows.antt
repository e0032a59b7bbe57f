-- The rows of the table, and sums of them.
use Rattle.std.proofs.Common.{◌≡◌, ℕ, ◌+◌, ◌*◌, ◌/◌, ◌%◌, ◌^◌, ◌<◌, ◌≤◌, List, [], ◌∷◌, ◌++◌, length, take, sum_by, slice_index, ⊎_elim, sym, ap, subst, ◌∙◌, arith}
use Rattle.std.proofs.Math.Nat.{mod-add-mod}
use Rattle.std.proofs.lemmas.Bool.{cases_lt}
use Rattle.std.proofs.lemmas.Nat.{div-mul-add, mod-mul-add}
use Rattle.std.proofs.lemmas.List.{get_or_push, get_or_append_left, take_more}
use Rattle.std.proofs.lemmas.List.Sums.{sum_by_push}
use Rattle.pair_colours.specs.Colouring.{PairColouring}
use Rattle.pair_colours.specs.Naming.{rank_of}
use Rattle.pair_colours.specs.IntersectionNumber.{intersection_number}
use Rattle.good_subsets.specs.Products.{IsTable}

-- what stands at a place of the table
abbrev pub IsEntryAt : PairColouring → ℕ → ℕ → Type 0
IsEntryAt K place value = place / 16 / 16 < rank_of K → place / 16 % 16 < rank_of K → place % 16 < rank_of K → value ≡ intersection_number K (place / 16 / 16) (place / 16 % 16) (place % 16)

-- so it is before a place
pub record AreEntries (K : PairColouring) (place : ℕ) (values : List ℕ) : Type 0 where
  pub len : length values ≡ place
  pub each : (p : ℕ) → p < place → IsEntryAt K p (slice_index values p)

pub entries_more : (K : PairColouring) (place value : ℕ) (old new : List ℕ) → AreEntries K place old → IsEntryAt K place value → new ≡ old ++ value ∷ [] → length new ≡ length old + 1 → AreEntries K (place + 1) new
entries_more K place value old new a here e more = record {
  len = omega (arith, more, a.len);
  each = λ p l. subst (λ xs. IsEntryAt K p (slice_index xs p)) (sym e) (⊎_elim
      (λ (m : p < place). subst (IsEntryAt K p) (sym (get_or_append_left old (value ∷ []) 0 p (omega (arith, m, a.len)))) (a.each p m))
      (λ (m : place ≤ p).
      let same : place ≡ p = omega (arith, l, m) in
      subst (IsEntryAt K p) (sym (get_or_push old value 0 p (a.len ∙ same))) (subst (λ q. IsEntryAt K q value) same here))
      (cases_lt p place));
}

pub table_made : (K : PairColouring) → rank_of K ≤ 16 → (values : List ℕ) → AreEntries K 4096 values → IsTable K values
table_made K small values a = record {
  len = a.len;
  each = λ i j k li lj lk.
      let q : ℕ = (i * 16 + j) * 16 + k in
      let over : q / 16 ≡ i * 16 + j = div-mul-add (i * 16 + j) 16 k (omega (arith, lk, small)) in
      let first : q / 16 / 16 ≡ i = ap (λ t. t / 16) over ∙ div-mul-add i 16 j (omega (arith, lj, small)) in
      let second : q / 16 % 16 ≡ j = ap (λ t. t % 16) over ∙ mod-mul-add i 16 j (omega (arith, lj, small)) in
      let third : q % 16 ≡ k = mod-mul-add (i * 16 + j) 16 k (omega (arith, lk, small)) in
      a.each q (omega (arith, li, lj, lk, small)) (subst (λ t. t < rank_of K) (sym first) li) (subst (λ t. t < rank_of K) (sym second) lj) (subst (λ t. t < rank_of K) (sym third) lk)
      ∙ (λ t. intersection_number K (first t) (second t) (third t));
}

-- sums modulo 2^32
pub added : (f : ℕ → ℕ) (xs : List ℕ) (n old s new : ℕ) → n < length xs → s ≡ (old + sum_by f (take n xs)) % 2 ^ 32 → new ≡ (s + f (slice_index xs n)) % 2 ^ 32
    → new ≡ (old + sum_by f (take (n + 1) xs)) % 2 ^ 32
added f xs n old s new l e g =
    let total : ℕ = sum_by f (take n xs) in
    let p : ℕ = f (slice_index xs n) in
    let regroup : old + total + p ≡ old + (total + p) = omega arith in
    let more : sum_by f (take (n + 1) xs) ≡ total + p = ap (sum_by f) (take_more xs n 0 l) ∙ sum_by_push f (take n xs) (slice_index xs n) in
    g ∙ ap (λ t. (t + p) % 2 ^ 32) e ∙ mod-add-mod (old + total) (2 ^ 32) p ∙ ap (λ t. t % 2 ^ 32) regroup ∙ ap (λ t. (old + t) % 2 ^ 32) (sym more)

pub added_first : (f : ℕ → ℕ) (xs : List ℕ) (n s new : ℕ) → n < length xs → s ≡ sum_by f (take n xs) % 2 ^ 32 → new ≡ (s + f (slice_index xs n)) % 2 ^ 32
    → new ≡ sum_by f (take (n + 1) xs) % 2 ^ 32
added_first f xs n s new l e g =
    let more : sum_by f (take (n + 1) xs) ≡ sum_by f (take n xs) + f (slice_index xs n) = ap (sum_by f) (take_more xs n 0 l) ∙ sum_by_push f (take n xs) (slice_index xs n) in
    g ∙ ap (λ t. (t + f (slice_index xs n)) % 2 ^ 32) e ∙ mod-add-mod (sum_by f (take n xs)) (2 ^ 32) (f (slice_index xs n)) ∙ ap (λ t. t % 2 ^ 32) (sym more)
