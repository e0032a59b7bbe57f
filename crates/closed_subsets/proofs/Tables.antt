-- Masks within masks, and the table of products.
use Rattle.std.proofs.Common.{◌≡◌, ◌==◌, min, ℕ, zero, suc, ◌+◌, ◌*◌, ◌/◌, ◌%◌, ◌^◌, ◌<◌, ◌≤◌, true, List, [], ◌∷◌, ◌++◌, length, slice_index, bit_and, ⊎_elim, refl, sym, ap, subst, ◌∙◌, arith}
use Rattle.std.specs.Int.{bit_at}
use Rattle.std.proofs.lemmas.Bool.{cases_lt, eq-eqb, eqb-true, lt-ltb, ltb-true}
use Rattle.std.proofs.lemmas.List.{get_or_push, get_or_append_left}
use Rattle.std.proofs.lemmas.Nat.{div-mul-add, mod-mul-add, mul-add-lt}
use Rattle.std.proofs.lemmas.Nat.Bits.{bit_at_and, bit_at-lt, bit_at_above, same_from_bits}
use Rattle.pair_colours.specs.Colouring.{PairColouring}
use Rattle.pair_colours.specs.Naming.{rank_of}
use Rattle.pair_colours.specs.IntersectionNumber.{intersection_number}
use Rattle.visitors.specs.Masks.{is_member, HasBits}
use Rattle.closed_subsets.specs.Closedness.{HasProductsOf}
use Rattle.closed_subsets.specs.Products.{is_product, AreProducts}

-- bits below 2, and the lesser of two
min_one : (x y : ℕ) → y < 2 → min x y ≡ x → x ≡ 1 → y ≡ 1
min_one x zero l e one = let z : min x 0 ≡ 0 = omega arith in absurd (omega (arith, z, e, one))
min_one x (suc zero) l e one = refl
min_one x (suc (suc y)) l e one = absurd (omega (arith, l))

min_from : (x y : ℕ) → x < 2 → (x ≡ 1 → y ≡ 1) → min x y ≡ x
min_from zero y l h = omega arith
min_from (suc zero) y l h = let e : y ≡ 1 = h refl in omega (arith, e)
min_from (suc (suc x)) y l h = absurd (omega (arith, l))

is_one : (m c : ℕ) → is_member m c ≡ true → bit_at m c ≡ 1
is_one m c e = eqb-true _ 1 e

one_is : (m c : ℕ) → bit_at m c ≡ 1 → is_member m c ≡ true
one_is m c e = eq-eqb _ 1 e

IsWithin : ℕ → ℕ → Type 0
IsWithin part whole = (c : ℕ) → c < 32 → is_member part c ≡ true → is_member whole c ≡ true

pub within_holds : (part whole : ℕ) → (bit_and part whole == part) ≡ true → (c : ℕ) → c < 32 → is_member part c ≡ true → is_member whole c ≡ true
within_holds part whole e c l m =
    one_is whole c (min_one (bit_at part c) (bit_at whole c) (bit_at-lt whole c) (sym (bit_at_and part whole c) ∙ ap (λ n. bit_at n c) (eqb-true (bit_and part whole) part e)) (is_one part c m))

pub within_from : (part whole : ℕ) → part < 2 ^ 32 → ((c : ℕ) → c < 32 → is_member part c ≡ true → is_member whole c ≡ true) → (bit_and part whole == part) ≡ true
within_from part whole low h = eq-eqb (bit_and part whole) part (same_from_bits (bit_and part whole) part (λ i.
    bit_at_and part whole i ∙ min_from (bit_at part i) (bit_at whole i) (bit_at-lt part i) (λ one. ⊎_elim
    (λ (l : i < 32). is_one whole i (h i l (one_is part i one)))
    (λ (l : 32 ≤ i). absurd (omega (arith, one, bit_at_above part 32 i low l)))
    (cases_lt i 32))))

-- a table that is made place by place
pub each_more : (P : ℕ → ℕ → Type 0) (old new : List ℕ) (n x : ℕ) → length old ≡ n → new ≡ old ++ x ∷ []
    → ((p : ℕ) → p < n → P p (slice_index old p)) → P n x → (p : ℕ) → p < n + 1 → P p (slice_index new p)
each_more P old new n x len e before here p l = subst (λ xs. P p (slice_index xs p)) (sym e) (⊎_elim
    (λ (m : p < n). subst (P p) (sym (get_or_append_left old (x ∷ []) 0 p (omega (arith, m, len)))) (before p m))
    (λ (m : n ≤ p).
    let same : n ≡ p = omega (arith, l, m) in
    subst (P p) (sym (get_or_push old x 0 p (len ∙ same))) (subst (λ k. P k x) same here))
    (cases_lt p n))

-- what the table says of two classes
module _ (K : PairColouring) (table : List ℕ) (t : AreProducts K table) (i j : ℕ) (li : i < rank_of K) (lj : j < rank_of K) where
  abbrev part : ℕ
  part = slice_index table (i * rank_of K + j)

  product_bits : HasBits (rank_of K) part (is_product K i j)
  product_bits =
      let b = t.each (i * rank_of K + j) (mul-add-lt i (rank_of K) j (rank_of K) li lj) in
      subst (λ d. HasBits (rank_of K) part (is_product K i d)) (mod-mul-add i (rank_of K) j lj)
      (subst (λ d. HasBits (rank_of K) part (is_product K d ((i * rank_of K + j) % rank_of K))) (div-mul-add i (rank_of K) j lj) b)

  pub product_read : (read mask : ℕ) → rank_of K ≤ 32 → read ≡ slice_index table (i * rank_of K + j)
      → ((c : ℕ) → c < 32 → is_member read c ≡ true → is_member mask c ≡ true)
      → (n : ℕ) → n < rank_of K → 0 < intersection_number K i j n → is_member mask n ≡ true
  product_read read mask small e h n l more =
      h n (omega (arith, l, small)) (ap (λ m. is_member m n) e ∙ product_bits.bits n l ∙ lt-ltb 0 (intersection_number K i j n) more)

  pub product_kept : (read mask : ℕ) → read ≡ slice_index table (i * rank_of K + j) → HasProductsOf K i (is_member mask) → is_member mask j ≡ true
      → (c : ℕ) → c < 32 → is_member read c ≡ true → is_member mask c ≡ true
  product_kept read mask e h m c l own = ⊎_elim
      (λ (k : c < rank_of K). h.product j c lj k m (ltb-true 0 (intersection_number K i j c) (sym (product_bits.bits c k) ∙ ap (λ m. is_member m c) (sym e) ∙ own)))
      (λ (k : rank_of K ≤ c). let z : bit_at part c ≡ 0 = bit_at_above part (rank_of K) c product_bits.low k in absurd (omega (arith, z, is_one part c (ap (λ m. is_member m c) (sym e) ∙ own))))
      (cases_lt c (rank_of K))

pub HasBits-at : (K : PairColouring) (r p mask : ℕ) → r ≡ rank_of K → HasBits (rank_of K) mask (is_product K (p / r) (p % r)) → HasBits (rank_of K) mask (is_product K (p / rank_of K) (p % rank_of K))
HasBits-at K r p mask e b = subst (λ n. HasBits (rank_of K) mask (is_product K (p / n) (p % n))) e b

-- one more class of those before the n-th
pub before_more : (P : ℕ → Type 0) (n : ℕ) → ((c : ℕ) → c < n → P c) → P n → (c : ℕ) → c < n + 1 → P c
before_more P n before here c l = ⊎_elim
    (λ (m : c < n). before c m)
    (λ (m : n ≤ c). let same : n ≡ c = omega (arith, l, m) in subst P same here)
    (cases_lt c n)
