-- The loop that fills the two parts of the labels, row by row.
use Rattle.std.proofs.Common.{◌≡◌, ◌≢◌, ℕ, ◌+◌, ◌*◌, ◌<◌, ◌≤◌, ⊎_elim, sym, subst, ◌∙◌, arith}
use Rattle.std.proofs.lemmas.Bool.{cases_lt}
use Rattle.std.proofs.lemmas.Nat.{same_from_place, mul-add-lt}
use Rattle.pair_colours.specs.Colouring.{PairColouring, colour_at}
use Rattle.products.specs.Steps.{AreParts}

-- the pairs before the place k have the values of g in L
pub record IsFilledTo (n : ℕ) (g : ℕ → ℕ → ℕ) (L : PairColouring) (k : ℕ) : Type 0 where
  pub size : L.size ≡ n
  pub is : (p q : ℕ) → p < n → q < n → p * n + q < k → colour_at L p q ≡ g p q

pub filled_more : (n : ℕ) (g : ℕ → ℕ → ℕ) (L M : PairColouring) (p q k : ℕ) → IsFilledTo n g L (p * n + q) → q < n → k ≡ p * n + q + 1
    → M.size ≡ L.size → colour_at M p q ≡ g p q
    → ((u v : ℕ) → u < L.size → v < L.size → (u ≡ p → v ≢ q) → colour_at M u v ≡ colour_at L u v) → IsFilledTo n g M k
filled_more n g L M p q k h hq next size pair others = record {
  size = size ∙ h.size;
  is = λ u v hu hv l.
      ⊎_elim
      (λ before. others u v (omega (arith, hu, h.size)) (omega (arith, hv, h.size)) (λ e d. let same : u * n + v ≡ p * n + q = (λ i. e i * n + d i) in omega (arith, same, before)) ∙ h.is u v hu hv before)
      (λ here.
      let place : u * n + v ≡ p * n + q = omega (arith, here, l, next) in
      let both = same_from_place u v p q n hv hq place in
      subst (λ a. colour_at M a v ≡ g a v) (sym both.0) (subst (λ b. colour_at M p b ≡ g p b) (sym both.1) pair))
      (cases_lt (u * n + v) (p * n + q));
}

pub parts_filled : (n k : ℕ) (label : ℕ → ℕ → ℕ × ℕ) (L M : PairColouring) → n ≤ k
    → IsFilledTo n (λ p q. (label p q).0) L (k * n) → IsFilledTo n (λ p q. (label p q).1) M (k * n) → AreParts n label L M
parts_filled n k label L M end l m = record {
  left_size = l.size;
  right_size = m.size;
  first = λ p q hp hq. l.is p q hp hq (below p q hp hq);
  second = λ p q hp hq. m.is p q hp hq (below p q hp hq);
}
  where
    below : (p q : ℕ) → p < n → q < n → p * n + q < k * n
    below p q hp hq = let lt : p * n + q < n * k = mul-add-lt p n q k (omega (arith, hp, end)) hq in omega (arith, lt)
