-- Growth strings with the same blocks are the same.
use Rattle.std.proofs.Common.{◌≡◌, ℕ, zero, suc, ◌+◌, ◌<◌, ◌≤◌, max, List, [], ◌∷◌, ◌++◌, length, take, slice_index, ⊎_elim, refl, sym, ap, ◌∙◌, arith}
use Rattle.std.proofs.lemmas.Bool.{cases_lt}
use Rattle.std.proofs.lemmas.List.{take_more, take_all, get_or-take}
use Rattle.colour_wl.specs.GrowthStrings.{next_number, IsGrowth}
use Rattle.colour_wl.proofs.Growth.{next_number-push}

-- each number below the next one is used
used_below : (n : ℕ) (a : List ℕ) → IsGrowth n a → (i v : ℕ) → i ≤ n → v < next_number (take i a) → (j : ℕ) × (j < i) × (slice_index a j ≡ v)
used_below n a g zero v l h = absurd (omega (arith, h))
used_below n a g (suc i) v l h =
    let inside : i < length a = omega (arith, l, g.len) in
    let e : suc i ≡ i + 1 = omega arith in
    let more : next_number (take (suc i) a) ≡ max (next_number (take i a)) (slice_index a i + 1) = ap (λ k. next_number (take k a)) e ∙ ap next_number (take_more a i 0 inside) ∙ next_number-push (take i a) (slice_index a i) in
    let own = g.grows i (omega (arith, l)) in
    ⊎_elim
    (λ (m : v < next_number (take i a)). let r = used_below n a g i v (omega (arith, l)) m in (r.0, omega (arith, r.1), r.2))
    (λ (m : next_number (take i a) ≤ v). (i, omega arith, omega (arith, m, own, h, more)))
    (cases_lt v (next_number (take i a)))

-- growth strings with the same blocks are the same
module _ (n : ℕ) (a b : List ℕ) (g : IsGrowth n a) (k : IsGrowth n b)
    (f : (i j : ℕ) → i < n → j < n → slice_index a i ≡ slice_index a j → slice_index b i ≡ slice_index b j)
    (t : (i j : ℕ) → i < n → j < n → slice_index b i ≡ slice_index b j → slice_index a i ≡ slice_index a j) where
  front_same : (m i : ℕ) → m ≤ n → take m a ≡ take m b → i < m → slice_index a i ≡ slice_index b i
  front_same m i l e h = sym (get_or-take m a i 0 h) ∙ ap (λ s. slice_index s i) e ∙ get_or-take m b i 0 h

  at_same : (m : ℕ) → m < n → take m a ≡ take m b → slice_index a m ≡ slice_index b m
  at_same m l e =
      let low : m ≤ n = omega (arith, l) in
      ⊎_elim
      (λ (h : slice_index a m < next_number (take m a)).
      let r = used_below n a g m (slice_index a m) low h in
      sym r.2 ∙ front_same m r.0 low e r.1 ∙ f r.0 m (omega (arith, r.1, l)) l r.2)
      (λ (h : next_number (take m a) ≤ slice_index a m). ⊎_elim
      (λ (q : slice_index b m < next_number (take m b)).
      let r = used_below n b k m (slice_index b m) low q in
      sym (t r.0 m (omega (arith, r.1, l)) l r.2) ∙ front_same m r.0 low e r.1 ∙ r.2)
      (λ (q : next_number (take m b) ≤ slice_index b m). omega (arith, h, q, g.grows m l, k.grows m l, ap next_number e))
      (cases_lt (slice_index b m) (next_number (take m b))))
      (cases_lt (slice_index a m) (next_number (take m a)))

  fronts_same : (m : ℕ) → m ≤ n → take m a ≡ take m b
  fronts_same zero l = refl
  fronts_same (suc m) l =
      let again = fronts_same m (omega (arith, l)) in
      let e : suc m ≡ m + 1 = omega arith in
      let at = at_same m (omega (arith, l)) again in
      ap (λ i. take i a) e ∙ take_more a m 0 (omega (arith, l, g.len)) ∙ (λ i. again i ++ at i ∷ []) ∙ sym (take_more b m 0 (omega (arith, l, k.len))) ∙ ap (λ i. take i b) (sym e)

  pub same_strings : a ≡ b
  same_strings = sym (take_all n a (omega (arith, g.len))) ∙ fronts_same n (omega arith) ∙ take_all n b (omega (arith, k.len))
