-- The loops that fill a colouring: on some points, and with the least colours met.
use Rattle.std.proofs.Common.{◌≡◌, ◌≢◌, ℕ, ◌+◌, ◌*◌, ◌<◌, ◌≤◌, ◌⊎◌, List, length, get_or, inl, inr, ⊎_elim, refl, sym, subst, ◌∙◌, arith}
use Rattle.std.proofs.lemmas.Bool.{cases_lt, cases_eq}
use Rattle.std.proofs.lemmas.Nat.{same_from_place, mul-add-lt}
use Rattle.pair_colours.specs.Colouring.{PairColouring, IsColouring, colour_at}
use Rattle.quotients.specs.Steps.{IsBetween, IsLeastMet, IsPicked}

-- the pairs before the place k have the values of g in L
pub record IsFilledTo (n : ℕ) (g : ℕ → ℕ → ℕ) (L : PairColouring) (k : ℕ) : Type 0 where
  pub size : L.size ≡ n
  pub is : (p q : ℕ) → p < n → q < n → p * n + q < k → colour_at L p q ≡ g p q

pub filled_more : (n : ℕ) (g : ℕ → ℕ → ℕ) (L M : PairColouring) (p q k : ℕ) → IsFilledTo n g L (p * n + q) → q < n → k ≡ p * n + q + 1
    → M.size ≡ L.size → colour_at M p q ≡ g p q
    → ((u v : ℕ) → u < L.size → v < L.size → (u ≡ p → v ≢ q) → colour_at M u v ≡ colour_at L u v) → IsFilledTo n g M k
filled_more n g L M p q k h hq next size pair others = record {
  size = size ∙ h.size;
  is = λ u v hu hv l.
      ⊎_elim
      (λ before. others u v (omega (arith, hu, h.size)) (omega (arith, hv, h.size)) (λ e d. let same : u * n + v ≡ p * n + q = (λ i. e i * n + d i) in omega (arith, same, before)) ∙ h.is u v hu hv before)
      (λ here.
      let place : u * n + v ≡ p * n + q = omega (arith, here, l, next) in
      let both = same_from_place u v p q n hv hq place in
      subst (λ a. colour_at M a v ≡ g a v) (sym both.0) (subst (λ b. colour_at M p b ≡ g p b) (sym both.1) pair))
      (cases_lt (u * n + v) (p * n + q));
}

pub picked_whole : (K : PairColouring) (ps : List ℕ) (n k : ℕ) (L : PairColouring) → IsColouring L → n ≡ length ps → n ≤ k
    → IsFilledTo n (λ s t. colour_at K (get_or ps s 0) (get_or ps t 0)) L (k * n) → IsPicked K ps L
picked_whole K ps n k L colouring len end l = record {
  colouring = colouring;
  size = l.size ∙ len;
  is = λ s t hs ht. let a : s < n = omega (arith, hs, len) in let b : t < n = omega (arith, ht, len) in l.is s t a b (below s t a b);
}
  where
    below : (p q : ℕ) → p < n → q < n → p * n + q < k * n
    below p q hp hq = let lt : p * n + q < n * k = mul-add-lt p n q k (omega (arith, hp, end)) hq in omega (arith, lt)

-- M has the least colour met before the place k, and the bound where none is met
pub record IsMetTo (K : PairColouring) (ls : List ℕ) (bound : ℕ) (M : PairColouring) (k : ℕ) : Type 0 where
  pub size : M.size ≡ K.size
  pub least : (x y : ℕ) → x < K.size → y < K.size → x * K.size + y < k → colour_at M (get_or ls x 0) (get_or ls y 0) ≤ colour_at K x y
  pub met : (s t : ℕ) → s < K.size → t < K.size → (colour_at M s t ≡ bound) ⊎ IsBetween K ls s t (colour_at M s t)

-- a pair whose colour is not smaller changes nothing
pub met_kept : (K : PairColouring) (ls : List ℕ) (bound : ℕ) (M : PairColouring) (x y k : ℕ) → IsMetTo K ls bound M (x * K.size + y) → y < K.size → k ≡ x * K.size + y + 1
    → colour_at M (get_or ls x 0) (get_or ls y 0) ≤ colour_at K x y → IsMetTo K ls bound M k
met_kept K ls bound M x y k h hy next le = record {
  size = h.size;
  least = λ u v hu hv l.
      ⊎_elim (λ before. h.least u v hu hv before)
      (λ here.
      let both = same_from_place u v x y K.size hv hy (omega (arith, here, l, next)) in
      subst (λ a. colour_at M (get_or ls a 0) (get_or ls v 0) ≤ colour_at K a v) (sym both.0) (subst (λ b. colour_at M (get_or ls x 0) (get_or ls b 0) ≤ colour_at K x b) (sym both.1) le))
      (cases_lt (u * K.size + v) (x * K.size + y));
  met = h.met;
}

-- a smaller one is put at the pair of the least points
pub met_set : (K : PairColouring) (ls : List ℕ) (bound : ℕ) (M N : PairColouring) (x y k s t : ℕ) → IsMetTo K ls bound M (x * K.size + y) → x < K.size → y < K.size → k ≡ x * K.size + y + 1
    → s ≡ get_or ls x 0 → t ≡ get_or ls y 0 → s < K.size → t < K.size
    → ((u : ℕ) → u < K.size → get_or ls u 0 < K.size)
    → N.size ≡ M.size → colour_at N s t ≡ colour_at K x y → colour_at K x y < colour_at M s t
    → ((u v : ℕ) → u < M.size → v < M.size → (u ≡ s → v ≢ t) → colour_at N u v ≡ colour_at M u v) → IsMetTo K ls bound N k
met_set K ls bound M N x y k s t h hx hy next row column ls_s ls_t points size pair less others =
    met_kept K ls bound N x y k (record { size = size ∙ h.size; least = least; met = met }) hy next
    (subst (λ a. colour_at N a (get_or ls y 0) ≤ colour_at K x y) row (subst (λ b. colour_at N s b ≤ colour_at K x y) column (omega (arith, pair))))
  where
    -- what stands in N at each pair
    at : (u v : ℕ) → u < K.size → v < K.size → ((u ≡ s) × (v ≡ t)) ⊎ (colour_at N u v ≡ colour_at M u v)
    at u v hu hv = ⊎_elim
        (λ e. ⊎_elim (λ f. inl (e, f)) (λ f. inr (others u v (omega (arith, hu, h.size)) (omega (arith, hv, h.size)) (λ _. f))) (cases_eq v t))
        (λ e. inr (others u v (omega (arith, hu, h.size)) (omega (arith, hv, h.size)) (λ d. absurd (e d))))
        (cases_eq u s)

    least : (u v : ℕ) → u < K.size → v < K.size → u * K.size + v < x * K.size + y → colour_at N (get_or ls u 0) (get_or ls v 0) ≤ colour_at K u v
    least u v hu hv l =
        let old = h.least u v hu hv l in
        ⊎_elim
        (λ e.
        let now : colour_at N (get_or ls u 0) (get_or ls v 0) ≡ colour_at N s t = λ i. colour_at N (e.0 i) (e.1 i) in
        let was : colour_at M (get_or ls u 0) (get_or ls v 0) ≡ colour_at M s t = λ i. colour_at M (e.0 i) (e.1 i) in
        omega (arith, now, was, pair, less, old))
        (λ e. omega (arith, e, old))
        (at (get_or ls u 0) (get_or ls v 0) (points u hu) (points v hv))

    met : (u v : ℕ) → u < K.size → v < K.size → (colour_at N u v ≡ bound) ⊎ IsBetween K ls u v (colour_at N u v)
    met u v hu hv = ⊎_elim
        (λ e. inr (record { from = x; to = y; row = hx; column = hy; near = sym row ∙ sym e.0; far = sym column ∙ sym e.1; is = sym pair ∙ (λ i. colour_at N (sym e.0 i) (sym e.1 i)) }))
        (λ e. ⊎_elim
        (λ b. inl (e ∙ b))
        (λ b. inr (subst (IsBetween K ls u v) (sym e) b))
        (h.met u v hu hv))
        (at u v hu hv)

-- at the end each pair is met
pub met_whole : (K : PairColouring) (ls : List ℕ) (bound k : ℕ) (M : PairColouring) → ((x y : ℕ) → x < K.size → y < K.size → colour_at K x y ≤ bound)
    → ((u : ℕ) → u < K.size → get_or ls u 0 < K.size) → K.size ≤ k → IsMetTo K ls bound M (k * K.size) → IsLeastMet K ls M
met_whole K ls bound k M small points end h = record {
  size = h.size;
  least = least;
  met = λ x y hx hy. ⊎_elim
      (λ e.
      let same : colour_at K x y ≡ colour_at M (get_or ls x 0) (get_or ls y 0) = omega (arith, e, least x y hx hy, small x y hx hy) in
      record { from = x; to = y; row = hx; column = hy; near = refl; far = refl; is = same })
      (λ b. b)
      (h.met (get_or ls x 0) (get_or ls y 0) (points x hx) (points y hy));
}
  where
    least : (x y : ℕ) → x < K.size → y < K.size → colour_at M (get_or ls x 0) (get_or ls y 0) ≤ colour_at K x y
    least x y hx hy =
        let lt : x * K.size + y < K.size * k = mul-add-lt x K.size y k (omega (arith, hx, end)) hy in
        h.least x y hx hy (omega (arith, lt))
