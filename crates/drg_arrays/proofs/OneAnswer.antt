-- The definitions leave only one answer.
use Rattle.std.proofs.Common.{◌≡◌, ℕ, zero, suc, ◌+◌, ◌-◌, ◌<◌, ◌≤◌, true, false, List, length, get_or, refl, sym, ◌∙◌, subst, arith, ⊎_elim}
use Rattle.std.proofs.lemmas.Bool.{cases_lt, cases_Bool}
use Rattle.std.proofs.lemmas.Nat.{same_from_place}
use Rattle.std.proofs.lemmas.List.{same_lists, get_or_default}
use Rattle.std.proofs.lemmas.List.Sums.{sum_by-le}
use Rattle.pair_colours.specs.Colouring.{points}
use Rattle.pair_colours.proofs.Counts.{count_by_points}
use Rattle.drg_arrays.specs.declared.answer.ArrayAnswer.{ArrayAnswer}
use Rattle.drg_arrays.specs.declared.answer.ArrayAnswer.TheVariants.{Array, Disconnected, Irregular}
use Rattle.drg_arrays.specs.Graph.{Graph}
use Rattle.drg_arrays.specs.Distance.{HasWalk, IsDistance, IsConnected, IsDiameter}
use Rattle.drg_arrays.specs.IntersectionArray.{IsCount, IsNearerNeighbour, IsFartherNeighbour, IsFirstPair, AtOneDistance, IsIrregular, HasArray}
use Rattle.drg_arrays.specs.Answer.{IsDisconnectedAt, IsIrregularAt, IsGraphAnswer}
use Rattle.drg_arrays.proofs.Walks.{IsDistance-same, each_distance}
use Rattle.drg_arrays.proofs.Regular.{IsCount-same, first_place_same}

-- a first pair is the only one
first_same : (G : Graph) (P : ℕ → ℕ → Type 0) (x y u v : ℕ) → IsFirstPair G P x y → IsFirstPair G P u v → (x ≡ u) × (y ≡ v)
first_same G P x y u v h k = same_from_place x y u v G.size h.column k.column (first_place_same G P x y u v h k)

-- a property that no point has counts 0
IsCount-none : (G : Graph) (P : ℕ → Type 0) (n : ℕ) → IsCount G P n → ((w : ℕ) → w < G.size → P w → ⊥) → n ≡ 0
IsCount-none G P n h none =
    let fails : (w : ℕ) → w < G.size → h.test w ≡ false = λ w l. ⊎_elim (λ (t : h.test w ≡ true). absurd (none w l ((h.decides w l).0 t))) (λ (f : h.test w ≡ false). f) (cases_Bool (h.test w)) in
    let zero_sum = sum_by-le (λ (z : ℕ). 0) 0 (points G.size) (λ k d l. omega arith) in
    omega (arith, h.counts, count_by_points h.test (λ z. false) G.size fails, zero_sum)

IsDiameter-same : (G : Graph) (d e : ℕ) → IsDiameter G d → IsDiameter G e → d ≡ e
IsDiameter-same G d e h k = omega (arith, h.greatest k.x k.y e k.row k.column k.reached, k.greatest h.x h.y d h.row h.column h.reached)

-- a graph with an array has no irregular pair
module _ (G : Graph) (b c : List ℕ) (h : HasArray G b c) (u v : ℕ) (hu : u < G.size) (hv : v < G.size) (r : IsIrregular G u v) where
  at_end : (p q n e i : ℕ) → p < G.size → q < G.size → IsDistance G p q i → length b ≤ i → IsCount G (IsFartherNeighbour G p q) n → n ≡ 0
  at_end p q n e i hp hq is l count = IsCount-none G (IsFartherNeighbour G p q) n count (λ w hw f.
      omega (arith, l, IsDistance-same G p q i f.distance is f.from_u, h.diameter.greatest p w (f.distance + 1) hp hw f.farther))

  at_start : (p q n i : ℕ) → IsDistance G p q i → i ≡ 0 → IsCount G (IsNearerNeighbour G p q) n → n ≡ 0
  at_start p q n i is z count = IsCount-none G (IsNearerNeighbour G p q) n count (λ w hw f. omega (arith, z, IsDistance-same G p q i (f.distance + 1) is f.from_u))

  b_same : (i : ℕ) → IsDistance G u v i → IsDistance G r.x r.y i → r.b ≡ r.first_b
  b_same i is other = ⊎_elim
      (λ (l : i < length b).
      IsCount-same G (IsFartherNeighbour G u v) r.b (get_or b i 0) r.own.farther (h.farther u v i hu hv is l)
      ∙ IsCount-same G (IsFartherNeighbour G r.x r.y) (get_or b i 0) r.first_b (h.farther r.x r.y i r.first.row r.first.column other l) r.of_first.farther)
      (λ (l : length b ≤ i). at_end u v r.b 0 i hu hv is l r.own.farther ∙ sym (at_end r.x r.y r.first_b 0 i r.first.row r.first.column other l r.of_first.farther))
      (cases_lt i (length b))

  c_same : (i : ℕ) → IsDistance G u v i → IsDistance G r.x r.y i → r.c ≡ r.first_c
  c_same zero is other = at_start u v r.c 0 is refl r.own.nearer ∙ sym (at_start r.x r.y r.first_c 0 other refl r.of_first.nearer)
  c_same (suc i) is other =
      let is' : IsDistance G u v (i + 1) = subst (IsDistance G u v) (omega arith) is in
      let other' : IsDistance G r.x r.y (i + 1) = subst (IsDistance G r.x r.y) (omega arith) other in
      let l : i < length c = omega (arith, h.lengths, h.diameter.greatest u v (i + 1) hu hv is') in
      IsCount-same G (IsNearerNeighbour G u v) r.c (get_or c i 0) r.own.nearer (h.nearer u v i hu hv is' l)
      ∙ IsCount-same G (IsNearerNeighbour G r.x r.y) (get_or c i 0) r.first_c (h.nearer r.x r.y i r.first.row r.first.column other' l) r.of_first.nearer

  regular : ⊥
  regular =
      let d = r.first.holds in
      r.differ (c_same d.distance d.of_one d.of_other, b_same d.distance d.of_one d.of_other)

-- a graph has only one array
b_only : (G : Graph) (b c b' c' : List ℕ) → HasArray G b c → HasArray G b' c' → length b ≡ length b' → b ≡ b'
b_only G b c b' c' h k len = same_lists b b' len (λ i d l.
    let m = length b - i in
    let w = each_distance G h.diameter.x h.diameter.y i m h.diameter.column (subst (IsDistance G h.diameter.x h.diameter.y) (omega (arith, l)) h.diameter.reached) in
    get_or_default b i d 0 l
    ∙ IsCount-same G (IsFartherNeighbour G h.diameter.x w.0) (get_or b i 0) (get_or b' i 0) (h.farther h.diameter.x w.0 i h.diameter.row w.1 w.2 l) (k.farther h.diameter.x w.0 i h.diameter.row w.1 w.2 (omega (arith, l, len)))
    ∙ sym (get_or_default b' i d 0 (omega (arith, l, len))))

c_only : (G : Graph) (b c b' c' : List ℕ) → HasArray G b c → HasArray G b' c' → length c ≡ length c' → c ≡ c'
c_only G b c b' c' h k len = same_lists c c' len (λ i d l.
    let m = length b - (i + 1) in
    let w = each_distance G h.diameter.x h.diameter.y (i + 1) m h.diameter.column (subst (IsDistance G h.diameter.x h.diameter.y) (omega (arith, l, h.lengths)) h.diameter.reached) in
    get_or_default c i d 0 l
    ∙ IsCount-same G (IsNearerNeighbour G h.diameter.x w.0) (get_or c i 0) (get_or c' i 0) (h.nearer h.diameter.x w.0 i h.diameter.row w.1 w.2 l) (k.nearer h.diameter.x w.0 i h.diameter.row w.1 w.2 (omega (arith, l, len)))
    ∙ sym (get_or_default c' i d 0 (omega (arith, l, len))))

connected_everywhere : (G : Graph) (x y : ℕ) → IsConnected G → IsDisconnectedAt G x y → ⊥
connected_everywhere G x y h k = k.holds (h.walks x y k.row k.column)

array_not_irregular : (G : Graph) (b c : List ℕ) (x y u v : ℕ) → HasArray G b c → IsIrregularAt G x y u v → ⊥
array_not_irregular G b c x y u v h k = regular G b c h u v k.irregular.row k.irregular.column k.irregular.holds

pub IsGraphAnswer-same : (G : Graph) (answer other : ArrayAnswer) → IsGraphAnswer G answer → IsGraphAnswer G other → answer ≡ other
IsGraphAnswer-same G (Array b c) (Array b' c') h k =
    let d = IsDiameter-same G (length b) (length b') h.diameter k.diameter in
    let eb = b_only G b c b' c' h k d in
    let ec = c_only G b c b' c' h k (h.lengths ∙ d ∙ sym k.lengths) in λ i. Array (eb i) (ec i)
IsGraphAnswer-same G (Array b c) (Disconnected x y) h k = absurd (connected_everywhere G x y h.connected k)
IsGraphAnswer-same G (Array b c) (Irregular x y u v) h k = absurd (array_not_irregular G b c x y u v h k)
IsGraphAnswer-same G (Disconnected x y) (Array b c) h k = absurd (connected_everywhere G x y k.connected h)
IsGraphAnswer-same G (Disconnected x y) (Disconnected x' y') h k =
    let e = first_same G (λ u v. ¬ HasWalk G u v) x y x' y' h k in λ i. Disconnected (e.0 i) (e.1 i)
IsGraphAnswer-same G (Disconnected x y) (Irregular x' y' u' v') h k = absurd (connected_everywhere G x y k.connected h)
IsGraphAnswer-same G (Irregular x y u v) (Array b c) h k = absurd (array_not_irregular G b c x y u v k h)
IsGraphAnswer-same G (Irregular x y u v) (Disconnected x' y') h k = absurd (connected_everywhere G x' y' h.connected k)
IsGraphAnswer-same G (Irregular x y u v) (Irregular x' y' u' v') h k =
    let e = first_same G (IsIrregular G) u v u' v' h.irregular k.irregular in
    let here : IsFirstPair G (AtOneDistance G u v) x' y' =
    subst (λ p. IsFirstPair G (AtOneDistance G u p) x' y') (sym e.1) (subst (λ p. IsFirstPair G (AtOneDistance G p v') x' y') (sym e.0) k.compared) in
    let f = first_same G (AtOneDistance G u v) x y x' y' h.compared here in λ i. Irregular (f.0 i) (f.1 i) (e.0 i) (e.1 i)
