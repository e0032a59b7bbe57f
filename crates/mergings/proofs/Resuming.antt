-- The strings after a string, level by level.
use Rattle.std.proofs.Common.{◌≡◌, ◌⊎◌, ℕ, zero, suc, ◌+◌, ◌-◌, ◌<◌, ◌≤◌, List, [], ◌∷◌, ◌++◌, length, take, flat_map, slice_index, append-nil, append_assoc, inr, ⊎_elim, refl, sym, ap, subst, ◌∙◌, arith}
use Rattle.std.specs.List.{range_with_len}
use Rattle.std.proofs.lemmas.Bool.{cases_lt, cases_eq}
use Rattle.std.proofs.lemmas.List.{length_push, take_all, take_more, length-take-le}
use Rattle.std.proofs.lemmas.List.Concat.{flat_map-append}
use Rattle.pair_colours.specs.Colouring.{PairColouring, points}
use Rattle.pair_colours.specs.Those.{AreThose}
use Rattle.colour_wl.specs.GrowthStrings.{next_number, IsGrowth, growth_from, growth_strings, IsBefore}
use Rattle.colour_wl.specs.Fusions.{Fuses, FusesAfter}
use Rattle.mergings.specs.Cuts.{IsDelivered, IsDeliveredWhole, later_strings}
use Rattle.pair_colours.proofs.ThoseLemmas.{those_append, those_same, those_none, those_exist}
use Rattle.pair_colours.proofs.SortedLists.{In, In-points_from}
use Rattle.colour_wl.proofs.Members.{In-flat_map_from}
use Rattle.colour_wl.proofs.Growth.{next_number-push, IsBefore-strict, IsBefore-trans, growth_begins, before_by_next}
use Rattle.mergings.proofs.Deliveries.{branch, branches, all_branches, range_split}

-- the members of a range
In-range_from : (a n k : ℕ) → In k (range_with_len a n) → (a ≤ k) × (k < a + n)
In-range_from a zero k h = absurd h
In-range_from a (suc n) k h = ⊎_elim
    (λ e. (omega (arith, e), omega (arith, e)))
    (λ i. let r = In-range_from (a + 1) n k i in (omega (arith, r.0), omega (arith, r.1)))
    h

-- branches of any list of numbers
abbrev pub over : ℕ → List ℕ → List ℕ → List (List ℕ)
over r u vs = flat_map (branch r u) vs

over-append : (r : ℕ) (u vs ws : List ℕ) → over r u (vs ++ ws) ≡ over r u vs ++ over r u ws
over-append r u vs ws = flat_map-append (branch r u) vs ws

module _ (P : List ℕ → Type 0) where
  pub over_none : (r : ℕ) (u : List ℕ) (met : List (List ℕ)) → IsDeliveredWhole P (over r u []) met met
  over_none r u met = record { those = []; are = refl; whole = sym (append-nil met) }

  pub over_more : (r : ℕ) (u vs : List ℕ) (v : ℕ) (old mid new : List (List ℕ)) → IsDeliveredWhole P (over r u vs) old mid → IsDeliveredWhole P (branch r u v) mid new → IsDeliveredWhole P (over r u (vs ++ v ∷ [])) old new
  over_more r u vs v old mid new a b = record {
    those = a.those ++ b.those;
    are = subst (λ l. AreThose P l (a.those ++ b.those)) (sym (over-append r u vs (v ∷ []) ∙ ap (λ l. over r u vs ++ l) (append-nil (branch r u v)))) (those_append P (over r u vs) (branch r u v) a.those b.those a.are b.are);
    whole = b.whole ∙ ap (λ l. l ++ b.those) a.whole ∙ append_assoc old a.those b.those;
  }

  module _ (dec : (a : List ℕ) → P a ⊎ (P a → ⊥)) where
    pub over_stop : (r : ℕ) (u vs ws : List ℕ) (old mid : List (List ℕ)) → IsDeliveredWhole P (over r u vs) old mid → IsDelivered P (over r u (vs ++ ws)) old mid
    over_stop r u vs ws old mid a =
        let t = those_exist P (over r u ws) (λ a _. dec a) in
        record {
          those = a.those ++ t.0;
          are = subst (λ l. AreThose P l (a.those ++ t.0)) (sym (over-append r u vs ws)) (those_append P (over r u vs) (over r u ws) a.those t.0 a.are t.1);
          missing = t.0;
          front = ap (λ l. l ++ t.0) a.whole ∙ append_assoc old a.those t.0;
        }

    pub over_front : (r : ℕ) (u vs : List ℕ) (v : ℕ) (ws : List ℕ) (old mid new : List (List ℕ)) → IsDeliveredWhole P (over r u vs) old mid → IsDelivered P (branch r u v) mid new → IsDelivered P (over r u (vs ++ v ∷ ws)) old new
    over_front r u vs v ws old mid new a b =
        let t = those_exist P (over r u ws) (λ a _. dec a) in
        record {
          those = a.those ++ (b.those ++ t.0);
          are = subst (λ l. AreThose P l (a.those ++ (b.those ++ t.0))) (sym (over-append r u vs (v ∷ ws)))
              (those_append P (over r u vs) (branch r u v ++ over r u ws) a.those (b.those ++ t.0) a.are (those_append P (branch r u v) (over r u ws) b.those t.0 b.are t.1));
          missing = b.missing ++ t.0;
          front =
              sym (append_assoc new b.missing t.0)
              ∙ ap (λ l. l ++ t.0) (b.front ∙ ap (λ l. l ++ b.those) a.whole)
              ∙ append_assoc (old ++ a.those) b.those t.0
              ∙ append_assoc old a.those (b.those ++ t.0);
        }

-- a level: the numbers up to that of `after`, itself, and the greater ones
level_split : (u : List ℕ) (v n : ℕ) → v ≤ n → points (n + 1) ≡ points v ++ v ∷ range_with_len (v + 1) (n - v)
level_split u v n l =
    let e : n + 1 ≡ v + suc (n - v) = omega (arith, l) in
    let z : 0 + v ≡ v = omega arith in
    ap points e ∙ range_split 0 v (suc (n - v)) ∙ ap (λ w. points v ++ range_with_len w (suc (n - v))) z

module _ (K : PairColouring) (after : List ℕ) (r : ℕ) (g : IsGrowth r after) where
  -- the first numbers of `after` and the next
  upto : (d : ℕ) → d < r → take (suc d) after ≡ take d after ++ slice_index after d ∷ []
  upto d l = let e : suc d ≡ d + 1 = omega arith in ap (λ k. take k after) e ∙ take_more after d 0 (omega (arith, l, g.len))

  own_begins : (d : ℕ) → d < r → take (length (take d after ++ slice_index after d ∷ [])) after ≡ take d after ++ slice_index after d ∷ []
  own_begins d l = let e : length (take d after ++ slice_index after d ∷ []) ≡ suc d = omega (arith, length_push (take d after) (slice_index after d), length-take-le d after (omega (arith, l, g.len))) in ap (λ k. take k after) e ∙ upto d l

  -- what has a lesser number is not after it, and what has a greater one is
  pub lesser : (d w : ℕ) → d < r → w < slice_index after d → AreThose (FusesAfter K after) (branch r (take d after) w) []
  lesser d w l m =
      let u : List ℕ = take d after in
      those_none (FusesAfter K after) (branch r u w)
      (λ a i h. IsBefore-strict a (IsBefore-trans a after a (before_by_next u a after w (slice_index after d) (growth_begins (r - length (u ++ w ∷ [])) (u ++ w ∷ []) a i) (own_begins d l) m) h.0))

  pub lesser_all : (d n : ℕ) → d < r → n ≤ slice_index after d → AreThose (FusesAfter K after) (branches r (take d after) n) []
  lesser_all d n l m =
      let u : List ℕ = take d after in
      those_none (FusesAfter K after) (branches r u n)
      (λ a i h.
      let b = In-flat_map_from (branch r u) (points n) a i in
      let w : ℕ = b.0 in
      let low : w < slice_index after d = omega (arith, m, In-points_from n w b.1) in
      IsBefore-strict a (IsBefore-trans a after a (before_by_next u a after w (slice_index after d) (growth_begins (r - length (u ++ w ∷ [])) (u ++ w ∷ []) a b.2) (own_begins d l) low) h.0))

  pub greater_all : (d n : ℕ) (xs : List (List ℕ)) → d < r → AreThose (Fuses K) (over r (take d after) (range_with_len (slice_index after d + 1) n)) xs
      → AreThose (FusesAfter K after) (over r (take d after) (range_with_len (slice_index after d + 1) n)) xs
  greater_all d n xs l t =
      let u : List ℕ = take d after in
      those_same (Fuses K) (FusesAfter K after) (over r u (range_with_len (slice_index after d + 1) n)) xs
      (λ a i.
      let b = In-flat_map_from (branch r u) (range_with_len (slice_index after d + 1) n) a i in
      let w : ℕ = b.0 in
      let high : slice_index after d < w = omega (arith, (In-range_from (slice_index after d + 1) n w b.1).0) in
      let later : IsBefore after a = before_by_next u after a (slice_index after d) w (own_begins d l) (growth_begins (r - length (u ++ w ∷ [])) (u ++ w ∷ []) a b.2) high in
      (λ p. (later, p), λ h. h.1))
      t

  -- a level from the one below it
  those_level : (d : ℕ) (xs ys : List (List ℕ)) → d < r → AreThose (FusesAfter K after) (growth_from (take (suc d) after) (r - length (take (suc d) after))) xs → AreThose (Fuses K) (later_strings r after d) ys
      → AreThose (FusesAfter K after) (growth_from (take d after) (r - length (take d after))) (xs ++ ys)
  those_level d xs ys l a b =
      let u : List ℕ = take d after in
      let v : ℕ = slice_index after d in
      let n : ℕ = next_number u in
      let small : v ≤ n = g.grows d l in
      let inside : length u < r = omega (arith, l, length-take-le d after (omega (arith, l, g.len))) in
      let own : AreThose (FusesAfter K after) (branch r u v) xs = subst (λ s. AreThose (FusesAfter K after) (growth_from s (r - length s)) xs) (upto d l) a in
      let high : AreThose (FusesAfter K after) (over r u (range_with_len (v + 1) (n - v))) ys = greater_all d (n - v) ys l b in
      let joined = those_append (FusesAfter K after) (branches r u v) (branch r u v ++ over r u (range_with_len (v + 1) (n - v))) [] (xs ++ ys) (lesser_all d v l (omega arith))
      (those_append (FusesAfter K after) (branch r u v) (over r u (range_with_len (v + 1) (n - v))) xs ys own high) in
      let whole : growth_from u (r - length u) ≡ branches r u v ++ (branch r u v ++ over r u (range_with_len (v + 1) (n - v))) =
      all_branches r u inside ∙ ap (flat_map (branch r u)) (level_split u v n small) ∙ over-append r u (points v) (v ∷ range_with_len (v + 1) (n - v)) in
      subst (λ all. AreThose (FusesAfter K after) all (xs ++ ys)) (sym whole) joined

  pub level_whole : (d : ℕ) (old mid new : List (List ℕ)) → d < r → IsDeliveredWhole (FusesAfter K after) (growth_from (take (suc d) after) (r - length (take (suc d) after))) old mid → IsDeliveredWhole (Fuses K) (later_strings r after d) mid new
      → IsDeliveredWhole (FusesAfter K after) (growth_from (take d after) (r - length (take d after))) old new
  level_whole d old mid new l a b = record {
    those = a.those ++ b.those;
    are = those_level d a.those b.those l a.are b.are;
    whole = b.whole ∙ ap (λ m. m ++ b.those) a.whole ∙ append_assoc old a.those b.those;
  }

  pub level_front : (d : ℕ) (old mid new : List (List ℕ)) → d < r → IsDeliveredWhole (FusesAfter K after) (growth_from (take (suc d) after) (r - length (take (suc d) after))) old mid → IsDelivered (Fuses K) (later_strings r after d) mid new
      → IsDelivered (FusesAfter K after) (growth_from (take d after) (r - length (take d after))) old new
  level_front d old mid new l a b = record {
    those = a.those ++ b.those;
    are = those_level d a.those b.those l a.are b.are;
    missing = b.missing;
    front = b.front ∙ ap (λ m. m ++ b.those) a.whole ∙ append_assoc old a.those b.those;
  }

  -- the string itself does not come after itself
  pub level_start : (met : List (List ℕ)) → IsDeliveredWhole (FusesAfter K after) (growth_from (take r after) (r - length (take r after))) met met
  level_start met =
      let all : take r after ≡ after = take_all r after (omega (arith, g.len)) in
      let z : r - length (take r after) ≡ 0 = omega (arith, length-take-le r after (omega (arith, g.len))) in
      let list : growth_from (take r after) (r - length (take r after)) ≡ after ∷ [] = (λ i. growth_from (all i) (z i)) in
      record {
        those = [];
        are = subst (λ l. AreThose (FusesAfter K after) l []) (sym list) (inr (λ h. IsBefore-strict after h.0, refl));
        whole = sym (append-nil met);
      }

  module _ (dec : (a : List ℕ) → Fuses K a ⊎ (Fuses K a → ⊥)) where
    some_later : (d : ℕ) (met : List (List ℕ)) → IsDelivered (Fuses K) (later_strings r after d) met met
    some_later d met = let t = those_exist (Fuses K) (later_strings r after d) (λ a _. dec a) in record { those = t.0; are = t.1; missing = t.0; front = refl }

    lift : (d : ℕ) (old new : List (List ℕ)) → d < r → IsDelivered (FusesAfter K after) (growth_from (take (suc d) after) (r - length (take (suc d) after))) old new
        → IsDelivered (FusesAfter K after) (growth_from (take d after) (r - length (take d after))) old new
    lift d old new l a =
        let t = those_exist (Fuses K) (later_strings r after d) (λ a _. dec a) in
        record {
          those = a.those ++ t.0;
          are = those_level d a.those t.0 l a.are t.1;
          missing = a.missing ++ t.0;
          front = sym (append_assoc new a.missing t.0) ∙ ap (λ m. m ++ t.0) a.front ∙ append_assoc old a.those t.0;
        }

    -- what was delivered up to a level is a front of the whole list
    pub front_of_all : (d : ℕ) (old new : List (List ℕ)) → d ≤ r → IsDelivered (FusesAfter K after) (growth_from (take d after) (r - length (take d after))) old new → IsDelivered (FusesAfter K after) (growth_strings r) old new
    front_of_all zero old new l a = let z : r - 0 ≡ r = omega arith in subst (λ n. IsDelivered (FusesAfter K after) (growth_from [] n) old new) z a
    front_of_all (suc d) old new l a = front_of_all d old new (omega (arith, l)) (lift d old new (omega (arith, l)) a)

-- the steps of the loop over the greater numbers of a level, from s on, up to n
module _ (P : List ℕ → Type 0) (r : ℕ) (u : List ℕ) (v n : ℕ) where
  range_more : (number : ℕ) → v + 1 ≤ number → range_with_len (v + 1) (number + 1 - (v + 1)) ≡ range_with_len (v + 1) (number - (v + 1)) ++ number ∷ []
  range_more number l =
      let m : ℕ = number - (v + 1) in
      let e : number + 1 - (v + 1) ≡ m + 1 = omega (arith, l) in
      let f : v + 1 + m ≡ number = omega (arith, l) in
      ap (range_with_len (v + 1)) e ∙ range_split (v + 1) m 1 ∙ ap (λ k. range_with_len (v + 1) m ++ k ∷ []) f

  range_rest : (number : ℕ) → v + 1 ≤ number → number < n + 1 → range_with_len (v + 1) (n - v) ≡ range_with_len (v + 1) (number - (v + 1)) ++ number ∷ range_with_len (number + 1) (n - number)
  range_rest number l h =
      let m : ℕ = number - (v + 1) in
      let e : n - v ≡ m + suc (n - number) = omega (arith, l, h) in
      let f : v + 1 + m ≡ number = omega (arith, l) in
      ap (range_with_len (v + 1)) e ∙ range_split (v + 1) m (suc (n - number)) ∙ ap (λ k. range_with_len (v + 1) m ++ range_with_len k (suc (n - number))) f

  pub later_init : (met : List (List ℕ)) → IsDeliveredWhole P (over r u (range_with_len (v + 1) (v + 1 - (v + 1)))) met met
  later_init met = let z : v + 1 - (v + 1) ≡ 0 = omega arith in subst (λ k. IsDeliveredWhole P (over r u (range_with_len (v + 1) k)) met met) (sym z) (over_none P r u met)

  pub later_more : (number : ℕ) (old mid new : List (List ℕ)) → v + 1 ≤ number → IsDeliveredWhole P (over r u (range_with_len (v + 1) (number - (v + 1)))) old mid → IsDeliveredWhole P (branch r u number) mid new
      → IsDeliveredWhole P (over r u (range_with_len (v + 1) (number + 1 - (v + 1)))) old new
  later_more number old mid new l a b = subst (λ vs. IsDeliveredWhole P (over r u vs) old new) (sym (range_more number l)) (over_more P r u (range_with_len (v + 1) (number - (v + 1))) number old mid new a b)

  module _ (dec : (a : List ℕ) → P a ⊎ (P a → ⊥)) where
    pub later_stop : (number : ℕ) (old mid : List (List ℕ)) → v + 1 ≤ number → number < n + 1 → IsDeliveredWhole P (over r u (range_with_len (v + 1) (number - (v + 1)))) old mid → IsDelivered P (over r u (range_with_len (v + 1) (n - v))) old mid
    later_stop number old mid l h a = subst (λ vs. IsDelivered P (over r u vs) old mid) (sym (range_rest number l h)) (over_stop P dec r u (range_with_len (v + 1) (number - (v + 1))) (number ∷ range_with_len (number + 1) (n - number)) old mid a)

    pub later_front : (number : ℕ) (old mid new : List (List ℕ)) → v + 1 ≤ number → number < n + 1 → IsDeliveredWhole P (over r u (range_with_len (v + 1) (number - (v + 1)))) old mid → IsDelivered P (branch r u number) mid new → IsDelivered P (over r u (range_with_len (v + 1) (n - v))) old new
    later_front number old mid new l h a b = subst (λ vs. IsDelivered P (over r u vs) old new) (sym (range_rest number l h)) (over_front P dec r u (range_with_len (v + 1) (number - (v + 1))) number (range_with_len (number + 1) (n - number)) old mid new a b)

-- the number above all of a string with one number more
pub above_more : (u : List ℕ) (next number above : ℕ) → next ≡ next_number u → number ≤ next → (number ≡ next → above ≡ next + 1) → ((number ≡ next → ⊥) → above ≡ next) → above ≡ next_number (u ++ number ∷ [])
above_more u next number above e l same other = ⊎_elim
    (λ q. omega (arith, same q, q, e, next_number-push u number))
    (λ q. omega (arith, other q, below q, e, next_number-push u number))
    (cases_eq number next)
  where
    below : (number ≡ next → ⊥) → number < next
    below q = ⊎_elim (λ m. m) (λ (m : next ≤ number). absurd (q (omega (arith, l, m)))) (cases_lt number next)
