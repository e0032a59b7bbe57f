-- Lists delivered branch by branch.
use Rattle.std.proofs.Common.{◌≡◌, ◌⊎◌, ℕ, zero, suc, ◌+◌, ◌-◌, ◌<◌, ◌≤◌, List, [], ◌∷◌, ◌++◌, length, take, flat_map, append-nil, append_assoc, inl, inr, refl, sym, ap, subst, ◌∙◌, arith}
use Rattle.std.specs.List.{range_with_len}
use Rattle.std.proofs.lemmas.List.{length_push, take_all, take_at}
use Rattle.std.proofs.lemmas.List.Concat.{flat_map-append}
use Rattle.pair_colours.specs.Colouring.{PairColouring, points}
use Rattle.pair_colours.proofs.Counts.{points_more}
use Rattle.struct_consts.specs.ClassData.{IsConfiguration}
use Rattle.pair_colours.specs.Those.{AreThose}
use Rattle.colour_wl.specs.GrowthStrings.{next_number, IsGrowth, growth_from}
use Rattle.colour_wl.specs.Fusions.{merge, Fuses}
use Rattle.visitors.specs.declared.visitor.Next.{Next}
use Rattle.visitors.specs.declared.visitor.Next.TheVariants.{More, Stop}
use Rattle.mergings.specs.Cuts.{IsDelivered, IsDeliveredWhole, IsListCut}
use Rattle.pair_colours.proofs.ThoseLemmas.{those_append, those_exist}
use Rattle.colour_wl.proofs.ColourRounds.{next_low}
use Rattle.colour_wl.proofs.Existing.{coherent_or_not}

-- ranges in parts
pub range_split : (s m k : ℕ) → range_with_len s (m + k) ≡ range_with_len s m ++ range_with_len (s + m) k
range_split s zero k = (λ i. range_with_len (to s i) (from k i))
  where
    from : (n : ℕ) → 0 + n ≡ n
    from n = omega arith

    to : (n : ℕ) → n ≡ n + 0
    to n = omega arith
range_split s (suc m) k =
    let e : suc m + k ≡ suc (m + k) = omega arith in
    let f : s + 1 + m ≡ s + suc m = omega arith in
    ap (range_with_len s) e ∙ ap (λ l. s ∷ l) (range_split (s + 1) m k) ∙ ap (λ n. s ∷ (range_with_len (s + 1) m ++ range_with_len n k)) f

pub fuses_or_not : (K : PairColouring) → IsConfiguration K → (a : List ℕ) → Fuses K a ⊎ (Fuses K a → ⊥)
fuses_or_not K h a = coherent_or_not (merge K a)

-- the strings of length r that go on from u with a number below v
abbrev pub branch : ℕ → List ℕ → ℕ → List (List ℕ)
branch r u w = growth_from (u ++ w ∷ []) (r - length (u ++ w ∷ []))

abbrev pub branches : ℕ → List ℕ → ℕ → List (List ℕ)
branches r u v = flat_map (branch r u) (points v)

pub all_branches : (r : ℕ) (u : List ℕ) → length u < r → growth_from u (r - length u) ≡ branches r u (next_number u + 1)
all_branches r u l =
    let n : ℕ = r - suc (length u) in
    let e : r - length u ≡ suc n = omega (arith, l) in
    let s : (w : ℕ) → n ≡ r - length (u ++ w ∷ []) = λ w. omega (arith, length_push u w) in
    ap (growth_from u) e ∙ (λ i. flat_map (λ w. growth_from (u ++ w ∷ []) (s w i)) (points (next_number u + 1)))

pub no_branches : (r : ℕ) (u : List ℕ) → length u ≡ r → growth_from u (r - length u) ≡ u ∷ []
no_branches r u e = let z : r - length u ≡ 0 = omega (arith, e) in ap (growth_from u) z

branches_more : (r : ℕ) (u : List ℕ) (v : ℕ) → branches r u (v + 1) ≡ branches r u v ++ branch r u v
branches_more r u v = ap (flat_map (branch r u)) (points_more v) ∙ flat_map-append (branch r u) (points v) (v ∷ []) ∙ ap (λ l. branches r u v ++ l) (append-nil (branch r u v))

branches_rest : (r : ℕ) (u : List ℕ) (v n : ℕ) → v ≤ n → branches r u n ≡ branches r u v ++ flat_map (branch r u) (range_with_len (0 + v) (n - v))
branches_rest r u v n l =
    let e : n ≡ v + (n - v) = omega (arith, l) in
    ap (λ m. flat_map (branch r u) (points m)) e ∙ ap (flat_map (branch r u)) (range_split 0 v (n - v)) ∙ flat_map-append (branch r u) (points v) (range_with_len (0 + v) (n - v))

module _ (P : List ℕ → Type 0) where
  pub whole_none : (r : ℕ) (u : List ℕ) (met : List (List ℕ)) → IsDeliveredWhole P (branches r u 0) met met
  whole_none r u met = record { those = []; are = refl; whole = sym (append-nil met) }

  pub whole_more : (r : ℕ) (u : List ℕ) (v : ℕ) (old mid new : List (List ℕ)) → IsDeliveredWhole P (branches r u v) old mid → IsDeliveredWhole P (branch r u v) mid new → IsDeliveredWhole P (branches r u (v + 1)) old new
  whole_more r u v old mid new a b = record {
    those = a.those ++ b.those;
    are = subst (λ l. AreThose P l (a.those ++ b.those)) (sym (branches_more r u v)) (those_append P (branches r u v) (branch r u v) a.those b.those a.are b.are);
    whole = b.whole ∙ ap (λ l. l ++ b.those) a.whole ∙ append_assoc old a.those b.those;
  }

  pub front_from_whole : (all old new : List (List ℕ)) → IsDeliveredWhole P all old new → IsDelivered P all old new
  front_from_whole all old new a = record { those = a.those; are = a.are; missing = []; front = append-nil new ∙ a.whole }

  pub leaf_yes : (u : List ℕ) (old new : List (List ℕ)) → P u → new ≡ old ++ u ∷ [] → IsDeliveredWhole P (u ∷ []) old new
  leaf_yes u old new p e = record { those = u ∷ []; are = inl ([], p, refl, refl); whole = e }

  pub leaf_no : (u : List ℕ) (old : List (List ℕ)) → (P u → ⊥) → IsDeliveredWhole P (u ∷ []) old old
  leaf_no u old np = record { those = []; are = inr (np, refl); whole = sym (append-nil old) }

  module _ (dec : (a : List ℕ) → P a ⊎ (P a → ⊥)) where
    pub front_none : (all old : List (List ℕ)) → IsDelivered P all old old
    front_none all old = let t = those_exist P all (λ a _. dec a) in record { those = t.0; are = t.1; missing = t.0; front = refl }

    pub front_stop : (r : ℕ) (u : List ℕ) (v n : ℕ) (old mid : List (List ℕ)) → v ≤ n → IsDeliveredWhole P (branches r u v) old mid → IsDelivered P (branches r u n) old mid
    front_stop r u v n old mid l a =
        let rest : List (List ℕ) = flat_map (branch r u) (range_with_len (0 + v) (n - v)) in
        let t = those_exist P rest (λ a _. dec a) in
        record {
          those = a.those ++ t.0;
          are = subst (λ l. AreThose P l (a.those ++ t.0)) (sym (branches_rest r u v n l)) (those_append P (branches r u v) rest a.those t.0 a.are t.1);
          missing = t.0;
          front = ap (λ l. l ++ t.0) a.whole ∙ append_assoc old a.those t.0;
        }

    pub front_more : (r : ℕ) (u : List ℕ) (v n : ℕ) (old mid new : List (List ℕ)) → v < n → IsDeliveredWhole P (branches r u v) old mid → IsDelivered P (branch r u v) mid new → IsDelivered P (branches r u n) old new
    front_more r u v n old mid new l a b =
        let rest : List (List ℕ) = flat_map (branch r u) (range_with_len (0 + (v + 1)) (n - (v + 1))) in
        let t = those_exist P rest (λ a _. dec a) in
        let upto = those_append P (branches r u v) (branch r u v) a.those b.those a.are b.are in
        let so_far : AreThose P (branches r u (v + 1)) (a.those ++ b.those) = subst (λ l. AreThose P l (a.those ++ b.those)) (sym (branches_more r u v)) upto in
        record {
          those = (a.those ++ b.those) ++ t.0;
          are = subst (λ l. AreThose P l ((a.those ++ b.those) ++ t.0)) (sym (branches_rest r u (v + 1) n (omega (arith, l)))) (those_append P (branches r u (v + 1)) rest (a.those ++ b.those) t.0 so_far t.1);
          missing = b.missing ++ t.0;
          front =
              sym (append_assoc new b.missing t.0)
              ∙ ap (λ l. l ++ t.0) (b.front ∙ ap (λ l. l ++ b.those) a.whole ∙ append_assoc old a.those b.those)
              ∙ append_assoc old (a.those ++ b.those) t.0;
        }

-- the numbers of a growth string
pub next_small : (n : ℕ) (a : List ℕ) → IsGrowth n a → next_number a ≤ n
next_small n a g = subst (λ l. next_number l ≤ n) (take_all n a (omega (arith, g.len))) (next_low n a g n (omega arith))

-- what was delivered while there was room is the list, cut
pub cut_more : (P : List ℕ → Type 0) (all : List (List ℕ)) (room : ℕ) (new : List (List ℕ)) → IsDeliveredWhole P all [] new → length new < room → IsListCut (AreThose P all) room new
cut_more P all room new a l = record { those = a.those; are = a.are; cut = a.whole ∙ sym (take_all room a.those (omega (arith, l, ap length a.whole))) }

pub cut_stop : (P : List ℕ → Type 0) (all : List (List ℕ)) (room : ℕ) (new : List (List ℕ)) → IsDelivered P all [] new → length new ≡ room → IsListCut (AreThose P all) room new
cut_stop P all room new a l = record { those = a.those; are = a.are; cut = sym (take_at new a.missing room l) ∙ ap (take room) a.front }

pub cut_either : (P : List ℕ → Type 0) (all : List (List ℕ)) (room : ℕ) (new : List (List ℕ)) (next : Next) → IsDelivered P all [] new → (next ≡ More → IsDeliveredWhole P all [] new) → (next ≡ More → length new < room) → (next ≡ Stop → length new ≡ room) → IsListCut (AreThose P all) room new
cut_either P all room new More f w l s = cut_more P all room new (w refl) (l refl)
cut_either P all room new Stop f w l s = cut_stop P all room new f (s refl)
