-- The search level by level finds the distances.
use Rattle.std.proofs.Common.{◌≡◌, ◌==◌, ℕ, zero, suc, ◌+◌, ◌<◌, ◌≤◌, cond, List, length, get_or, set, sym, ap, ◌∙◌, subst, arith, ⊎_elim, ◌⊎◌}
use Rattle.std.proofs.Common.{replicate, get_or-set_same, get_or-set_other, length-set}
use Rattle.std.proofs.lemmas.Bool.{cases_lt, cases_eq}
use Rattle.std.proofs.lemmas.List.{length-replicate, get_or-replicate}
use Rattle.std.proofs.lemmas.List.Sums.{sum_by-set}
use Rattle.std.proofs.lemmas.List.Folds.{sum_by-replicate}
use Rattle.pair_colours.proofs.Counts.{unit_of}
use Rattle.pair_colours.specs.declared.coloured_pairs.TheConstants.{MOST_POINTS}
use Rattle.drg_arrays.specs.declared.levels.TheConstants.{UNREACHED}
use Rattle.drg_arrays.specs.Graph.{Graph, IsEdge}
use Rattle.drg_arrays.specs.Distance.{Walk}
use Rattle.drg_arrays.specs.Tables.{IsMarked, IsNextLevel, IsDistanceRow, unreached_count}
use Rattle.drg_arrays.proofs.Walks.{Walk-stays, Walk-none, Walk-more, last_step}

-- after so many levels: what is marked is the length of a walk from x, and no walk up to that level is shorter
pub record IsLevelled (G : Graph) (x : ℕ) (levels : List ℕ) (level : ℕ) : Type 0 where
  pub len : length levels ≡ G.size
  pub within : (y : ℕ) → y < G.size → (get_or levels y 0 ≡ UNREACHED → ⊥) → get_or levels y 0 ≤ level
  pub walk : (y : ℕ) → y < G.size → (get_or levels y 0 ≡ UNREACHED → ⊥) → Walk G x y (get_or levels y 0)
  pub least : (y k : ℕ) → y < G.size → k ≤ level → Walk G x y k → get_or levels y 0 ≤ k
  pub room : level + unreached_count levels < G.size

-- the search begins at x
pub IsLevelled-start : (G : Graph) (x : ℕ) → x < G.size → IsLevelled G x (set (replicate G.size UNREACHED) x 0) 0
IsLevelled-start G x hx = record {
  len = length-set (replicate G.size UNREACHED) x 0 ∙ length-replicate G.size UNREACHED;
  within = λ y hy r. ⊎_elim (λ (e : y ≡ x). omega (arith, here y e)) (λ (ne : y ≡ x → ⊥). absurd (r (other y hy ne))) (cases_eq y x);
  walk = λ y hy r. ⊎_elim (λ (e : y ≡ x). subst (Walk G x y) (sym (here y e)) (subst (λ z. Walk G x z 0) (sym e) (Walk-stays G x hx)))
      (λ (ne : y ≡ x → ⊥). absurd (r (other y hy ne))) (cases_eq y x);
  least = λ y k hy l walk. omega (arith, here y (sym (Walk-none G x y (subst (Walk G x y) (omega (arith, l)) walk))));
  room =
      let s = sum_by-set (λ n. cond (n == UNREACHED) 1 0) (replicate G.size UNREACHED) x 0 0 (omega (arith, hx, length-replicate G.size UNREACHED)) in
      let all = sum_by-replicate (λ n. cond (n == UNREACHED) 1 0) G.size UNREACHED in
      let one = ap (λ n. unit_of (n == UNREACHED)) (get_or-replicate G.size x UNREACHED 0 hx) in
      omega (arith, s, all, one, hx);
}
  where
    here : (y : ℕ) → y ≡ x → get_or (set (replicate G.size UNREACHED) x 0) y 0 ≡ 0
    here y e = ap (λ i. get_or (set (replicate G.size UNREACHED) x 0) i 0) e ∙ get_or-set_same (replicate G.size UNREACHED) x 0 0 (omega (arith, hx, length-replicate G.size UNREACHED))

    other : (y : ℕ) → y < G.size → (y ≡ x → ⊥) → get_or (set (replicate G.size UNREACHED) x 0) y 0 ≡ UNREACHED
    other y hy ne = get_or-set_other (replicate G.size UNREACHED) x y 0 0 ne ∙ get_or-replicate G.size y UNREACHED 0 hy

unreached? : (n : ℕ) → (n ≡ UNREACHED) ⊎ (n ≡ UNREACHED → ⊥)
unreached? n = cases_eq n UNREACHED

-- a point next to a point of the last level has a level after the next one
reach : (G : Graph) (x : ℕ) (old new : List ℕ) (level : ℕ) → G.size ≤ MOST_POINTS → IsLevelled G x old level → IsNextLevel G old new level G.size
    → (w y : ℕ) → w < G.size → y < G.size → IsEdge G w y → (get_or old w 0 ≡ UNREACHED → ⊥) → get_or new y 0 ≡ UNREACHED → ⊥
reach G x old new level small h n w y hw hy e reached none =
    ⊎_elim before at (cases_lt (get_or old w 0) level)
  where
    old_none : get_or old y 0 ≡ UNREACHED
    old_none = ⊎_elim (λ (u : get_or old y 0 ≡ UNREACHED). u) (λ (u : get_or old y 0 ≡ UNREACHED → ⊥). sym (n.kept y hy u) ∙ none) (unreached? (get_or old y 0))

    before : get_or old w 0 < level → ⊥
    before l =
        let f = h.least y (get_or old w 0 + 1) hy (omega (arith, l)) (Walk-more G x w y (get_or old w 0) (h.walk w hw reached) hy e) in
        omega (arith, f, old_none, h.room, small, l)

    at : level ≤ get_or old w 0 → ⊥
    at l = n.marked w y hw hw hy (omega (arith, l, h.within w hw reached)) e none

pub IsLevelled-next : (G : Graph) (x : ℕ) (old new : List ℕ) (level : ℕ) → G.size ≤ MOST_POINTS → IsLevelled G x old level → IsNextLevel G old new level G.size
    → length new ≡ length old → unreached_count new + 1 ≤ unreached_count old → IsLevelled G x new (level + 1)
IsLevelled-next G x old new level small h n len fewer = record {
  len = len ∙ h.len;
  within = λ y hy r. ⊎_elim
      (λ (u : get_or old y 0 ≡ UNREACHED). ⊎_elim (λ (v : get_or new y 0 ≡ UNREACHED). absurd (r v)) (λ (m : IsMarked G old new level y). omega (arith, m.is)) (n.left y hy u))
      (λ (u : get_or old y 0 ≡ UNREACHED → ⊥). omega (arith, n.kept y hy u, h.within y hy u)) (unreached? (get_or old y 0));
  walk = λ y hy r. ⊎_elim
      (λ (u : get_or old y 0 ≡ UNREACHED). ⊎_elim (λ (v : get_or new y 0 ≡ UNREACHED). absurd (r v)) (marked_walk y hy) (n.left y hy u))
      (λ (u : get_or old y 0 ≡ UNREACHED → ⊥). subst (Walk G x y) (sym (n.kept y hy u)) (h.walk y hy u)) (unreached? (get_or old y 0));
  least = λ y k hy l walk. ⊎_elim (λ (b : k < level + 1). shorter y k hy (omega (arith, b)) walk)
      (λ (b : level + 1 ≤ k). at_next y k hy (omega (arith, l, b)) walk) (cases_lt k (level + 1));
  room = omega (arith, h.room, fewer);
}
  where
    marked_walk : (y : ℕ) → y < G.size → IsMarked G old new level y → Walk G x y (get_or new y 0)
    marked_walk y hy m =
        let w : Walk G x m.w level = subst (Walk G x m.w) m.from_level (h.walk m.w m.row (λ e. omega (arith, e, m.from_level, h.room, small))) in
        subst (Walk G x y) (sym m.is) (Walk-more G x m.w y level w hy m.joined)

    shorter : (y k : ℕ) → y < G.size → k ≤ level → Walk G x y k → get_or new y 0 ≤ k
    shorter y k hy l walk =
        let f = h.least y k hy l walk in
        let e = n.kept y hy (λ u. omega (arith, f, u, l, h.room, small)) in
        omega (arith, e, f)

    at_next : (y k : ℕ) → y < G.size → k ≡ level + 1 → Walk G x y k → get_or new y 0 ≤ k
    at_next y k hy e walk =
        let s = last_step G x y level (subst (Walk G x y) e walk) in
        let f = h.least s.w level s.row (omega arith) s.walk in
        let r = reach G x old new level small h n s.w y s.row hy s.joined (λ u. omega (arith, f, u, h.room, small)) in
        ⊎_elim
        (λ (u : get_or old y 0 ≡ UNREACHED). ⊎_elim (λ (v : get_or new y 0 ≡ UNREACHED). absurd (r v)) (λ (m : IsMarked G old new level y). omega (arith, m.is, e)) (n.left y hy u))
        (λ (u : get_or old y 0 ≡ UNREACHED → ⊥). omega (arith, n.kept y hy u, h.within y hy u, e)) (unreached? (get_or old y 0))

-- where a level adds nothing, each point that a walk reaches has its level
reached_all : (G : Graph) (x : ℕ) (levels : List ℕ) (level : ℕ) → G.size ≤ MOST_POINTS → IsLevelled G x levels level → IsNextLevel G levels levels level G.size
    → (k y : ℕ) → y < G.size → Walk G x y k → get_or levels y 0 ≡ UNREACHED → ⊥
reached_all G x levels level small h n zero y hy walk none = omega (arith, h.least y 0 hy (omega arith) walk, none)
reached_all G x levels level small h n (suc k) y hy walk none =
    let s = last_step G x y k (subst (Walk G x y) (omega arith) walk) in
    reach G x levels levels level small h n s.w y s.row hy s.joined (reached_all G x levels level small h n k s.w s.row s.walk) none

pub IsDistanceRow-from_levels : (G : Graph) (x : ℕ) (levels : List ℕ) (level : ℕ) → G.size ≤ MOST_POINTS → IsLevelled G x levels level
    → IsNextLevel G levels levels level G.size → IsDistanceRow G x levels
IsDistanceRow-from_levels G x levels level small h n = record {
  len = h.len;
  entries = λ y hy. record {
    reached = λ r. record { walk = h.walk y hy r; least = least y hy r };
    small = λ r. omega (arith, h.within y hy r, h.room);
    unreached = λ none has. reached_all G x levels level small h n has.length y hy has.walk none;
  };
}
  where
    least : (y : ℕ) → y < G.size → (get_or levels y 0 ≡ UNREACHED → ⊥) → (k : ℕ) → Walk G x y k → get_or levels y 0 ≤ k
    least y hy r k walk = ⊎_elim (λ (b : k < get_or levels y 0). h.least y k hy (omega (arith, b, h.within y hy r)) walk)
        (λ (b : get_or levels y 0 ≤ k). b) (cases_lt k (get_or levels y 0))
