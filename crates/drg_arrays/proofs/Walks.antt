-- Walks: longer by a step, shorter by one, and what that says of distances.
use Rattle.std.proofs.Common.{◌≡◌, ℕ, zero, suc, ◌+◌, ◌<◌, ◌≤◌, cond, ltb, refl, sym, ap, ◌∙◌, subst, arith, ⊎_elim}
use Rattle.std.proofs.lemmas.Bool.{lt-ltb, le-ltb, cases_lt}
use Rattle.drg_arrays.specs.Graph.{Graph, IsEdge}
use Rattle.drg_arrays.specs.Distance.{Walk, IsDistance}

-- the walk that stays where it is
pub Walk-stays : (G : Graph) (x : ℕ) → x < G.size → Walk G x x 0
Walk-stays G x h = record {
  point = λ _. x;
  starts = refl;
  ends = refl;
  within = λ i l. h;
  joined = λ i l. absurd (omega (arith, l));
}

-- a walk of no step stays
pub Walk-none : (G : Graph) (x y : ℕ) → Walk G x y 0 → x ≡ y
Walk-none G x y w = sym w.starts ∙ w.ends

-- the points of a walk, and then one more
then_point : (ℕ → ℕ) → ℕ → ℕ → ℕ → ℕ
then_point point k y i = cond (ltb k i) y (point i)

then_point-before : (point : ℕ → ℕ) (k y i : ℕ) → i ≤ k → then_point point k y i ≡ point i
unfolding then_point
then_point-before point k y i h = ap (λ b. cond b y (point i)) (le-ltb k i h)

then_point-after : (point : ℕ → ℕ) (k y i : ℕ) → k < i → then_point point k y i ≡ y
unfolding then_point
then_point-after point k y i h = ap (λ b. cond b y (point i)) (lt-ltb k i h)

-- a walk, and a step more
pub Walk-more : (G : Graph) (x w y k : ℕ) → Walk G x w k → y < G.size → IsEdge G w y → Walk G x y (k + 1)
Walk-more G x w y k walk hy e = record {
  point = then_point walk.point k y;
  starts = then_point-before walk.point k y 0 (omega arith) ∙ walk.starts;
  ends = then_point-after walk.point k y (k + 1) (omega arith);
  within = λ i l. ⊎_elim (λ (b : k < i). subst (λ p. p < G.size) (sym (then_point-after walk.point k y i b)) hy)
      (λ (b : i ≤ k). subst (λ p. p < G.size) (sym (then_point-before walk.point k y i b)) (walk.within i b)) (cases_lt k i);
  joined = λ i l. ⊎_elim (λ (b : i < k). inner i b) (λ (b : k ≤ i). last i (omega (arith, l, b))) (cases_lt i k);
}
  where
    inner : (i : ℕ) → i < k → IsEdge G (then_point walk.point k y i) (then_point walk.point k y (i + 1))
    inner i b =
        let p : then_point walk.point k y i ≡ walk.point i = then_point-before walk.point k y i (omega (arith, b)) in
        let q : then_point walk.point k y (i + 1) ≡ walk.point (i + 1) = then_point-before walk.point k y (i + 1) (omega (arith, b)) in
        subst (λ a. IsEdge G a (then_point walk.point k y (i + 1))) (sym p) (subst (λ a. IsEdge G (walk.point i) a) (sym q) (walk.joined i b))

    last : (i : ℕ) → i ≡ k → IsEdge G (then_point walk.point k y i) (then_point walk.point k y (i + 1))
    last i b =
        let p : then_point walk.point k y i ≡ w = then_point-before walk.point k y i (omega (arith, b)) ∙ ap walk.point b ∙ walk.ends in
        let q : then_point walk.point k y (i + 1) ≡ y = then_point-after walk.point k y (i + 1) (omega (arith, b)) in
        subst (λ a. IsEdge G a (then_point walk.point k y (i + 1))) (sym p) (subst (λ a. IsEdge G w a) (sym q) e)

-- the last step of a walk, and the walk up to it
pub record LastStep (G : Graph) (x y k : ℕ) : Type 0 where
  pub w : ℕ
  pub row : w < G.size
  pub walk : Walk G x w k
  pub joined : IsEdge G w y

pub last_step : (G : Graph) (x y k : ℕ) → Walk G x y (k + 1) → LastStep G x y k
last_step G x y k walk = record {
  w = walk.point k;
  row = walk.within k (omega arith);
  walk = record {
    point = walk.point;
    starts = walk.starts;
    ends = refl;
    within = λ i l. walk.within i (omega (arith, l));
    joined = λ i l. walk.joined i (omega (arith, l));
  };
  joined = subst (λ a. IsEdge G (walk.point k) a) walk.ends (walk.joined k (omega arith));
}

-- there is only one distance
pub IsDistance-same : (G : Graph) (x y d e : ℕ) → IsDistance G x y d → IsDistance G x y e → d ≡ e
IsDistance-same G x y d e h k = omega (arith, h.least e k.walk, k.least d h.walk)

-- where y is at distance k + 1, the point before it on a shortest walk is at distance k
pub nearer_point : (G : Graph) (x y k : ℕ) → y < G.size → IsDistance G x y (k + 1) → (w : ℕ) × (w < G.size) × IsDistance G x w k
nearer_point G x y k hy d =
    let s = last_step G x y k d.walk in (
      s.w,
      s.row,
      record { walk = s.walk; least = λ j walk. omega (arith, d.least (j + 1) (Walk-more G x s.w y j walk hy s.joined)) },
    )

-- so each smaller distance occurs too
pub each_distance : (G : Graph) (x y i m : ℕ) → y < G.size → IsDistance G x y (i + m) → (w : ℕ) × (w < G.size) × IsDistance G x w i
each_distance G x y i zero hy d = (y, hy, subst (IsDistance G x y) (omega arith) d)
each_distance G x y i (suc m) hy d =
    let s = nearer_point G x y (i + m) hy (subst (IsDistance G x y) (omega arith) d) in each_distance G x s.0 i m s.1 s.2
