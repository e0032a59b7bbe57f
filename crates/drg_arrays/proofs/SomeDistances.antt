-- Each graph has its table of distances.
use Rattle.std.proofs.Common.{◌≡◌, ℕ, zero, suc, ◌+◌, ◌*◌, ◌/◌, ◌%◌, ◌<◌, ◌≤◌, List, [], ◌∷◌, ◌++◌, length, get_or, refl, sym, subst, arith, ⊎_elim}
use Rattle.std.proofs.lemmas.Bool.{cases_lt}
use Rattle.std.proofs.lemmas.Nat.{div-mul-add, mod-mul-add}
use Rattle.std.proofs.lemmas.List.{length_push, get_or_append_left, get_or_push}
use Rattle.pair_colours.proofs.Places.{place_below, row_below, column_below}
use Rattle.pair_colours.proofs.Reaching.{PathOf, IsLeastPath, least_path}
use Rattle.drg_arrays.specs.declared.levels.TheConstants.{UNREACHED}
use Rattle.drg_arrays.specs.Graph.{Graph, is_edge}
use Rattle.drg_arrays.specs.Distance.{Walk}
use Rattle.drg_arrays.specs.Tables.{FitsGraph, IsDistanceEntry, IsDistanceTable}
use Rattle.drg_arrays.proofs.Walks.{Walk-stays, Walk-none, Walk-more, LastStep, last_step}

-- one choice for each number below n, in a list
pub listed : (P : ℕ → ℕ → Type 0) (n : ℕ) → ((k : ℕ) → k < n → (v : ℕ) × P k v) → (xs : List ℕ) × (length xs ≡ n) × ((k : ℕ) → k < n → P k (get_or xs k 0))
listed P zero h = ([], refl, λ k l. absurd (omega (arith, l)))
listed P (suc n) h =
    let r = listed P n (λ k l. h k (omega (arith, l))) in
    let v = h n (omega arith) in (
      r.0 ++ v.0 ∷ [],
      omega (arith, r.1, length_push r.0 v.0),
      λ k l. ⊎_elim
          (λ (b : k < n). subst (P k) (sym (get_or_append_left r.0 (v.0 ∷ []) 0 k (omega (arith, b, r.1)))) (r.2 k b))
          (λ (b : n ≤ k).
          let e : n ≡ k = omega (arith, l, b) in
          subst (λ j. P j (get_or (r.0 ++ v.0 ∷ []) j 0)) e (subst (P n) (sym (get_or_push r.0 v.0 0 n r.1)) v.1))
          (cases_lt k n),
    )

-- a walk is a path along the edges
path_of_walk : (G : Graph) (x k y : ℕ) → Walk G x y k → PathOf (is_edge G) G.size x k y
path_of_walk G x zero y w = Walk-none G x y w
path_of_walk G x (suc k) y w =
    let e : suc k ≡ k + 1 = omega arith in
    let s : LastStep G x y k = last_step G x y k (subst (Walk G x y) e w) in
    (s.w, s.row, path_of_walk G x k s.w s.walk, s.joined)

walk_of_path : (G : Graph) (x k y : ℕ) → x < G.size → y < G.size → PathOf (is_edge G) G.size x k y → Walk G x y k
walk_of_path G x zero y hx hy p = subst (λ z. Walk G x z 0) p (Walk-stays G x hx)
walk_of_path G x (suc k) y hx hy p =
    let e : k + 1 ≡ suc k = omega arith in
    subst (Walk G x y) e (Walk-more G x p.0 y k (walk_of_path G x k p.0 hx p.1 p.2) hy p.3)

-- the distance from x to y, or the mark of a point that no walk reaches
pub some_entry : (G : Graph) → FitsGraph G → (x y : ℕ) → x < G.size → y < G.size → (d : ℕ) × IsDistanceEntry G x y d
some_entry G f x y hx hy = ⊎_elim
    (λ s. (s.0, reached s.0 s.1))
    (λ none. (
      UNREACHED,
      record {
        reached = λ r. absurd (r refl);
        small = λ r. absurd (r refl);
        unreached = λ _ w. none w.length (path_of_walk G x w.length y w.walk);
      },
    ))
    (least_path (is_edge G) G.size x hx y hy)
  where
    reached : (d : ℕ) → IsLeastPath (is_edge G) G.size x y d → IsDistanceEntry G x y d
    reached d s = record {
      reached = λ _. record { walk = walk_of_path G x d y hx hy s.path; least = λ k w. s.least k (path_of_walk G x k y w) };
      small = λ _. s.small;
      unreached = λ e. absurd (omega (arith, e, s.small, f.limit));
    }

pub some_table : (G : Graph) → FitsGraph G → (table : List ℕ) × IsDistanceTable G table G.size
some_table G f =
    let t = listed (λ p d. IsDistanceEntry G (p / G.size) (p % G.size) d) (G.size * G.size)
    (λ p l. some_entry G f (p / G.size) (p % G.size) (row_below G.size p f.has_points l) (column_below G.size p f.has_points)) in (
      t.0,
      record {
        len = t.1;
        entries = λ x y hx hy.
            let p = x * G.size + y in
            subst (λ u. IsDistanceEntry G u y (get_or t.0 p 0)) (div-mul-add x G.size y hy)
            (subst (λ v. IsDistanceEntry G (p / G.size) v (get_or t.0 p 0)) (mod-mul-add x G.size y hy) (t.2 p (place_below G.size x y hx hy)));
      },
    )
