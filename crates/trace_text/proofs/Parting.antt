-- What keys make of a partition.
use Rattle.std.proofs.Common.{◌≡◌, ◌==◌, ◌&&◌, ◌||◌, nat_lt, ℕ, ◌+◌, ◌-◌, ◌<◌, ◌≤◌, Bool, true, false, List, [], ◌∷◌, length, map, filter, count_by, ⊎_elim, refl, sym, ap, ◌∙◌, arith, if◌then◌else◌}
use Rattle.std.specs.List.{AllByRecursion, list_any}
use Rattle.std.proofs.lemmas.Bool.{cases_lt, cases_Bool, eq-eqb, eqb-true, and_from, and_parts, lt-ltb, ltb-true}
use Rattle.std.proofs.lemmas.List.Sums.{count_by-le-length}
use Rattle.pair_colours.specs.Colouring.{PairColouring, IsColour, Refines, colour_at}
use Rattle.pair_colours.specs.Naming.{walk, first_met, rank_of}
use Rattle.pair_colours.proofs.ListLemmas.{Each-map, Each-weaker, list_any-map, list_any-filter, Each-passed}
use Rattle.pair_colours.proofs.Names.{InSquare, Each-walk, Each-first_met, met_all, list_any-walk}
use Rattle.pair_colours.proofs.Exists.{colour_at-by_pairs, IsColouring-by_pairs}
use Rattle.trace_text.specs.Partition.{IsPartition}
use Rattle.trace_text.specs.Split.{has_smaller_key, later_keys, parted_by}
use Rattle.pair_colours.proofs.Below.{bounded, below, below_all, below_next, below-lt, met_once, counted_from_any, holds_where_counted, number_with_below}
use Rattle.trace_text.proofs.Partitions.{UsesBelow, rank_from_used, IsPartition-from_used}

-- some element that passes has what all have
pub any_holds : {X : Type 0} (q : X → Bool) (P : X → Type 0) (ks : List X) → AllByRecursion P ks → list_any q ks ≡ true → (y : X) × P y × (q y ≡ true)
any_holds q P [] a h = cc
any_holds q P (k ∷ ks) a h =
    let again = any_holds q P ks a.1 in
    ⊎_elim
    (λ e. (k, a.0, e))
    (λ e. again (sym (ap (λ b. b || list_any q ks) e) ∙ h))
    (cases_Bool (q k))

-- the keys found on the pairs that pass a test
module _ (P : PairColouring) (key : ℕ → ℕ → ℕ) (test : ℕ × ℕ → Bool) where
  abbrev pub keys_where : List ℕ
  keys_where = first_met (map (λ p. key p.0 p.1) (filter test (walk P.size)))

  -- a pair that passes has the key
  pub record HasKey (t : ℕ) : Type 0 where
    pub x : ℕ
    pub y : ℕ
    pub row : x < P.size
    pub column : y < P.size
    pub passes : test (x, y) ≡ true
    pub is : key x y ≡ t

  pub key_counts : (x y : ℕ) → x < P.size → y < P.size → test (x, y) ≡ true → 0 < count_by (λ t. key x y == t) keys_where
  key_counts x y hx hy e =
      let t : ℕ = key x y in
      counted_from_any keys_where t
      (met_all (map (λ p. key p.0 p.1) (filter test (walk P.size))) t
      (list_any-map (λ o. t == o) (λ p. key p.0 p.1) (filter test (walk P.size))
      ∙ list_any-filter (λ p. t == key p.0 p.1) test (walk P.size)
      ∙ list_any-walk (λ p. test p && (t == key p.0 p.1)) P.size x y hx hy (and_from _ _ e (eq-eqb t t refl))))

  pub key_found : (t : ℕ) → 0 < count_by (λ o. t == o) keys_where → HasKey t
  key_found t h =
      holds_where_counted HasKey keys_where t
      (Each-first_met HasKey (map (λ p. key p.0 p.1) (filter test (walk P.size)))
      (Each-map HasKey (λ p. key p.0 p.1) (filter test (walk P.size))
      (Each-weaker (λ p. InSquare P.size p × (test p ≡ true)) (λ p. HasKey (key p.0 p.1))
      (λ p l. record { x = p.0; y = p.1; row = l.0.0; column = l.0.1; passes = l.1; is = refl })
      (filter test (walk P.size))
      (Each-passed (InSquare P.size) test (walk P.size) (Each-walk P.size)))))
      h

  once : (t : ℕ) → count_by (λ o. t == o) keys_where ≤ 1
  once t = met_once (map (λ p. key p.0 p.1) (filter test (walk P.size))) t

  pub place_below_keys : (x y : ℕ) → x < P.size → y < P.size → test (x, y) ≡ true → below keys_where (key x y) < length keys_where
  place_below_keys x y hx hy e =
      omega (arith, key_counts x y hx hy e, below_next keys_where (key x y), count_by-le-length (λ o. nat_lt o (key x y + 1)) keys_where)

  pub key_of_place : (m : ℕ) → m < length keys_where → (t : ℕ) × HasKey t × (below keys_where t ≡ m)
  key_of_place m l =
      let b = bounded keys_where in
      let r = number_with_below keys_where b.0 m once (omega (arith, l, below_all keys_where b.0 b.1)) in
      (r.0, key_found r.0 r.1, r.2)

  pub place-same : (x y u v : ℕ) → x < P.size → y < P.size → u < P.size → v < P.size → test (x, y) ≡ true → test (u, v) ≡ true
      → below keys_where (key x y) ≡ below keys_where (key u v) → key x y ≡ key u v
  place-same x y u v hx hy hu hv e f s = ⊎_elim
      (λ l. absurd (omega (arith, below-lt keys_where (key x y) (key u v) (key_counts x y hx hy e) l, s)))
      (λ l. ⊎_elim
      (λ m. absurd (omega (arith, below-lt keys_where (key u v) (key x y) (key_counts u v hu hv f) m, s)))
      (λ m. omega (arith, l, m))
      (cases_lt (key u v) (key x y)))
      (cases_lt (key x y) (key u v))

module _ (P : PairColouring) (key : ℕ → ℕ → ℕ) where
  -- the pairs that get another number
  abbrev pub moves : ℕ × ℕ → Bool
  moves p = has_smaller_key P key p.0 p.1

  -- a key that is not the least in its class is in no other class
  pub record IsApart : Type 0 where
    pub one : (x y u v : ℕ) → x < P.size → y < P.size → u < P.size → v < P.size
        → has_smaller_key P key x y ≡ true → key x y ≡ key u v → colour_at P x y ≡ colour_at P u v

  pub smaller_moves : (x y u v : ℕ) → x < P.size → y < P.size → u < P.size → v < P.size
      → colour_at P x y ≡ colour_at P u v → key x y < key u v → has_smaller_key P key u v ≡ true
  smaller_moves x y u v hx hy hu hv e l =
      list_any-walk (λ p. (colour_at P p.0 p.1 == colour_at P u v) && nat_lt (key p.0 p.1) (key u v)) P.size x y hx hy (and_from _ _ (eq-eqb _ _ e) (lt-ltb _ _ l))

  -- and a key that is not the least is not 0
  pub smaller_found : (x y : ℕ) → has_smaller_key P key x y ≡ true → 0 < key x y
  smaller_found x y e =
      let s = any_holds (λ p. (colour_at P p.0 p.1 == colour_at P x y) && nat_lt (key p.0 p.1) (key x y)) (InSquare P.size) (walk P.size) (Each-walk P.size) e in
      let q = s.0 in
      let less = ltb-true _ _ (and_parts (colour_at P q.0 q.1 == colour_at P x y) (nat_lt (key q.0 q.1) (key x y)) s.2).1 in
      omega (arith, less)

  -- two keys in one class: one of them moves
  pub two_keys : (x y u v : ℕ) → x < P.size → y < P.size → u < P.size → v < P.size
      → colour_at P x y ≡ colour_at P u v → (key x y ≡ key u v → ⊥) → 1 ≤ length (later_keys P key)
  two_keys x y u v hx hy hu hv e ne = ⊎_elim
      (λ l. omega (arith, place_below_keys P key moves u v hu hv (smaller_moves x y u v hx hy hu hv e l)))
      (λ l. omega (arith, place_below_keys P key moves x y hx hy (smaller_moves u v x y hu hv hx hy (sym e) (omega (arith, l, ne)))))
      (cases_lt (key x y) (key u v))

  pub parted_moved : (x y : ℕ) → x < P.size → y < P.size → has_smaller_key P key x y ≡ true → colour_at (parted_by P key) x y ≡ rank_of P + below (later_keys P key) (key x y)
  parted_moved x y hx hy e =
      colour_at-by_pairs P.size (λ u v. if has_smaller_key P key u v then rank_of P + below (later_keys P key) (key u v) else colour_at P u v) x y hx hy
      ∙ ap (λ b. if b then rank_of P + below (later_keys P key) (key x y) else colour_at P x y) e

  pub parted_kept : (x y : ℕ) → x < P.size → y < P.size → has_smaller_key P key x y ≡ false → colour_at (parted_by P key) x y ≡ colour_at P x y
  parted_kept x y hx hy e =
      colour_at-by_pairs P.size (λ u v. if has_smaller_key P key u v then rank_of P + below (later_keys P key) (key u v) else colour_at P u v) x y hx hy
      ∙ ap (λ b. if b then rank_of P + below (later_keys P key) (key x y) else colour_at P x y) e

  -- pairs of one class and one key stay together
  pub parted_together : (x y u v : ℕ) → x < P.size → y < P.size → u < P.size → v < P.size
      → colour_at P x y ≡ colour_at P u v → key x y ≡ key u v → colour_at (parted_by P key) x y ≡ colour_at (parted_by P key) u v
  parted_together x y u v hx hy hu hv e f =
      let same : has_smaller_key P key x y ≡ has_smaller_key P key u v =
      λ i. list_any (λ p. (colour_at P p.0 p.1 == e i) && nat_lt (key p.0 p.1) (f i)) (walk P.size) in
      ⊎_elim
      (λ t. parted_moved x y hx hy t ∙ ap (λ z. rank_of P + below (later_keys P key) z) f ∙ sym (parted_moved u v hu hv (sym same ∙ t)))
      (λ t. parted_kept x y hx hy t ∙ e ∙ sym (parted_kept u v hu hv (sym same ∙ t)))
      (cases_Bool (has_smaller_key P key x y))

  -- and no others
  pub parted_apart : IsPartition P → IsApart → (x y u v : ℕ) → x < P.size → y < P.size → u < P.size → v < P.size
      → colour_at (parted_by P key) x y ≡ colour_at (parted_by P key) u v → (colour_at P x y ≡ colour_at P u v) × (key x y ≡ key u v)
  parted_apart h a x y u v hx hy hu hv e = ⊎_elim
      (λ s. ⊎_elim
      (λ t.
      let b : rank_of P + below (later_keys P key) (key x y) ≡ rank_of P + below (later_keys P key) (key u v) = sym (parted_moved x y hx hy s) ∙ e ∙ parted_moved u v hu hv t in
      let k = place-same P key moves x y u v hx hy hu hv s t (omega (arith, b)) in
      (a.one x y u v hx hy hu hv s k, k))
      (λ t. absurd (omega (arith, sym (parted_moved x y hx hy s) ∙ e ∙ parted_kept u v hu hv t, h.below u v hu hv)))
      (cases_Bool (has_smaller_key P key u v)))
      (λ s. ⊎_elim
      (λ t. absurd (omega (arith, sym (parted_kept x y hx hy s) ∙ e ∙ parted_moved u v hu hv t, h.below x y hx hy)))
      (λ t. let c : colour_at P x y ≡ colour_at P u v = sym (parted_kept x y hx hy s) ∙ e ∙ parted_kept u v hu hv t in (c, least c s t))
      (cases_Bool (has_smaller_key P key u v)))
      (cases_Bool (has_smaller_key P key x y))
    where
      least : colour_at P x y ≡ colour_at P u v → has_smaller_key P key x y ≡ false → has_smaller_key P key u v ≡ false → key x y ≡ key u v
      least c s t = ⊎_elim
          (λ l. let z : true ≡ false = sym (smaller_moves x y u v hx hy hu hv c l) ∙ t in cc)
          (λ l. ⊎_elim
          (λ m. let z : true ≡ false = sym (smaller_moves u v x y hu hv hx hy (sym c) m) ∙ s in cc)
          (λ m. omega (arith, l, m))
          (cases_lt (key u v) (key x y)))
          (cases_lt (key x y) (key u v))

  -- the new numbers are those from the rank on
  pub UsesBelow-parted_by : IsPartition P → UsesBelow (parted_by P key) (rank_of P + length (later_keys P key))
  UsesBelow-parted_by h = record {
    below = λ x y hx hy. ⊎_elim
        (λ s. omega (arith, parted_moved x y hx hy s, place_below_keys P key moves x y hx hy s))
        (λ s. omega (arith, parted_kept x y hx hy s, h.below x y hx hy))
        (cases_Bool (has_smaller_key P key x y));
    used = λ j l. ⊎_elim (λ low. old j low) (λ high. new j high l) (cases_lt j (rank_of P));
  }
    where
      -- the least key of a class
      old : (j : ℕ) → j < rank_of P → IsColour (parted_by P key) j
      old j low =
          let u = h.used j low in
          let in_j : ℕ × ℕ → Bool = λ p. colour_at P p.0 p.1 == j in
          let some = place_below_keys P key in_j u.x u.y u.row u.column (eq-eqb _ _ u.is) in
          let t = key_of_place P key in_j 0 (omega (arith, some)) in
          let w = t.1 in
          let c : colour_at P w.x w.y ≡ j = eqb-true _ _ w.passes in
          let none : has_smaller_key P key w.x w.y ≡ true → ⊥ = λ e.
          let s = any_holds (λ p. (colour_at P p.0 p.1 == colour_at P w.x w.y) && nat_lt (key p.0 p.1) (key w.x w.y)) (InSquare P.size) (walk P.size) (Each-walk P.size) e in
          let q = s.0 in
          let both = and_parts (colour_at P q.0 q.1 == colour_at P w.x w.y) (nat_lt (key q.0 q.1) (key w.x w.y)) s.2 in
          let counts = key_counts P key in_j q.0 q.1 s.1.0 s.1.1 (eq-eqb _ _ (eqb-true _ _ both.0 ∙ c)) in
          let less = below-lt (keys_where P key in_j) (key q.0 q.1) (key w.x w.y) counts (ltb-true _ _ both.1) in
          omega (arith, less, ap (below (keys_where P key in_j)) w.is, t.2) in
          record {
            x = w.x;
            y = w.y;
            row = w.row;
            column = w.column;
            is = ⊎_elim (λ e. absurd (none e)) (λ e. parted_kept w.x w.y w.row w.column e ∙ c) (cases_Bool (has_smaller_key P key w.x w.y));
          }

      new : (j : ℕ) → rank_of P ≤ j → j < rank_of P + length (later_keys P key) → IsColour (parted_by P key) j
      new j high l =
          let t = key_of_place P key moves (j - rank_of P) (omega (arith, high, l)) in
          let w = t.1 in
          record {
            x = w.x;
            y = w.y;
            row = w.row;
            column = w.column;
            is = parted_moved w.x w.y w.row w.column w.passes ∙ omega (arith, ap (below (later_keys P key)) w.is, t.2, high);
          }

  pub rank_of-parted_by : IsPartition P → rank_of (parted_by P key) ≡ rank_of P + length (later_keys P key)
  rank_of-parted_by h = rank_from_used (parted_by P key) (rank_of P + length (later_keys P key)) (UsesBelow-parted_by h)

  pub IsPartition-parted_by : IsPartition P → IsPartition (parted_by P key)
  IsPartition-parted_by h =
      IsPartition-from_used (parted_by P key) (rank_of P + length (later_keys P key))
      (IsColouring-by_pairs P.size (λ u v. if has_smaller_key P key u v then rank_of P + below (later_keys P key) (key u v) else colour_at P u v) h.colouring.has_points)
      (UsesBelow-parted_by h)

  pub parted_by-refines : IsPartition P → IsApart → Refines (parted_by P key) P
  parted_by-refines h a = record { sizes = refl; classes = λ x y u v hx hy hu hv e. (parted_apart h a x y u v hx hy hu hv e).0 }
