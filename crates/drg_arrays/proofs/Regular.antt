-- From the tables of counts to the answer.
use Rattle.std.proofs.Common.{◌≡◌, ◌==◌, ◌↔◌, ℕ, ◌+◌, ◌*◌, ◌/◌, ◌%◌, ◌-◌, ◌<◌, ◌≤◌, List, length, get_or, map, take, drop, count_by, All, IsTrue, refl, sym, ap, ◌∙◌, subst, arith, ⊎_elim, length-take, length-drop}
use Rattle.std.proofs.lemmas.Bool.{cases_lt, eq-eqb, eqb-true, and_parts, and_from}
use Rattle.std.proofs.lemmas.Bool.Decides.{same_from_decides}
use Rattle.std.proofs.lemmas.Nat.{div-add-mod', div-mul-add, mod-mul-add}
use Rattle.std.proofs.lemmas.List.{length-map, get_or-map, get_or-take, get_or-drop, length-take-le}
use Rattle.std.proofs.lemmas.List.Elements.{All-from_get_or}
use Rattle.pair_colours.specs.Colouring.{points}
use Rattle.pair_colours.proofs.Places.{place_below, row_below, column_below}
use Rattle.pair_colours.proofs.Counts.{count_by_points}
use Rattle.drg_arrays.specs.Graph.{Graph, is_edge}
use Rattle.drg_arrays.specs.Distance.{IsDistance, IsConnected}
use Rattle.drg_arrays.specs.IntersectionArray.{IsCount, IsNearerNeighbour, IsFartherNeighbour, HasNumbers, IsFirstPair, AtOneDistance, IsIrregular, HasArray}
use Rattle.drg_arrays.specs.Answer.{IsIrregularAt}
use Rattle.drg_arrays.specs.Tables.{AreDistances, AreCounts, AreFirstPlaces, IsFirstPlace, IsAlikeAt, IsFirstUnlike}
use Rattle.drg_arrays.proofs.Walks.{IsDistance-same, each_distance}
use Rattle.drg_arrays.proofs.Counting.{is_counted}

-- a property has only one count
pub IsCount-same : (G : Graph) (P : ℕ → Type 0) (m n : ℕ) → IsCount G P m → IsCount G P n → m ≡ n
IsCount-same G P m n h k =
    sym h.counts ∙ count_by_points h.test k.test G.size (λ z l. same_from_decides (h.test z) (k.test z) (h.decides z l) (k.decides z l)) ∙ k.counts

-- and only one first pair
pub first_place_same : (G : Graph) (P : ℕ → ℕ → Type 0) (x y u v : ℕ) → IsFirstPair G P x y → IsFirstPair G P u v → x * G.size + y ≡ u * G.size + v
first_place_same G P x y u v h k = omega (arith, h.first u v k.row k.column k.holds, k.first x y h.row h.column h.holds)

module _ (G : Graph) (table nearer farther firsts : List ℕ) (one : 1 ≤ G.size) (d : AreDistances G table) (n : AreCounts G table nearer farther) (f : AreFirstPlaces table firsts) where
  at_pair : (xs : List ℕ) (u v p : ℕ) → u * G.size + v ≡ p → get_or xs (u * G.size + v) 0 ≡ get_or xs p 0
  at_pair xs u v p e = ap (λ k. get_or xs k 0) e

  in_table : (p : ℕ) → p < G.size * G.size → p < length table
  in_table p l = subst (λ m. p < m) (sym d.len) l

  nearer_decides : (u v w : ℕ) → u < G.size → v < G.size → w < G.size → IsTrue (is_counted G table u v (get_or table (u * G.size + v) 0) w) ↔ IsNearerNeighbour G u v w
  nearer_decides u v w hu hv hw = (
    λ t.
        let both = and_parts (is_edge G v w) (get_or table (u * G.size + w) 0 + 1 == get_or table (u * G.size + v) 0) t in
        let e = eqb-true (get_or table (u * G.size + w) 0 + 1) (get_or table (u * G.size + v) 0) both.1 in
        record {
          neighbour = both.0;
          distance = get_or table (u * G.size + w) 0;
          from_u = subst (IsDistance G u v) (sym e) (d.is u v hu hv);
          nearer = d.is u w hu hw;
        },
    λ h.
        let own = IsDistance-same G u v (get_or table (u * G.size + v) 0) (h.distance + 1) (d.is u v hu hv) h.from_u in
        let other = IsDistance-same G u w (get_or table (u * G.size + w) 0) h.distance (d.is u w hu hw) h.nearer in
        and_from (is_edge G v w) (get_or table (u * G.size + w) 0 + 1 == get_or table (u * G.size + v) 0) h.neighbour (eq-eqb (get_or table (u * G.size + w) 0 + 1) (get_or table (u * G.size + v) 0) (omega (arith, own, other))),
  )

  farther_decides : (u v w : ℕ) → u < G.size → v < G.size → w < G.size → IsTrue (is_counted G table u v (get_or table (u * G.size + v) 0 + 2) w) ↔ IsFartherNeighbour G u v w
  farther_decides u v w hu hv hw = (
    λ t.
        let both = and_parts (is_edge G v w) (get_or table (u * G.size + w) 0 + 1 == get_or table (u * G.size + v) 0 + 2) t in
        let e = eqb-true (get_or table (u * G.size + w) 0 + 1) (get_or table (u * G.size + v) 0 + 2) both.1 in
        let one_more : get_or table (u * G.size + w) 0 ≡ get_or table (u * G.size + v) 0 + 1 = omega (arith, e) in
        record {
          neighbour = both.0;
          distance = get_or table (u * G.size + v) 0;
          from_u = d.is u v hu hv;
          farther = subst (IsDistance G u w) one_more (d.is u w hu hw);
        },
    λ h.
        let own = IsDistance-same G u v (get_or table (u * G.size + v) 0) h.distance (d.is u v hu hv) h.from_u in
        let other = IsDistance-same G u w (get_or table (u * G.size + w) 0) (h.distance + 1) (d.is u w hu hw) h.farther in
        and_from (is_edge G v w) (get_or table (u * G.size + w) 0 + 1 == get_or table (u * G.size + v) 0 + 2) h.neighbour (eq-eqb (get_or table (u * G.size + w) 0 + 1) (get_or table (u * G.size + v) 0 + 2) (omega (arith, own, other))),
  )

  -- the tables have the numbers of each pair
  pub numbers_of : (u v : ℕ) → u < G.size → v < G.size → HasNumbers G u v (get_or nearer (u * G.size + v) 0) (get_or farther (u * G.size + v) 0)
  numbers_of u v hu hv =
      let low = place_below G.size u v hu hv in
      let own = get_or table (u * G.size + v) 0 in
      let row : (u * G.size + v) / G.size ≡ u = div-mul-add u G.size v hv in
      let column : (u * G.size + v) % G.size ≡ v = mod-mul-add u G.size v hv in record {
        nearer = record {
          test = is_counted G table u v own;
          decides = λ w hw. nearer_decides u v w hu hv hw;
          counts = sym (n.nearer_is (u * G.size + v) low ∙ (λ i. count_by (is_counted G table (row i) (column i) own) (points G.size)));
        };
        farther = record {
          test = is_counted G table u v (own + 2);
          decides = λ w hw. farther_decides u v w hu hv hw;
          counts = sym (n.farther_is (u * G.size + v) low ∙ (λ i. count_by (is_counted G table (row i) (column i) (own + 2)) (points G.size)));
        };
      }

  -- the first pair at the distance of a pair
  pub first_of : (u v p q : ℕ) → u < G.size → v < G.size → u * G.size + v ≡ p → q ≡ get_or firsts (get_or table p 0) 0
      → IsFirstPair G (AtOneDistance G u v) (q / G.size) (q % G.size)
  first_of u v p q hu hv e eq =
      let lp : p < length table = in_table p (subst (λ k. k < G.size * G.size) e (place_below G.size u v hu hv)) in
      let i : IsFirstPlace table p q = subst (IsFirstPlace table p) (sym eq) (f.at p lp) in
      let low : q < G.size * G.size = subst (λ m. q < m) d.len i.within in
      let whole : q / G.size * G.size + q % G.size ≡ q = div-add-mod' q G.size in
      let own : get_or table (u * G.size + v) 0 ≡ get_or table p 0 = at_pair table u v p e in record {
        row = row_below G.size q one low;
        column = column_below G.size q one;
        holds = record {
          distance = get_or table p 0;
          of_one = subst (IsDistance G u v) own (d.is u v hu hv);
          of_other = subst (IsDistance G (q / G.size) (q % G.size)) (at_pair table (q / G.size) (q % G.size) q whole ∙ i.same) (d.is (q / G.size) (q % G.size) (row_below G.size q one low) (column_below G.size q one));
        };
        first = λ a b ha hb h.
            let s = IsDistance-same G u v (get_or table (u * G.size + v) 0) h.distance (d.is u v hu hv) h.of_one in
            let t = IsDistance-same G a b (get_or table (a * G.size + b) 0) h.distance (d.is a b ha hb) h.of_other in
            let l = i.first (a * G.size + b) (in_table (a * G.size + b) (place_below G.size a b ha hb)) (t ∙ sym s ∙ own) in
            omega (arith, l, whole);
      }

  connected : IsConnected G
  connected = record { walks = λ x y hx hy. record { length = get_or table (x * G.size + y) 0; walk = (d.is x y hx hy).walk } }

  -- an irregular pair has unlike counts
  irregular_unlike : (u v : ℕ) → u < G.size → v < G.size → IsIrregular G u v → IsAlikeAt table firsts nearer farther (u * G.size + v) → ⊥
  irregular_unlike u v hu hv h alike =
      let q = get_or firsts (get_or table (u * G.size + v) 0) 0 in
      let g = first_of u v (u * G.size + v) q hu hv refl refl in
      let place : h.x * G.size + h.y ≡ q = first_place_same G (AtOneDistance G u v) h.x h.y (q / G.size) (q % G.size) h.first g ∙ div-add-mod' q G.size in
      let own = numbers_of u v hu hv in
      let other = numbers_of h.x h.y h.first.row h.first.column in
      let c = IsCount-same G (IsNearerNeighbour G u v) h.c (get_or nearer (u * G.size + v) 0) h.own.nearer own.nearer in
      let b = IsCount-same G (IsFartherNeighbour G u v) h.b (get_or farther (u * G.size + v) 0) h.own.farther own.farther in
      let fc = IsCount-same G (IsNearerNeighbour G h.x h.y) h.first_c (get_or nearer (h.x * G.size + h.y) 0) h.of_first.nearer other.nearer in
      let fb = IsCount-same G (IsFartherNeighbour G h.x h.y) h.first_b (get_or farther (h.x * G.size + h.y) 0) h.of_first.farther other.farther in
      h.differ (c ∙ alike.0 ∙ sym (fc ∙ at_pair nearer h.x h.y q place), b ∙ alike.1 ∙ sym (fb ∙ at_pair farther h.x h.y q place))

  -- the first place with unlike counts is that of the first irregular pair
  pub IsIrregularAt-from_place : (p q : ℕ) → IsFirstUnlike table firsts nearer farther p → q ≡ get_or firsts (get_or table p 0) 0
      → IsIrregularAt G (q / G.size) (q % G.size) (p / G.size) (p % G.size)
  IsIrregularAt-from_place p q h eq =
      let low : p < G.size * G.size = subst (λ m. p < m) d.len h.within in
      let hu = row_below G.size p one low in
      let hv = column_below G.size p one in
      let whole : p / G.size * G.size + p % G.size ≡ p = div-add-mod' p G.size in
      let g = first_of (p / G.size) (p % G.size) p q hu hv whole eq in
      let at : q / G.size * G.size + q % G.size ≡ q = div-add-mod' q G.size in record {
        connected = connected;
        irregular = record {
          row = hu;
          column = hv;
          holds = record {
            x = q / G.size;
            y = q % G.size;
            first = g;
            c = get_or nearer (p / G.size * G.size + p % G.size) 0;
            b = get_or farther (p / G.size * G.size + p % G.size) 0;
            own = numbers_of (p / G.size) (p % G.size) hu hv;
            first_c = get_or nearer (q / G.size * G.size + q % G.size) 0;
            first_b = get_or farther (q / G.size * G.size + q % G.size) 0;
            of_first = numbers_of (q / G.size) (q % G.size) g.row g.column;
            differ = λ s. h.unlike (
              sym (at_pair nearer (p / G.size) (p % G.size) p whole) ∙ s.0 ∙ at_pair nearer (q / G.size) (q % G.size) q at ∙ ap (λ k. get_or nearer k 0) eq,
              sym (at_pair farther (p / G.size) (p % G.size) p whole) ∙ s.1 ∙ at_pair farther (q / G.size) (q % G.size) q at ∙ ap (λ k. get_or farther k 0) eq,
            );
          };
          first = λ u v hu' hv' i. ⊎_elim
              (λ (l : u * G.size + v < p). absurd (irregular_unlike u v hu' hv' i (h.before (u * G.size + v) l)))
              (λ (l : p ≤ u * G.size + v). omega (arith, l, whole)) (cases_lt (u * G.size + v) p);
        };
        compared = g;
      }

  -- each distance up to the greatest occurs
  occurs : (k i : ℕ) → k < length table → i ≤ get_or table k 0 → (p : ℕ) × (p < length table) × (get_or table p 0 ≡ i)
  occurs k i l le =
      let low : k < G.size * G.size = subst (λ m. k < m) d.len l in
      let hx = row_below G.size k one low in
      let hy = column_below G.size k one in
      let is = d.is (k / G.size) (k % G.size) hx hy in
      let m = get_or table k 0 - i in
      let e : get_or table (k / G.size * G.size + k % G.size) 0 ≡ i + m = at_pair table (k / G.size) (k % G.size) k (div-add-mod' k G.size) ∙ omega (arith, le) in
      let w = each_distance G (k / G.size) (k % G.size) i m hy (subst (IsDistance G (k / G.size) (k % G.size)) e is) in (
        k / G.size * G.size + w.0,
        in_table (k / G.size * G.size + w.0) (place_below G.size (k / G.size) w.0 hx w.1),
        IsDistance-same G (k / G.size) w.0 (get_or table (k / G.size * G.size + w.0) 0) i (d.is (k / G.size) w.0 hx w.1) w.2,
      )

  -- so it has a first place
  first_within : (k i : ℕ) → k < length table → i ≤ get_or table k 0 → get_or firsts i 0 < G.size * G.size
  first_within k i l le =
      let o = occurs k i l le in
      let w : get_or firsts (get_or table o.0 0) 0 < length table = (f.at o.0 o.1).within in
      subst (λ m. get_or firsts i 0 < m) d.len (subst (λ j. get_or firsts j 0 < length table) o.2 w)

  module _ (diameter : ℕ) (firsts_len : length firsts ≡ G.size) (bound : (k : ℕ) → k < length table → get_or table k 0 ≤ diameter)
      (found : (k : ℕ) × (k < length table) × (get_or table k 0 ≡ diameter)) where
    diameter_below : diameter < G.size
    diameter_below = omega (arith, d.small found.0 found.1, found.2)

    pub farther_within : All (λ place. place < length farther) (take diameter firsts)
    farther_within = All-from_get_or (λ place. place < length farther) (take diameter firsts) 0 (λ i l.
        let b : i < diameter = omega (arith, l, length-take diameter firsts) in
        let w : get_or firsts i 0 < G.size * G.size = first_within found.0 i found.1 (omega (arith, b, found.2)) in
        subst (λ q. q < length farther) (sym (get_or-take diameter firsts i 0 b)) (subst (λ m. get_or firsts i 0 < m) (sym n.farther_len) w))

    pub nearer_within : All (λ place. place < length nearer) (take diameter (drop 1 firsts))
    nearer_within = All-from_get_or (λ place. place < length nearer) (take diameter (drop 1 firsts)) 0 (λ i l.
        let b : i < diameter = omega (arith, l, length-take diameter (drop 1 firsts)) in
        let w : get_or firsts (1 + i) 0 < G.size * G.size = first_within found.0 (1 + i) found.1 (omega (arith, b, found.2)) in
        subst (λ q. q < length nearer) (sym (get_or-take diameter (drop 1 firsts) i 0 b ∙ get_or-drop 1 firsts i 0)) (subst (λ m. get_or firsts (1 + i) 0 < m) (sym n.nearer_len) w))

    -- where no counts are unlike, the counts at the first places are the array
    pub HasArray-from_tables : ((k : ℕ) → k < length table → IsAlikeAt table firsts nearer farther k)
        → HasArray G (map (λ place. get_or farther place 0) (take diameter firsts)) (map (λ place. get_or nearer place 0) (take diameter (drop 1 firsts)))
    HasArray-from_tables alike = record {
      connected = connected;
      diameter = record {
        greatest = λ x y k hx hy i.
            let e = IsDistance-same G x y (get_or table (x * G.size + y) 0) k (d.is x y hx hy) i in
            omega (arith, e, bound (x * G.size + y) (in_table (x * G.size + y) (place_below G.size x y hx hy)), b_len);
        x = found.0 / G.size;
        y = found.0 % G.size;
        row = row_below G.size found.0 one found_low;
        column = column_below G.size found.0 one;
        reached = subst (IsDistance G (found.0 / G.size) (found.0 % G.size))
            (at_pair table (found.0 / G.size) (found.0 % G.size) found.0 (div-add-mod' found.0 G.size) ∙ found.2 ∙ sym b_len)
            (d.is (found.0 / G.size) (found.0 % G.size) (row_below G.size found.0 one found_low) (column_below G.size found.0 one));
      };
      lengths = c_len ∙ sym b_len;
      farther = λ u v i hu hv is l. subst (IsCount G (IsFartherNeighbour G u v)) (b_at u v i hu hv is (omega (arith, l, b_len))) (numbers_of u v hu hv).farther;
      nearer = λ u v i hu hv is l. subst (IsCount G (IsNearerNeighbour G u v)) (c_at u v i hu hv is (omega (arith, l, c_len))) (numbers_of u v hu hv).nearer;
    }
      where
        found_low : found.0 < G.size * G.size
        found_low = subst (λ m. found.0 < m) d.len found.1

        b_len : length (map (λ place. get_or farther place 0) (take diameter firsts)) ≡ diameter
        b_len = length-map (take diameter firsts) (λ place. get_or farther place 0) ∙ length-take-le diameter firsts (omega (arith, diameter_below, firsts_len))

        c_take : length (take diameter (drop 1 firsts)) ≡ diameter
        c_take = length-take-le diameter (drop 1 firsts) (omega (arith, diameter_below, firsts_len, length-drop 1 firsts))

        c_len : length (map (λ place. get_or nearer place 0) (take diameter (drop 1 firsts))) ≡ diameter
        c_len = length-map (take diameter (drop 1 firsts)) (λ place. get_or nearer place 0) ∙ c_take

        alike_at : (u v i : ℕ) → u < G.size → v < G.size → IsDistance G u v i
            → (get_or nearer (u * G.size + v) 0 ≡ get_or nearer (get_or firsts i 0) 0) × (get_or farther (u * G.size + v) 0 ≡ get_or farther (get_or firsts i 0) 0)
        alike_at u v i hu hv is =
            let e = IsDistance-same G u v (get_or table (u * G.size + v) 0) i (d.is u v hu hv) is in
            let a = alike (u * G.size + v) (in_table (u * G.size + v) (place_below G.size u v hu hv)) in
            (a.0 ∙ ap (λ j. get_or nearer (get_or firsts j 0) 0) e, a.1 ∙ ap (λ j. get_or farther (get_or firsts j 0) 0) e)

        b_at : (u v i : ℕ) → u < G.size → v < G.size → IsDistance G u v i → i < diameter
            → get_or farther (u * G.size + v) 0 ≡ get_or (map (λ place. get_or farther place 0) (take diameter firsts)) i 0
        b_at u v i hu hv is l =
            let low : i < length (take diameter firsts) = omega (arith, l, length-take-le diameter firsts (omega (arith, diameter_below, firsts_len))) in
            (alike_at u v i hu hv is).1 ∙ sym (get_or-map (λ place. get_or farther place 0) (take diameter firsts) i 0 0 low ∙ ap (λ q. get_or farther q 0) (get_or-take diameter firsts i 0 l))

        c_at : (u v i : ℕ) → u < G.size → v < G.size → IsDistance G u v (i + 1) → i < diameter
            → get_or nearer (u * G.size + v) 0 ≡ get_or (map (λ place. get_or nearer place 0) (take diameter (drop 1 firsts))) i 0
        c_at u v i hu hv is l =
            let low : i < length (take diameter (drop 1 firsts)) = omega (arith, l, c_take) in
            let q : get_or (take diameter (drop 1 firsts)) i 0 ≡ get_or firsts (i + 1) 0 =
            get_or-take diameter (drop 1 firsts) i 0 l ∙ get_or-drop 1 firsts i 0 ∙ ap (λ j. get_or firsts j 0) (omega arith) in
            (alike_at u v (i + 1) hu hv is).0 ∙ sym (get_or-map (λ place. get_or nearer place 0) (take diameter (drop 1 firsts)) i 0 0 low ∙ ap (λ k. get_or nearer k 0) q)
