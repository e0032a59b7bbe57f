-- The rows of structure constants, one after the other, are the list of those that are not 0.
use Rattle.std.proofs.Common.{◌≡◌, ◌⊎◌, ℕ, ◌+◌, ◌*◌, ◌^◌, ◌<◌, ◌≤◌, List, [], ◌∷◌, ◌++◌, map, filter, inl, inr, refl, sym, ap, subst, ◌∙◌, arith, append_assoc, length, sum_by}
use Rattle.std.specs.Prelude.{All}
use Rattle.std.specs.List.{flat_map}
use Rattle.std.proofs.lemmas.Bool.{lt-ltb}
use Rattle.std.proofs.lemmas.List.{append-nil, length-append, length-map}
use Rattle.std.proofs.lemmas.List.Elements.{filter-append}
use Rattle.std.proofs.lemmas.List.Concat.{length-flat_map}
use Rattle.std.proofs.lemmas.List.FromFn.{length-range_with_len, length-map-range_with_len}
use Rattle.std.proofs.lemmas.List.Sums.{length-filter, count_by-le-length, sum_by-le}
use Rattle.std.proofs.lemmas.Grind.{flat_map-append}
use Rattle.std.proofs.lemmas.Nat.{mul-le}
use Rattle.pair_colours.specs.declared.coloured_pairs.TheConstants.{MOST_POINTS}
use borrow.Author.Tests.{ltb-true}
use Rattle.pair_colours.specs.Colouring.{PairColouring, FitsColouring, points}
use Rattle.pair_colours.specs.Naming.{rank_of}
use Rattle.pair_colours.specs.IntersectionNumber.{pair_of_class, intersection_number}
use Rattle.pair_colours.proofs.Counts.{points_more}
use Rattle.pair_colours.proofs.Few.{colours_met-le}
use Rattle.triangle_count.specs.declared.rows.Entry.{Entry}
use Rattle.triangle_count.specs.Row.{Precedes, IsRowAt}
use Rattle.report_text.specs.Constants.{is_nonzero_at, constant_line, entry_line}
use Rattle.report_text.proofs.Rising.{Among, Rises, rising_same, Rises-filter, Rises-from_pairs, Among-filter, filter-Among, All-Among, Among-from_any, Among-map, map-Among, Among-flat_map, flat_map-Among, Rises-map, Rises-flat_map, range-Among, Rises-range}

-- by i and then j
abbrev Before : ℕ × ℕ × ℕ → ℕ × ℕ × ℕ → Type 0
Before t u = (t.1 < u.1) ⊎ ((t.1 ≡ u.1) × (t.2 < u.2))

apart : (t u : ℕ × ℕ × ℕ) → Before t u → Before u t → ⊥
apart t u a b = elim a [
  | inl l ↦ elim b [ inl m ↦ omega (arith, l, m) | inr m ↦ omega (arith, l, m.0) ]
  | inr l ↦ elim b [ inl m ↦ omega (arith, l.0, m) | inr m ↦ omega (arith, l.1, m.1) ]
]

-- the triples of class k, and among them those of class i
abbrev pub with_classes : ℕ → ℕ → ℕ → List (ℕ × ℕ × ℕ)
with_classes r k i = map (λ j. (k, i, j)) (points r)

abbrev pub over_class : ℕ → ℕ → List (ℕ × ℕ × ℕ)
over_class r k = flat_map (with_classes r k) (points r)

over_class-Rises : (r k : ℕ) → Rises Before (over_class r k)
over_class-Rises r k =
    Rises-flat_map (λ x y. x < y) Before (with_classes r k)
    (λ i. Rises-map (λ x y. x < y) Before (λ j. (k, i, j)) (λ x y l. inr (refl, l)) (points r) (Rises-range 0 r))
    (λ x y l u v a b.
    let p = Among-map (λ j. (k, x, j)) u (points r) a in
    let q = Among-map (λ j. (k, y, j)) v (points r) b in
    inl (omega (arith, l, ap (λ (t : ℕ × ℕ × ℕ). t.1) p.2, ap (λ (t : ℕ × ℕ × ℕ). t.1) q.2)))
    (points r) (Rises-range 0 r)

-- what the triples of class k are
over_class-Among : (r k i j : ℕ) → i < r → j < r → Among (k, i, j) (over_class r k)
over_class-Among r k i j hi hj =
    flat_map-Among (with_classes r k) i (k, i, j) (points r) (range-Among 0 r i (omega arith) (omega (arith, hi)))
    (map-Among (λ m. (k, i, m)) j (points r) (range-Among 0 r j (omega arith) (omega (arith, hj))))

Among-over_class : (r k : ℕ) (t : ℕ × ℕ × ℕ) → Among t (over_class r k) → (i : ℕ) × (j : ℕ) × (t ≡ (k, i, j))
Among-over_class r k t m =
    let row = Among-flat_map (with_classes r k) t (points r) m in
    let at = Among-map (λ j. (k, row.0, j)) t (points r) row.2 in
    (row.0, at.0, at.2)

-- an entry of the row of class k as a triple
abbrev pub entry_triple : ℕ → Entry → ℕ × ℕ × ℕ
entry_triple k e = (k, e.left, e.right)

-- the triples of the classes below k whose number is not 0
abbrev pub listed_below : PairColouring → ℕ → List (ℕ × ℕ × ℕ)
listed_below K k = filter (is_nonzero_at K) (flat_map (over_class (rank_of K)) (points k))

-- they are not many
over_class-le : (r k : ℕ) → length (over_class r k) ≤ r * r
over_class-le r k =
    let len : length (points r) ≡ r = length-range_with_len 0 r in
    let row : (i : ℕ) → length (with_classes r k i) ≤ r = λ i. omega (arith, length-map-range_with_len {X = ℕ × ℕ × ℕ} (λ j. (k, i, j)) 0 r) in
    let rows : sum_by (λ i. length (with_classes r k i)) (points r) ≤ length (points r) * r = sum_by-le (λ i. length (with_classes r k i)) r (points r) (λ n d l. row _) in
    omega (arith, length-flat_map (with_classes r k) (points r), rows, ap (λ m. m * r) len)

-- how many classes there are at most, by a bound that is plain
abbrev most_classes : ℕ
most_classes = MOST_POINTS + MOST_POINTS * MOST_POINTS

pub listed-few : (K : PairColouring) (k : ℕ) → FitsColouring K → k ≤ rank_of K → length (listed_below K k) < 2 ^ 64
listed-few K k fits below =
    let r = rank_of K in
    let most : r ≤ most_classes = omega (arith, colours_met-le K, fits.limit, mul-le K.size K.size MOST_POINTS MOST_POINTS fits.limit fits.limit) in
    let len : length (points k) ≡ k = length-range_with_len 0 k in
    let all : sum_by (λ c. length (over_class r c)) (points k) ≤ length (points k) * (r * r) = sum_by-le (λ c. length (over_class r c)) (r * r) (points k) (λ n d l. over_class-le r _) in
    let square : r * r ≤ most_classes * most_classes = mul-le r r most_classes most_classes most most in
    let cube : k * (r * r) ≤ most_classes * (most_classes * most_classes) = mul-le k (r * r) most_classes (most_classes * most_classes) (omega (arith, below, most)) square in
    omega (
      arith,
      length-filter (is_nonzero_at K) (flat_map (over_class r) (points k)),
      count_by-le-length (is_nonzero_at K) (flat_map (over_class r) (points k)),
      length-flat_map (over_class r) (points k),
      all,
      ap (λ m. m * (r * r)) len,
      cube,
    )

-- the lines of the triples of class k are those of its entries
lines_of_entries : (K : PairColouring) (k : ℕ) (entries : List Entry) → ((e : Entry) → Among e entries → e.count ≡ intersection_number K e.left e.right k)
    → flat_map (entry_line k) entries ≡ flat_map (constant_line K) (map (entry_triple k) entries)
lines_of_entries K k [] h = refl
lines_of_entries K k (e ∷ entries) h =
    let line : entry_line k e ≡ constant_line K (entry_triple k e) = ap (λ n. entry_line k (record e { count = n })) (h e (inl refl)) in
    λ i. line i ++ lines_of_entries K k entries (λ f m. h f (inr m)) i

module _ (K : PairColouring) (k : ℕ) (entries : List Entry) (row : IsRowAt K (pair_of_class K k).0 (pair_of_class K k).1 entries)
    (small : All (λ e. (e.left < rank_of K) × (e.right < rank_of K)) entries) where
  -- the number of an entry
  entry_number : (e : Entry) → Among e entries → e.count ≡ intersection_number K e.left e.right k
  entry_number e m = All-Among (λ e. e.count ≡ intersection_number K e.left e.right k) entries row.counts e m

  listed : (t : ℕ × ℕ × ℕ) → Among t (map (entry_triple k) entries) → Among t (filter (is_nonzero_at K) (over_class (rank_of K) k))
  listed t m =
      let r = Among-map (entry_triple k) t entries m in
      let e = r.0 in
      let positive : 0 < intersection_number K e.left e.right k = omega (arith, All-Among (λ e. 0 < e.count) entries row.nonzero e r.1, entry_number e r.1) in
      let within = All-Among (λ e. (e.left < rank_of K) × (e.right < rank_of K)) entries small e r.1 in
      subst (λ t. Among t (filter (is_nonzero_at K) (over_class (rank_of K) k))) (sym r.2)
      (filter-Among (is_nonzero_at K) (entry_triple k e) (over_class (rank_of K) k) (over_class-Among (rank_of K) k e.left e.right within.0 within.1) (lt-ltb 0 _ positive))

  kept : (t : ℕ × ℕ × ℕ) → Among t (filter (is_nonzero_at K) (over_class (rank_of K) k)) → Among t (map (entry_triple k) entries)
  kept t m =
      let f = Among-filter (is_nonzero_at K) t (over_class (rank_of K) k) m in
      let s = Among-over_class (rank_of K) k t f.0 in
      let positive : 0 < intersection_number K s.0 s.1 k = ltb-true 0 _ (sym (ap (is_nonzero_at K) s.2) ∙ f.1) in
      let any = Among-from_any (λ e. (e.left ≡ s.0) × (e.right ≡ s.1)) entries (row.complete s.0 s.1 positive) in
      let is : entry_triple k any.0 ≡ t = (λ i. (k, any.2.0 i, any.2.1 i)) ∙ sym s.2 in
      subst (λ t. Among t (map (entry_triple k) entries)) is (map-Among (entry_triple k) any.0 entries any.1)

  -- the entries of the row of class k are the triples of class k whose number is not 0
  row_listed : map (entry_triple k) entries ≡ filter (is_nonzero_at K) (over_class (rank_of K) k)
  row_listed =
      rising_same Before apart (map (entry_triple k) entries) (filter (is_nonzero_at K) (over_class (rank_of K) k))
      (Rises-map Precedes Before (entry_triple k) (λ e f p. p) entries (Rises-from_pairs Precedes entries row.rises))
      (Rises-filter Before (is_nonzero_at K) (over_class (rank_of K) k) (over_class-Rises (rank_of K) k)) listed kept

  -- the list with one more class
  listed_more : listed_below K (k + 1) ≡ listed_below K k ++ map (entry_triple k) entries
  listed_more =
      let front = flat_map (over_class (rank_of K)) (points k) in
      ap (λ ks. filter (is_nonzero_at K) (flat_map (over_class (rank_of K)) ks)) (points_more k)
      ∙ ap (filter (is_nonzero_at K)) (flat_map-append (over_class (rank_of K)) (points k) (k ∷ []) ∙ ap (λ l. front ++ l) (append-nil (over_class (rank_of K) k)))
      ∙ filter-append (is_nonzero_at K) front (over_class (rank_of K) k)
      ∙ ap (λ l. filter (is_nonzero_at K) front ++ l) (sym row_listed)

  -- how many are listed, with one more class
  pub length_more : (old new : ℕ) → old ≡ length (listed_below K k) → new ≡ old + length entries → new ≡ length (listed_below K (k + 1))
  length_more old new before after =
      after ∙ ap (λ n. n + length entries) before
      ∙ sym (ap length listed_more ∙ length-append (listed_below K k) (map (entry_triple k) entries) ∙ ap (λ n. length (listed_below K k) + n) (length-map entries (entry_triple k)))

  -- the text of the lines, with one more class
  pub text_more : (start old new : List ℕ) → old ≡ start ++ flat_map (constant_line K) (listed_below K k) → new ≡ old ++ flat_map (entry_line k) entries
      → new ≡ start ++ flat_map (constant_line K) (listed_below K (k + 1))
  text_more start old new before after =
      let line = constant_line K in
      after
      ∙ (λ i. before i ++ lines_of_entries K k entries entry_number i)
      ∙ append_assoc start (flat_map line (listed_below K k)) (flat_map line (map (entry_triple k) entries))
      ∙ ap (λ text. start ++ text) (sym (ap (flat_map line) listed_more ∙ flat_map-append line (listed_below K k) (map (entry_triple k) entries)))
