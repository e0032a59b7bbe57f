-- The partition that `Cells` keeps, and what a step makes of it.
use Rattle.std.proofs.Common.{◌≡◌, ◌≢◌, ◌↔◌, ◌==◌, ◌&&◌, nat_lt, ℕ, ◌+◌, ◌*◌, ◌/◌, ◌%◌, ◌^◌, ◌<◌, ◌≤◌, Bool, true, false, if◌then◌else◌, List, length, get_or, map, filter, count_by, replicate, All, ⊎_elim, refl, sym, ap, ◌∙◌, arith, zero, suc}
use Rattle.std.proofs.lemmas.Bool.{cases_Bool, cases_eq, cases_lt, eq-eqb, eqb-true, ne_eqb, lt-ltb, le-ltb}
use Rattle.std.proofs.lemmas.List.{length-map, ext_get_or, length-replicate, get_or-replicate, get_or_past}
use Rattle.std.proofs.lemmas.List.FromFn.{length-range_with_len, get_or-map-range_with_len}
use Rattle.std.proofs.lemmas.Nat.{div-add-mod', div-mul-add, mod-mul-add, mul-le}
use Rattle.pair_colours.specs.declared.coloured_pairs.TheConstants.{MOST_POINTS}
use Rattle.pair_colours.specs.Colouring.{PairColouring, IsColouring, colour_at, points}
use Rattle.pair_colours.specs.Naming.{walk, first_met, rank_of}
use Rattle.pair_colours.proofs.Counts.{unit_of, count_by-map, count_by_points}
use Rattle.pair_colours.proofs.Exists.{IsColouring-by_pairs}
use Rattle.pair_colours.proofs.ListLemmas.{Each-weaker, map_agree, Each-passed}
use Rattle.pair_colours.proofs.Names.{InSquare, Each-walk}
use Rattle.pair_colours.proofs.Places.{place_below, row_below, column_below}
use Rattle.trace_text.specs.declared.step_list.Step.{Step}
use Rattle.trace_text.specs.declared.step_list.Step.TheVariants.{Diag, Flip, Tri, Round}
use Rattle.trace_text.specs.Partition.{IsPartition}
use Rattle.trace_text.specs.Split.{HasParts, has_smaller_key, key_of, later_keys, numbers_of, split_of}
use Rattle.trace_text.specs.Versions.{HasStep}
use Rattle.trace_text.specs.Parts.{keys_in, part_number, class_parted_by}
use Rattle.trace_text.proofs.LawProofs.{parts_one_class, parts_two_keys}
use Rattle.trace_text.proofs.Parting.{moves, parted_kept, place_below_keys}
use Rattle.trace_text.proofs.Partitions.{UsesBelow, rank_from_used, IsPartition-from_used}
use Rattle.split_cells.specs.Segments.{IsMembers}
use Rattle.split_cells.specs.Grids.{IsUsed, grid}
use Rattle.split_cells.specs.Keys.{IsBlank, class_of, key_inside, key_at, counts_in}
use Rattle.split_cells.specs.Sorted.{IsNumbered}
use Rattle.wl_round.proofs.PointCounts.{count_one_more, count_none}
use Rattle.split_cells.proofs.ReadOut.{same_at_pairs}

-- the classes of a grid with the numbers below r in use
module _ (size : ℕ) (class : List ℕ) (r : ℕ) (some : 1 ≤ size) (len : length class ≡ size * size) (below : (p : ℕ) → p < length class → get_or class p 0 < r) (used : IsUsed class r) where
  abbrev P : PairColouring
  P = grid size class

  pub IsColouring-grid : IsColouring P
  IsColouring-grid = record { has_points = some; has_pairs = len }

  UsesBelow-grid : UsesBelow P r
  UsesBelow-grid = record {
    below = λ x y hx hy. below (x * size + y) (omega (arith, len, place_below size x y hx hy));
    used = λ k l.
        let u = used k l in
        let inside : u.number < size * size = omega (arith, u.inside, len) in
        record {
          x = u.number / size;
          y = u.number % size;
          row = row_below size u.number some inside;
          column = column_below size u.number some;
          is = ap (λ q. get_or class q 0) (div-add-mod' u.number size) ∙ u.member;
        };
  }

  pub rank_is : rank_of P ≡ r
  rank_is = rank_from_used P r UsesBelow-grid

  pub IsPartition-grid : IsPartition P
  IsPartition-grid = IsPartition-from_used P r IsColouring-grid UsesBelow-grid

-- a step on one class splits it by its key
split_by_key : (P : PairColouring) (s : Step) → HasStep 1 s → IsColouring P → split_of P s ≡ class_parted_by P (class_of s) (key_inside P s)
split_by_key P (Diag k) one a = parts_one_class P k (key_inside P (Diag k)) a
split_by_key P (Flip k other) one a = parts_one_class P k (key_inside P (Flip k other)) a
split_by_key P (Tri k left right) one a = parts_one_class P k (key_inside P (Tri k left right)) a
split_by_key P Round one a = absurd (omega (arith, one))

pub parts_from_keys : (P : PairColouring) (s : Step) → HasStep 1 s → HasParts P s ↔ (2 ≤ length (keys_in P (class_of s) (key_inside P s)))
parts_from_keys P (Diag k) one = parts_two_keys P k (key_inside P (Diag k))
parts_from_keys P (Flip k other) one = parts_two_keys P k (key_inside P (Flip k other))
parts_from_keys P (Tri k left right) one = parts_two_keys P k (key_inside P (Tri k left right))
parts_from_keys P Round one = absurd (omega (arith, one))

-- the counts of a list that has the key of each pair of the class are the keys
pub keys_of_counts : (size : ℕ) (class counts : List ℕ) (s : Step) → length class ≡ size * size
    → ((p : ℕ) → p < length class → get_or class p 0 ≡ class_of s → get_or counts p 0 ≡ key_at (grid size class) s p)
    → counts_in size class counts (class_of s) ≡ keys_in (grid size class) (class_of s) (key_inside (grid size class) s)
keys_of_counts size class counts s len inside =
    ap first_met (map_agree count_of key_of (filter in_class (walk size))
    (Each-weaker (λ p. InSquare size p × (in_class p ≡ true)) (λ p. count_of p ≡ key_of p)
    (λ p h.
    let x = p.0 in
    let y = p.1 in
    inside (x * size + y) (omega (arith, len, place_below size x y h.0.0 h.0.1)) (eqb-true _ (class_of s) h.1)
    ∙ (λ i. key_inside (grid size class) s (div-mul-add x size y h.0.1 i) (mod-mul-add x size y h.0.1 i)))
    (filter in_class (walk size))
    (Each-passed (InSquare size) in_class (walk size) (Each-walk size))))
  where
    count_of : ℕ × ℕ → ℕ
    count_of p = get_or counts (p.0 * size + p.1) 0

    key_of : ℕ × ℕ → ℕ
    key_of p = key_inside (grid size class) s p.0 p.1

    in_class : ℕ × ℕ → Bool
    in_class p = colour_at (grid size class) p.0 p.1 == class_of s

-- how many keys of the class of a step are below one
abbrev pub keys_before : PairColouring → Step → ℕ → ℕ
keys_before P s key = count_by (λ other. nat_lt other key) (keys_in P (class_of s) (key_inside P s))

-- what a step on one class makes of a partition, place by place
pub split_by_places : (P : PairColouring) (s : Step) (new : List ℕ) → HasStep 1 s → IsColouring P → length new ≡ P.size * P.size
    → ((p : ℕ) → p < P.size * P.size → get_or P.colours p 0 ≢ class_of s → get_or new p 0 ≡ get_or P.colours p 0)
    → ((p : ℕ) → p < P.size * P.size → get_or P.colours p 0 ≡ class_of s → get_or new p 0 ≡ part_number P (class_of s) (keys_before P s (key_at P s p)))
    → grid P.size new ≡ split_of P s
split_by_places P s new one a len others parts =
    ap (grid P.size) (ext_get_or 0 new (map after (points (P.size * P.size)))
    (len ∙ sym (length-range_with_len 0 (P.size * P.size)) ∙ sym (length-map (points (P.size * P.size)) after))
    (λ p l.
    let low : p < P.size * P.size = omega (arith, l, len) in
    at p low ∙ sym (get_or-map-range_with_len after 0 (P.size * P.size) p p 0 low (omega arith))))
    ∙ sym (split_by_key P s one a)
  where
    after : ℕ → ℕ
    after p =
        if colour_at P (p / P.size) (p % P.size) == class_of s then part_number P (class_of s) (keys_before P s (key_at P s p)) else colour_at P (p / P.size) (p % P.size)

    at : (p : ℕ) → p < P.size * P.size → get_or new p 0 ≡ after p
    at p l =
        let back : colour_at P (p / P.size) (p % P.size) ≡ get_or P.colours p 0 = ap (λ q. get_or P.colours q 0) (div-add-mod' p P.size) in
        ⊎_elim
        (λ e.
        parts p l e
        ∙ sym (ap (λ b. if b then part_number P (class_of s) (keys_before P s (key_at P s p)) else colour_at P (p / P.size) (p % P.size)) (eq-eqb _ _ (back ∙ e))))
        (λ ne.
        others p l ne ∙ sym back
        ∙ sym (ap (λ b. if b then part_number P (class_of s) (keys_before P s (key_at P s p)) else colour_at P (p / P.size) (p % P.size)) (ne_eqb _ _ (λ f. ne (sym back ∙ f)))))
        (cases_eq (get_or P.colours p 0) (class_of s))

-- a step without parts changes nothing
pub split_idle : (P : PairColouring) (s : Step) → IsColouring P → ¬ HasParts P s → P ≡ split_of P s
split_idle P s a idle =
    let key = key_of P s in
    sym (same_at_pairs P (split_of P s) a refl
    (IsColouring-by_pairs P.size (λ x y. if has_smaller_key P key x y then rank_of P + count_by (λ other. nat_lt other (key x y)) (later_keys P key) else colour_at P x y) a.has_points).has_pairs
    (λ x y hx hy. parted_kept P key x y hx hy
    (⊎_elim (λ t. absurd (idle (omega (arith, place_below_keys P key (moves P key) x y hx hy t)))) (λ f. f) (cases_Bool (has_smaller_key P key x y)))))

-- how many pairs a class has
module _ {class : List ℕ} {k : ℕ} {at : ℕ → ℕ} {members : List ℕ} (m : IsMembers class k at members) where
  -- the pair is among the first a members
  abbrev is_among : ℕ → ℕ → Bool
  is_among a p = (get_or class p 0 == k) && nat_lt (at p) a

  first_members : (a : ℕ) → a ≤ length members → count_by (is_among a) (points (length class)) ≡ a
  first_members zero l = count_none (is_among 0) (length class) (λ p h. second_false (get_or class p 0 == k) _ (le-ltb (at p) 0 (omega arith)))
    where
      second_false : (s t : Bool) → t ≡ false → (s && t) ≡ false
      second_false true t e = e
      second_false false t e = refl
  first_members (suc a) l =
      let low : a < length members = omega (arith, l) in
      let p = get_or members a 0 in
      let one = count_one_more (is_among a) (is_among (suc a)) (length class) p (m.inside a low)
      (λ q hq ne. ⊎_elim
      (λ e. ap (λ t. (get_or class q 0 == k) && t) (same_lt q (λ f. ne (sym (m.is q hq e) ∙ ap (λ b. get_or members b 0) f))))
      (λ out. (λ i. ne_eqb _ _ out i && nat_lt (at q) a) ∙ sym (λ i. ne_eqb _ _ out i && nat_lt (at q) (suc a)))
      (cases_eq (get_or class q 0) k))
      ((λ i. eq-eqb _ _ (m.member a low) i && le-ltb (at p) a (omega (arith, m.back a low)) i)) in
      let now : is_among (suc a) p ≡ true = λ i. eq-eqb _ _ (m.member a low) i && lt-ltb (at p) (suc a) (omega (arith, m.back a low)) i in
      omega (arith, one, first_members a (omega (arith, l)), ap unit_of now)
    where
      same_lt : (q : ℕ) → at q ≢ a → nat_lt (at q) a ≡ nat_lt (at q) (suc a)
      same_lt q ne =
          ⊎_elim
          (λ b. lt-ltb _ _ b ∙ sym (lt-ltb (at q) (suc a) (omega (arith, b))))
          (λ b. le-ltb _ _ b ∙ sym (le-ltb (at q) (suc a) (omega (arith, b, ne))))
          (cases_lt (at q) a)

  pub members_counted : count_by (λ c. c == k) class ≡ length members
  members_counted =
      ap (count_by (λ c. c == k)) listed
      ∙ count_by-map (λ c. c == k) (λ p. get_or class p 0) (points (length class))
      ∙ count_by_points (λ p. get_or class p 0 == k) (is_among (length members)) (length class) (λ p l. ⊎_elim
      (λ e. eq-eqb _ _ e ∙ sym (λ i. eq-eqb _ _ e i && lt-ltb (at p) (length members) (m.listed p l e) i))
      (λ ne. ne_eqb _ _ ne ∙ sym (λ i. ne_eqb _ _ ne i && nat_lt (at p) (length members)))
      (cases_eq (get_or class p 0) k))
      ∙ first_members (length members) (omega arith)
    where
      listed : class ≡ map (λ p. get_or class p 0) (points (length class))
      listed =
          ext_get_or 0 class (map (λ p. get_or class p 0) (points (length class)))
          (sym (length-range_with_len 0 (length class)) ∙ sym (length-map (points (length class)) (λ p. get_or class p 0)))
          (λ p l. sym (get_or-map-range_with_len (λ p. get_or class p 0) 0 (length class) p p 0 l (omega arith)))

-- the class of a step on one class is among those that it names
pub names_class : (r : ℕ) (s : Step) → HasStep 1 s → All (λ number. number < r) (numbers_of s) → class_of s < r
names_class r (Diag k) one h = h 0 0 (omega arith)
names_class r (Flip k other) one h = h 0 0 (omega arith)
names_class r (Tri k left right) one h = h 0 0 (omega arith)
names_class r Round one h = absurd (omega (arith, one))

-- a partition numbers its classes
pub IsNumbered-partition : (Q : PairColouring) → IsPartition Q → IsNumbered Q.colours
IsNumbered-partition Q h = record {
  rank = rank_of Q;
  some = omega (arith, h.below 0 0 h.colouring.has_points h.colouring.has_points);
  below = λ p l.
      let low : p < Q.size * Q.size = omega (arith, l, h.colouring.has_pairs) in
      omega (arith, ap (λ q. get_or Q.colours q 0) (div-add-mod' p Q.size), h.below (p / Q.size) (p % Q.size) (row_below Q.size p h.colouring.has_points low) (column_below Q.size p h.colouring.has_points));
  used = λ k l.
      let u = h.used k l in
      record { number = u.x * Q.size + u.y; inside = omega (arith, h.colouring.has_pairs, place_below Q.size u.x u.y u.row u.column); member = u.is };
}

pub few_pairs : (n : ℕ) → n ≤ MOST_POINTS → n * n < 2 ^ 31
few_pairs n limit = omega (arith, mul-le n n MOST_POINTS MOST_POINTS limit limit)

pub some_pairs : (n m : ℕ) → 1 ≤ n → m ≡ n * n → n ≤ MOST_POINTS → (0 < m) × (m < 2 ^ 31)
some_pairs n m some e limit = (omega (arith, e, place_below n 0 0 some some), omega (arith, e, few_pairs n limit))

-- counts that are all 0
pub IsBlank-zeros : (class counts : List ℕ) (n : ℕ) → length class ≡ n → counts ≡ replicate n 0 → IsBlank class counts
IsBlank-zeros class counts n l c = record {
  len = ap length c ∙ length-replicate {A = ℕ} n 0 ∙ sym l;
  zero_everywhere = λ p. ⊎_elim
      (λ b. ap (λ xs. get_or xs p 0) c ∙ get_or-replicate n p 0 0 b)
      (λ b. get_or_past counts p 0 (omega (arith, ap length c, length-replicate {A = ℕ} n 0, b)))
      (cases_lt p n);
}
