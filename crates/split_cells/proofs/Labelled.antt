-- Classes with inner numbers, and the partition as it is shown.
use Rattle.std.proofs.Common.{◌≡◌, ◌≢◌, ◌↔◌, ◌==◌, ◌&&◌, nat_lt, IsTrue, ℕ, ◌+◌, ◌-◌, ◌*◌, ◌/◌, ◌%◌, ◌<◌, ◌≤◌, Bool, true, if◌then◌else◌, List, [], ◌∷◌, length, get_or, map, filter, count_by, All, ⊎_elim, refl, sym, ap, subst, ◌∙◌, arith, suc}
use Rattle.std.specs.List.{AllByRecursion}
use Rattle.std.proofs.lemmas.Bool.{cases_eq, cases_lt, eq-eqb, eqb-true, ne_eqb}
use Rattle.std.proofs.lemmas.List.{length-map, get_or-map}
use Rattle.std.proofs.lemmas.List.Elements.{All-nil}
use Rattle.std.proofs.lemmas.List.FromFn.{get_or-map-range_with_len}
use Rattle.std.proofs.lemmas.Nat.{div-add-mod', div-mul-add, mod-mul-add}
use Rattle.pair_colours.specs.Colouring.{PairColouring, IsColouring, Refines, colour_at, points}
use Rattle.pair_colours.specs.Closure.{Coherent}
use Rattle.pair_colours.specs.Naming.{walk, first_met, rank_of}
use Rattle.pair_colours.proofs.Closures.{Coherent-same}
use Rattle.pair_colours.proofs.Counts.{unit_of, count_by-cons, count_by-map, count_by_points}
use Rattle.pair_colours.proofs.ListLemmas.{Each-weaker, map_agree, Each-passed, filter_agree}
use Rattle.pair_colours.proofs.Names.{InSquare, Each-walk}
use Rattle.pair_colours.proofs.Places.{place_below, row_below, column_below}
use Rattle.trace_text.specs.declared.step_list.Step.{Step}
use Rattle.trace_text.specs.declared.step_list.Step.TheVariants.{Diag, Flip, Tri, Round}
use Rattle.trace_text.specs.Partition.{IsPartition}
use Rattle.trace_text.specs.Split.{HasParts, IsAllowed, numbers_of, split_of}
use Rattle.trace_text.specs.Parts.{keys_in}
use Rattle.trace_text.specs.Versions.{HasStep}
use Rattle.trace_text.proofs.Partitions.{UsesBelow, rank_from_used, IsPartition-from_used}
use Rattle.split_cells.specs.declared.classed_pairs.ClassedPairs.{ClassedPairs}
use Rattle.split_cells.specs.declared.labels.Labels.{Labels}
use Rattle.split_cells.specs.Grids.{IsUsed, grid}
use Rattle.split_cells.specs.Pairs.{IsClassed, partition_of}
use Rattle.split_cells.specs.Keys.{class_of, key_inside, key_at, counts_in}
use Rattle.split_cells.specs.Faults.{NamesBelow, SplitsTwo}
use Rattle.split_cells.specs.Parts.{IsParted, part_from, smaller_counts}
use Rattle.split_cells.specs.Labels.{AreLabels, shown_by, step_shown_by}
use Rattle.split_cells.specs.Kept.{IsShown, shown_of}
use Rattle.split_cells.proofs.PartLemmas.{IsUsed-few}
use Rattle.split_cells.proofs.OneClassSteps.{one_class_shown, SplitsTwo-one_class}
use Rattle.split_cells.proofs.CellLemmas.{keys_before, keys_of_counts, split_by_places, parts_from_keys, names_class}
use Rattle.split_cells.proofs.FaultSteps.{SplitsTwo-parts, names_one, names_two, names_three}

-- tests that agree on the elements count the same elements
count_each : (p q : ℕ → Bool) (xs : List ℕ) → AllByRecursion (λ x. p x ≡ q x) xs → count_by p xs ≡ count_by q xs
count_each p q [] a = refl
count_each p q (x ∷ xs) a = omega (arith, count_by-cons p x xs, count_by-cons q x xs, ap unit_of a.0, count_each p q xs a.1)

-- what holds at each place holds of each element
Each-from_places : (xs : List ℕ) (R : ℕ → Type 0) → ((i : ℕ) → i < length xs → R (get_or xs i 0)) → AllByRecursion R xs
Each-from_places [] R h = tt
Each-from_places (x ∷ xs) R h = (h 0 (omega arith), Each-from_places xs R (λ i l. h (suc i) (omega (arith, l))))

module _ {pairs : ClassedPairs} {labels : Labels} (h : IsShown pairs labels) where
  abbrev n : ℕ
  n = pairs.size

  abbrev class : List ℕ
  class = pairs.parting.class.items

  abbrev rank : ℕ
  rank = pairs.parting.rank

  abbrev outer : ℕ → ℕ
  outer k = get_or labels.outer.items k 0

  abbrev inner : ℕ → ℕ
  inner v = get_or labels.inner.items v 0

  abbrev Q : PairColouring
  Q = partition_of pairs

  abbrev P : PairColouring
  P = shown_of pairs labels

  pub all_pairs : length class ≡ n * n
  all_pairs = h.classed.parting.classes ∙ h.classed.bound

  pub low : (p : ℕ) → p < n * n → get_or class p 0 < rank
  low p l = h.classed.parting.class_in p (omega (arith, l, h.classed.bound))

  pub few_classes : rank ≤ n * n
  few_classes = omega (arith, IsUsed-few class rank h.used, all_pairs)

  -- the numbers below the rank are shown by each other
  one : (k j : ℕ) → k < n * n → j < n * n → outer k ≡ outer j → k ≡ j
  one k j lk lj e = sym (h.numbers.inverse.back k lk) ∙ ap inner e ∙ h.numbers.inverse.back j lj

  pub outer_low : (k : ℕ) → k < rank → outer k < rank
  outer_low k l =
      let lk : k < n * n = omega (arith, l, few_classes) in
      ⊎_elim
      (λ b. b)
      (λ b.
      let fixed = h.numbers.rest (outer k) b (h.numbers.inverse.outer_in k lk) in
      let same = one (outer k) k (h.numbers.inverse.outer_in k lk) lk fixed in
      absurd (omega (arith, b, same, l)))
      (cases_lt (outer k) rank)

  pub inner_low : (v : ℕ) → v < rank → inner v < rank
  inner_low v l =
      let lv : v < n * n = omega (arith, l, few_classes) in
      ⊎_elim
      (λ b. b)
      (λ b.
      let fixed = h.numbers.rest (inner v) b (h.numbers.inverse.inner_in v lv) in
      absurd (omega (arith, b, fixed, h.numbers.inverse.forth v lv, l)))
      (cases_lt (inner v) rank)

  test : (k j : ℕ) → k < rank → j < rank → (outer k == outer j) ≡ (k == j)
  test k j lk lj =
      ⊎_elim
      (λ e. eq-eqb _ _ (ap outer e) ∙ sym (eq-eqb _ _ e))
      (λ ne. ne_eqb _ _ (λ e. ne (one k j (omega (arith, lk, few_classes)) (omega (arith, lj, few_classes)) e)) ∙ sym (ne_eqb _ _ ne))
      (cases_eq k j)

  -- the classes as they are shown
  pub shown_at : (p : ℕ) → p < n * n → get_or P.colours p 0 ≡ outer (get_or class p 0)
  shown_at p l = get_or-map outer class p 0 0 (omega (arith, l, all_pairs))

  colour : (x y : ℕ) → x < n → y < n → colour_at P x y ≡ outer (colour_at Q x y)
  colour x y hx hy = shown_at (x * n + y) (place_below n x y hx hy)

  colour_low : (x y : ℕ) → x < n → y < n → colour_at Q x y < rank
  colour_low x y hx hy = low (x * n + y) (place_below n x y hx hy)

  IsColouring-inner : IsColouring Q
  IsColouring-inner = record { has_points = h.classed.some; has_pairs = all_pairs }

  pub IsColouring-shown : IsColouring P
  IsColouring-shown = record { has_points = h.classed.some; has_pairs = length-map class outer ∙ all_pairs }

  UsesBelow-shown : UsesBelow P rank
  UsesBelow-shown = record {
    below = λ x y hx hy. omega (arith, colour x y hx hy, outer_low (colour_at Q x y) (colour_low x y hx hy));
    used = λ v l.
        let u = h.used (inner v) (inner_low v l) in
        let inside : u.number < n * n = omega (arith, u.inside, all_pairs) in
        let back : u.number / n * n + u.number % n ≡ u.number = div-add-mod' u.number n in
        record {
          x = u.number / n;
          y = u.number % n;
          row = row_below n u.number h.classed.some inside;
          column = column_below n u.number h.classed.some;
          is = ap (λ q. get_or P.colours q 0) back ∙ shown_at u.number inside ∙ ap outer u.member ∙ h.numbers.inverse.forth v (omega (arith, l, few_classes));
        };
  }

  pub rank_shown : rank_of P ≡ rank
  rank_shown = rank_from_used P rank UsesBelow-shown

  pub IsPartition-shown : IsPartition P
  IsPartition-shown = IsPartition-from_used P rank IsColouring-shown UsesBelow-shown

  -- both have the same classes
  shown-refines : Refines P Q
  shown-refines = record {
    sizes = refl;
    classes = λ x y u v hx hy hu hv e.
        one (colour_at Q x y) (colour_at Q u v) (omega (arith, colour_low x y hx hy, few_classes)) (omega (arith, colour_low u v hu hv, few_classes)) (sym (colour x y hx hy) ∙ e ∙ colour u v hu hv);
  }

  refines-shown : Refines Q P
  refines-shown = record { sizes = refl; classes = λ x y u v hx hy hu hv e. colour x y hx hy ∙ ap outer e ∙ sym (colour u v hu hv) }

  pub Coherent-shown : Coherent Q → Coherent P
  Coherent-shown c = Coherent-same Q P IsColouring-inner c refines-shown shown-refines

  -- a step on one class with the numbers that are shown has the same keys
  class_shown : (s : Step) → HasStep 1 s → class_of (step_shown_by labels.outer.items s) ≡ outer (class_of s)
  class_shown (Diag k) one = refl
  class_shown (Flip k other) one = refl
  class_shown (Tri k left right) one = refl
  class_shown Round one = absurd (omega (arith, one))

  colour_test : (x y k : ℕ) → x < n → y < n → k < rank → (colour_at P x y == outer k) ≡ (colour_at Q x y == k)
  colour_test x y k hx hy l = ap (λ w. w == outer k) (colour x y hx hy) ∙ test (colour_at Q x y) k (colour_low x y hx hy) l

  key_shown : (s : Step) → NamesBelow rank s → (x y : ℕ) → x < n → y < n → key_inside P (step_shown_by labels.outer.items s) x y ≡ key_inside Q s x y
  key_shown (Diag k) names x y hx hy = refl
  key_shown (Flip k other) names x y hx hy = ap (λ b. if b then 0 else 1) (colour_test y x other hy hx (names 1 0 (omega arith)))
  key_shown (Tri k left right) names x y hx hy =
      count_by_points (λ z. (colour_at P x z == outer left) && (colour_at P z y == outer right)) (λ z. (colour_at Q x z == left) && (colour_at Q z y == right)) n
      (λ z hz.
      let a = colour_test x z left hx hz (names 1 0 (omega arith)) in
      let b = colour_test z y right hz hy (names 2 0 (omega arith)) in
      λ i. a i && b i)
  key_shown Round names x y hx hy = refl

  pub key_shown_at : (s : Step) → NamesBelow rank s → (p : ℕ) → p < n * n → key_at P (step_shown_by labels.outer.items s) p ≡ key_at Q s p
  key_shown_at s names p l = key_shown s names (p / n) (p % n) (row_below n p h.classed.some l) (column_below n p h.classed.some)

  module _ (s : Step) (one_class : HasStep 1 s) (names : NamesBelow rank s) (counts : List ℕ) (inside : (p : ℕ) → p < length class → get_or class p 0 ≡ class_of s → get_or counts p 0 ≡ key_at Q s p) where
    abbrev shown : Step
    shown = step_shown_by labels.outer.items s

    abbrev k : ℕ
    k = class_of s

    k_low : k < rank
    k_low = names_class rank s one_class names

    pub keys_shown : keys_in P (class_of shown) (key_inside P shown) ≡ counts_in n class counts k
    keys_shown =
        ap (λ c. keys_in P c (key_inside P shown)) (class_shown s one_class)
        ∙ ap (λ ps. first_met (map key_of ps)) (filter_agree in_shown in_class (walk n) (Each-weaker (InSquare n) (λ p. in_shown p ≡ in_class p) (λ p q. colour_test p.0 p.1 k q.0 q.1 k_low) (walk n) (Each-walk n)))
        ∙ ap first_met (map_agree key_of count_of (filter in_class (walk n))
        (Each-weaker (λ p. InSquare n p × (in_class p ≡ true)) (λ p. key_of p ≡ count_of p)
        (λ p q.
        let x = p.0 in
        let y = p.1 in
        key_shown s names x y q.0.0 q.0.1
        ∙ sym (inside (x * n + y) (omega (arith, all_pairs, place_below n x y q.0.0 q.0.1)) (eqb-true _ k q.1) ∙ (λ i. key_inside Q s (div-mul-add x n y q.0.1 i) (mod-mul-add x n y q.0.1 i))))
        (filter in_class (walk n))
        (Each-passed (InSquare n) in_class (walk n) (Each-walk n))))
      where
        in_shown : ℕ × ℕ → Bool
        in_shown p = colour_at P p.0 p.1 == outer k

        in_class : ℕ × ℕ → Bool
        in_class p = colour_at Q p.0 p.1 == k

        key_of : ℕ × ℕ → ℕ
        key_of p = key_inside P shown p.0 p.1

        count_of : ℕ × ℕ → ℕ
        count_of p = get_or counts (p.0 * n + p.1) 0

    pub parts_shown : HasParts P shown ↔ (2 ≤ length (counts_in n class counts k))
    parts_shown =
        let two = parts_from_keys P shown (one_class_shown labels.outer.items s one_class) in
        (λ x. subst (λ l. 2 ≤ length l) keys_shown (two.0 x), λ x. two.1 (subst (λ l. 2 ≤ length l) (sym keys_shown) x))

    -- how many keys are below that of a pair of the class
    pub before_shown : (p : ℕ) → p < n * n → get_or class p 0 ≡ k → keys_before P shown (key_at P shown p) ≡ smaller_counts n class counts k (get_or counts p 0)
    before_shown p l e =
        let key : key_at P shown p ≡ get_or counts p 0 = key_shown_at s names p l ∙ sym (inside p (omega (arith, l, all_pairs)) e) in
        λ i. count_by (λ other. nat_lt other (key i)) (keys_shown i)

    -- the pairs of the class that is shown
    pub member_shown : (p : ℕ) → p < n * n → get_or P.colours p 0 ≡ class_of shown → get_or class p 0 ≡ k
    member_shown p l e =
        one (get_or class p 0) k (omega (arith, low p l, few_classes)) (omega (arith, k_low, few_classes)) (sym (shown_at p l) ∙ e ∙ class_shown s one_class)

    -- what the step makes, with new numbers that are shown as the parts want it
    pub split_shown : (new labelled : List ℕ) → length new ≡ n * n
        → ((p : ℕ) → p < n * n → get_or class p 0 ≢ k → get_or labelled (get_or new p 0) 0 ≡ outer (get_or class p 0))
        → ((p : ℕ) → p < n * n → get_or class p 0 ≡ k → get_or labelled (get_or new p 0) 0 ≡ part_from rank (outer k) (smaller_counts n class counts k (get_or counts p 0)))
        → shown_by labelled (grid n new) ≡ split_of P shown
    split_shown new labelled len others parts =
        split_by_places P shown (map (λ c. get_or labelled c 0) new) (one_class_shown labels.outer.items s one_class) IsColouring-shown (length-map new (λ c. get_or labelled c 0) ∙ len)
        (λ p l ne. get_or-map (λ c. get_or labelled c 0) new p 0 0 (omega (arith, l, len)) ∙ others p l (λ e. ne (shown_at p l ∙ ap outer e ∙ sym (class_shown s one_class))) ∙ sym (shown_at p l))
        (λ p l e.
        let member = member_shown p l e in
        get_or-map (λ c. get_or labelled c 0) new p 0 0 (omega (arith, l, len)) ∙ parts p l member
        ∙ (λ i. part_from (sym rank_shown i) (sym (class_shown s one_class) i) (sym (before_shown p l member) i)))

    -- the parts of a class, shown by the numbers as they are
    pub parted_shown : (new : List ℕ) → IsParted n class counts k rank new → ((p : ℕ) → p < n * n → get_or new p 0 < n * n) → shown_by labels.outer.items (grid n new) ≡ split_of P shown
    parted_shown new p fits =
        split_shown new labels.outer.items (p.len ∙ all_pairs)
        (λ q l ne. ap outer (p.others q (omega (arith, l, all_pairs)) ne))
        (λ q l e.
        let at = p.parts q (omega (arith, l, all_pairs)) e in
        ap outer at ∙ outer_part (smaller_counts n class counts k (get_or counts q 0)) (omega (arith, at, fits q l)))
      where
        outer_part : (m : ℕ) → part_from rank k m < n * n → outer (part_from rank k m) ≡ part_from rank (outer k) m
        outer_part m l =
            ⊎_elim
            (λ e. ap (λ b. outer (if b then k else rank + (m - 1))) (eq-eqb m 0 e) ∙ sym (ap (λ b. if b then outer k else rank + (m - 1)) (eq-eqb m 0 e)))
            (λ ne.
            let is : part_from rank k m ≡ rank + (m - 1) = ap (λ b. if b then k else rank + (m - 1)) (ne_eqb m 0 ne) in
            ap outer is ∙ h.numbers.rest (rank + (m - 1)) (omega arith) (omega (arith, is, l)) ∙ sym (ap (λ b. if b then outer k else rank + (m - 1)) (ne_eqb m 0 ne)))
            (cases_eq m 0)

    -- the same of the pairs in classes
    pub made_shown : (new : ClassedPairs) → IsClassed new → IsUsed new.parting.class.items new.parting.rank → new.size ≡ n → IsParted n class counts k rank new.parting.class.items
        → shown_of new labels ≡ split_of P shown
    made_shown new c used size p =
        ap (λ m. shown_by labels.outer.items (grid m new.parting.class.items)) size
        ∙ parted_shown new.parting.class.items p (λ q l.
        let inside : q < length new.parting.class.items = omega (arith, l, p.len, all_pairs) in
        omega (arith, c.parting.class_in q (omega (arith, inside, c.parting.classes)), IsUsed-few new.parting.class.items new.parting.rank used, p.len, all_pairs))

    pub made_parts : (result : Bool) → (IsTrue result ↔ (2 ≤ length (counts_in n class counts k))) → IsTrue result ↔ HasParts P shown
    made_parts result two = (λ e. parts_shown.1 (two.0 e), λ x. two.1 (parts_shown.0 x))

  -- the numbers that a step names are inner ones where those that are shown are below the rank
  names_inner_one : (j : ℕ) → j < n * n → outer j < rank → j < rank
  names_inner_one j l o = ⊎_elim (λ b. b) (λ b. let fixed = h.numbers.rest j b l in absurd (omega (arith, b, fixed, o))) (cases_lt j rank)

  pub names_inner : (s : Step) → All (λ number. number < n * n) (numbers_of s) → NamesBelow rank (step_shown_by labels.outer.items s) → NamesBelow rank s
  names_inner (Diag k) inside names = names_one rank k (names_inner_one k (inside 0 0 (omega arith)) (names 0 0 (omega arith)))
  names_inner (Flip k other) inside names =
      names_two rank k other (names_inner_one k (inside 0 0 (omega arith)) (names 0 0 (omega arith))) (names_inner_one other (inside 1 0 (omega arith)) (names 1 0 (omega arith)))
  names_inner (Tri k left right) inside names =
      names_three rank k left right (names_inner_one k (inside 0 0 (omega arith)) (names 0 0 (omega arith))) (names_inner_one left (inside 1 0 (omega arith)) (names 1 0 (omega arith)))
      (names_inner_one right (inside 2 0 (omega arith)) (names 2 0 (omega arith)))
  names_inner Round inside names = All-nil (λ number. number < rank)

  -- and the other way round
  names_shown : (s : Step) → NamesBelow rank s → NamesBelow rank (step_shown_by labels.outer.items s)
  names_shown (Diag k) names = names_one rank (outer k) (outer_low k (names 0 0 (omega arith)))
  names_shown (Flip k other) names = names_two rank (outer k) (outer other) (outer_low k (names 0 0 (omega arith))) (outer_low other (names 1 0 (omega arith)))
  names_shown (Tri k left right) names =
      names_three rank (outer k) (outer left) (outer right) (outer_low k (names 0 0 (omega arith))) (outer_low left (names 1 0 (omega arith))) (outer_low right (names 2 0 (omega arith)))
  names_shown Round names = All-nil (λ number. number < rank)

  -- a step that parts two pairs may be made as it is shown
  pub IsAllowed-shown : (s : Step) → SplitsTwo Q rank s → IsAllowed P (step_shown_by labels.outer.items s)
  IsAllowed-shown s f =
      let one_class = SplitsTwo-one_class Q rank s f in
      let counts : List ℕ = map (key_at Q s) (points (n * n)) in
      let inside : (p : ℕ) → p < length class → get_or class p 0 ≡ class_of s → get_or counts p 0 ≡ key_at Q s p =
      λ p l e. get_or-map-range_with_len (key_at Q s) 0 (n * n) p p 0 (omega (arith, l, all_pairs)) (omega arith) in
      let same = keys_of_counts n class counts s all_pairs inside in
      let two = (parts_from_keys Q s one_class).0 (SplitsTwo-parts n class rank s all_pairs f) in
      record {
        names = subst (λ r. NamesBelow r (step_shown_by labels.outer.items s)) (sym rank_shown) (names_shown s f.names);
        parts = (parts_shown s one_class f.names counts inside).1 (subst (λ l. 2 ≤ length l) (sym same) two);
      }

  -- with more classes the labels are labels still
  pub IsShown-more : (new : ClassedPairs) → IsClassed new → new.size ≡ n → IsUsed new.parting.class.items new.parting.rank → rank ≤ new.parting.rank → IsShown new labels
  IsShown-more new c size used more = record {
    classed = c;
    used = used;
    numbers = subst (λ m. AreLabels (m * m) new.parting.rank labels.outer.items labels.inner.items) (sym size)
        (record { inverse = h.numbers.inverse; rest = λ j l b. h.numbers.rest j (omega (arith, l, more)) b });
  }

  -- a class has as many pairs as it is shown to have
  pub shown_counted : (v k : ℕ) → v < rank → k ≡ inner v → count_by (λ c. c == v) P.colours ≡ count_by (λ c. c == k) class
  shown_counted v k l is =
      count_by-map (λ c. c == v) outer class
      ∙ count_each (λ c. outer c == v) (λ c. c == k) class (Each-from_places class (λ c. (outer c == v) ≡ (c == k)) (λ p b.
      let inside : p < n * n = omega (arith, b, all_pairs) in
      let lv = inner_low v l in
      ap (λ w. outer (get_or class p 0) == w) (sym (h.numbers.inverse.forth v (omega (arith, l, few_classes)))) ∙ test (get_or class p 0) (inner v) (low p inside) lv ∙ ap (λ w. get_or class p 0 == w) (sym is)))
