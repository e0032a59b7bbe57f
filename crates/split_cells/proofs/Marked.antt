-- A class parted by marks, of which the marked pairs move.
use Rattle.std.proofs.Common.{◌≡◌, ◌≢◌, ◌↔◌, ◌⊎◌, ◌==◌, ◌&&◌, ℕ, ◌+◌, ◌*◌, ◌<◌, ◌≤◌, true, false, if◌then◌else◌, List, length, get_or, set, map, ⊎_elim, sym, ap, subst, ◌∙◌, arith}
use Rattle.std.proofs.lemmas.Bool.{cases_eq, cases_lt, eq-eqb, eqb-true, ne_eqb, and_from, and_parts}
use Rattle.std.proofs.lemmas.List.{length-map, get_or_past}
use Rattle.std.proofs.lemmas.List.FromFn.{length-range_with_len, get_or-map-range_with_len}
use Rattle.pair_colours.specs.Colouring.{PairColouring, points}
use Rattle.pair_colours.proofs.Reaching.{IsFirstBelow, first_below}
use Rattle.trace_text.specs.declared.step_list.Step.TheVariants.{Flip}
use Rattle.trace_text.specs.Split.{HasParts, split_of}
use Rattle.split_cells.specs.declared.classed_pairs.ClassedPairs.{ClassedPairs}
use Rattle.split_cells.specs.declared.labels.Labels.{Labels}
use Rattle.split_cells.specs.Grids.{HasMember, IsUsed, grid}
use Rattle.split_cells.specs.Pairs.{IsClassed, partition_of}
use Rattle.split_cells.specs.Keys.{IsGathered, IsKey, IsLeastKey, IsNext, key_at, counts_in}
use Rattle.split_cells.specs.Parts.{IsParted, part_from, smaller_counts}
use Rattle.split_cells.specs.Labels.{AreInverse, AreLabels, shown_by, step_shown_by}
use Rattle.split_cells.specs.Kept.{IsShown, shown_of}
use Rattle.split_cells.specs.Marks.{mark_at}
use Rattle.split_cells.proofs.GatherLemmas.{some_size, turned_at}
use Rattle.split_cells.proofs.PartLemmas.{IsUsed-few, below_least, below_next, one_key, two_keys}
use Rattle.split_cells.proofs.FaultSteps.{names_two}
use Rattle.split_cells.proofs.Labelled.{all_pairs, low, few_classes, parts_shown, split_shown}
use Rattle.split_cells.proofs.Exchanged.{outer_other, outer_k, outer_rest}

-- counts of a class that are 0 or 1, and 0 elsewhere
pub record IsMarking (class : List ℕ) (k : ℕ) (xs : List ℕ) : Type 0 where
  pub len : length xs ≡ length class
  pub small : (p : ℕ) → p < length class → get_or class p 0 ≡ k → get_or xs p 0 ≤ 1
  pub outside : (p : ℕ) → p < length class → get_or class p 0 ≢ k → get_or xs p 0 ≡ 0

module _ (n : ℕ) (class : List ℕ) (size : length class ≡ n * n) (k : ℕ) (xs : List ℕ) (m : IsMarking class k xs) where
  most : (p : ℕ) → get_or xs p 0 ≤ 1
  most p =
      ⊎_elim
      (λ l. ⊎_elim (λ e. m.small p l e) (λ ne. omega (arith, m.outside p l ne)) (cases_eq (get_or class p 0) k))
      (λ g. omega (arith, get_or_past xs p 0 (omega (arith, g, m.len))))
      (cases_lt p (length class))

  zero_key : IsKey class xs k 0 → IsLeastKey class xs k 0
  zero_key z = record { attained = z; least = λ p l e. omega arith }

  one_next : IsKey class xs k 1 → IsNext xs 0 1
  one_next o = record { above = omega arith; number = o.number; inside = omega (arith, o.inside, m.len); is = o.is; least = λ p l. l }

  pub below_zero : IsKey class xs k 0 → smaller_counts n class xs k 0 ≡ 0
  below_zero z = below_least n class size xs k 0 (zero_key z)

  pub below_one : IsKey class xs k 0 → IsKey class xs k 1 → smaller_counts n class xs k 1 ≡ 1
  below_one z o = omega (arith, below_next n class size xs k 0 1 z (one_next o), below_zero z)

  -- a pair of the class with this mark, or none
  found : (v : ℕ) → ((p : ℕ) × IsFirstBelow (λ p. (get_or class p 0 == k) && (get_or xs p 0 == v)) (length class) p) ⊎ ((p : ℕ) → p < length class → ((get_or class p 0 == k) && (get_or xs p 0 == v)) ≡ false)
  found v = first_below (λ p. (get_or class p 0 == k) && (get_or xs p 0 == v)) (length class)

  not_marked : (v p : ℕ) → ((get_or class p 0 == k) && (get_or xs p 0 == v)) ≡ false → get_or class p 0 ≡ k → get_or xs p 0 ≢ v
  not_marked v p e c f = let t : true ≡ false = sym (and_from _ _ (eq-eqb _ _ c) (eq-eqb _ _ f)) ∙ e in absurd cc

  key_from : (v : ℕ) (p : ℕ) → IsFirstBelow (λ p. (get_or class p 0 == k) && (get_or xs p 0 == v)) (length class) p → IsKey class xs k v
  key_from v p f =
      let both = and_parts (get_or class p 0 == k) (get_or xs p 0 == v) f.passes in
      record { number = p; inside = f.low; member = eqb-true _ k both.0; is = eqb-true _ v both.1 }

  -- two different marks are both marks
  pub both_marks : HasMember class k → 2 ≤ length (counts_in n class xs k) → IsKey class xs k 0 × IsKey class xs k 1
  both_marks some two = (
    ⊎_elim
        (λ f. key_from 0 f.0 f.1)
        (λ none.
        let all : (p : ℕ) → p < length class → get_or class p 0 ≡ k → get_or xs p 0 ≡ 1 = λ p l e. let ne = not_marked 0 p (none p l) e in omega (arith, ne, m.small p l e) in
        let one : IsKey class xs k 1 = record { number = some.number; inside = some.inside; member = some.member; is = all some.number some.inside some.member } in
        let few = one_key n class size xs k 1 one (below_least n class size xs k 1 (record { attained = one; least = λ p l e. omega (arith, all p l e) })) most in
        absurd (omega (arith, two, few)))
        (found 0),
    ⊎_elim
        (λ f. key_from 1 f.0 f.1)
        (λ none.
        let all : (p : ℕ) → get_or xs p 0 ≤ 0 = λ p. ⊎_elim
        (λ l. ⊎_elim (λ e. let ne = not_marked 1 p (none p l) e in omega (arith, ne, m.small p l e)) (λ ne. omega (arith, m.outside p l ne)) (cases_eq (get_or class p 0) k))
        (λ g. omega (arith, get_or_past xs p 0 (omega (arith, g, m.len))))
        (cases_lt p (length class)) in
        let zero : IsKey class xs k 0 = record { number = some.number; inside = some.inside; member = some.member; is = omega (arith, all some.number) } in
        let few = one_key n class size xs k 0 zero (below_zero zero) all in
        absurd (omega (arith, two, few)))
        (found 1),
  )

  pub two_marks : IsKey class xs k 0 → IsKey class xs k 1 → 2 ≤ length (counts_in n class xs k)
  two_marks z o = two_keys n class size xs k 1 o (omega (arith, below_one z o))

module _ {pairs : ClassedPairs} {labels : Labels} (h : IsShown pairs labels) (k other : ℕ) (lk : k < pairs.parting.rank) (lo : other < pairs.parting.rank)
    (marks : List ℕ) (g : IsGathered pairs.parting.class.items k (mark_at pairs other) marks) where
  abbrev n : ℕ
  n = pairs.size

  abbrev class : List ℕ
  class = pairs.parting.class.items

  abbrev rank : ℕ
  rank = pairs.parting.rank

  abbrev Q : PairColouring
  Q = partition_of pairs

  abbrev P : PairColouring
  P = shown_of pairs labels

  size : length class ≡ n * n
  size = all_pairs h

  -- the keys of the pairs of the class
  abbrev key_here : ℕ → ℕ
  key_here p = if get_or class p 0 == k then key_at Q (Flip k other) p else 0

  abbrev keys : List ℕ
  keys = map key_here (points (n * n))

  key_is : (p : ℕ) → p < n * n → get_or keys p 0 ≡ key_here p
  key_is p l = get_or-map-range_with_len key_here 0 (n * n) p p 0 l (omega arith)

  inside : (p : ℕ) → p < length class → get_or class p 0 ≡ k → get_or keys p 0 ≡ key_at Q (Flip k other) p
  inside p l e = key_is p (omega (arith, l, size)) ∙ ap (λ b. if b then key_at Q (Flip k other) p else 0) (eq-eqb _ _ e)

  -- a key is 0 where the mark is 1
  key_or_mark : (p : ℕ) → p < length class → get_or class p 0 ≡ k → get_or keys p 0 + get_or marks p 0 ≡ 1
  key_or_mark p l e =
      let hp : p < n * n = omega (arith, l, size) in
      let turned = turned_at n class pairs.turned.items h.classed.turned (some_size n p hp) p hp in
      ⊎_elim
      (λ f.
      let zero : key_at Q (Flip k other) p ≡ 0 = ap (λ b. if b then 0 else 1) (eq-eqb _ _ (sym turned ∙ f)) in
      let one : mark_at pairs other p ≡ 1 = ap (λ b. if b then 1 else 0) (eq-eqb _ _ f) in
      omega (arith, inside p l e, g.inside p l e, zero, one))
      (λ ne.
      let one : key_at Q (Flip k other) p ≡ 1 = ap (λ b. if b then 0 else 1) (ne_eqb _ _ (λ f. ne (turned ∙ f))) in
      let zero : mark_at pairs other p ≡ 0 = ap (λ b. if b then 1 else 0) (ne_eqb _ _ ne) in
      omega (arith, inside p l e, g.inside p l e, zero, one))
      (cases_eq (get_or pairs.turned.items p 0) other)

  IsMarking-marks : IsMarking class k marks
  IsMarking-marks = record { len = g.len; small = λ p l e. omega (arith, key_or_mark p l e); outside = g.outside }

  IsMarking-keys : IsMarking class k keys
  IsMarking-keys = record {
    len = length-map (points (n * n)) key_here ∙ length-range_with_len 0 (n * n) ∙ sym size;
    small = λ p l e. omega (arith, key_or_mark p l e);
    outside = λ p l ne. key_is p (omega (arith, l, size)) ∙ ap (λ b. if b then key_at Q (Flip k other) p else 0) (ne_eqb _ _ ne);
  }

  key_from_mark : (v w : ℕ) → v + w ≡ 1 → IsKey class marks k v → IsKey class keys k w
  key_from_mark v w e i = record { number = i.number; inside = i.inside; member = i.member; is = omega (arith, key_or_mark i.number i.inside i.member, i.is, e) }

  mark_from_key : (v w : ℕ) → v + w ≡ 1 → IsKey class keys k v → IsKey class marks k w
  mark_from_key v w e i = record { number = i.number; inside = i.inside; member = i.member; is = omega (arith, key_or_mark i.number i.inside i.member, i.is, e) }

  -- there are two keys exactly where there are two marks
  pub parts_marked : HasParts P (step_shown_by labels.outer.items (Flip k other)) ↔ (2 ≤ length (counts_in n class marks k))
  parts_marked =
      let shown = parts_shown h (Flip k other) tt (names_two rank k other lk lo) keys inside in
      let some = h.used k lk in (
        λ x.
            let b = both_marks n class size k keys IsMarking-keys some (shown.0 x) in
            two_marks n class size k marks IsMarking-marks (mark_from_key 1 0 (omega arith) b.1) (mark_from_key 0 1 (omega arith) b.0),
        λ x.
            let b = both_marks n class size k marks IsMarking-marks some x in
            shown.1 (two_marks n class size k keys IsMarking-keys (key_from_mark 1 0 (omega arith) b.1) (key_from_mark 0 1 (omega arith) b.0)),
      )

  -- the marked pairs have moved, and the numbers of the parts are exchanged
  module _ (two : 2 ≤ length (counts_in n class marks k)) (new : ClassedPairs) (c : IsClassed new) (same : new.size ≡ n) (used : IsUsed new.parting.class.items new.parting.rank)
      (p : IsParted n class marks k rank new.parting.class.items) (first second : ℕ) (f : first ≡ get_or labels.outer.items k 0) (s : second ≡ get_or labels.outer.items rank 0) where
    abbrev outers : List ℕ
    outers = set (set labels.outer.items k second) rank first

    abbrev inners : List ℕ
    inners = set (set labels.inner.items first rank) second k

    both : IsKey class marks k 0 × IsKey class marks k 1
    both = both_marks n class size k marks IsMarking-marks (h.used k lk) two

    part_one : part_from rank k 1 ≡ rank
    part_one = omega arith

    -- where a marked pair and another one are now
    marked_at : (q : ℕ) → q < length class → get_or class q 0 ≡ k → get_or marks q 0 ≡ 1 → get_or new.parting.class.items q 0 ≡ rank
    marked_at q l e m =
        p.parts q l e ∙ ap (λ v. part_from rank k (smaller_counts n class marks k v)) m ∙ ap (part_from rank k) (below_one n class size k marks IsMarking-marks both.0 both.1) ∙ part_one

    other_at : (q : ℕ) → q < length class → get_or class q 0 ≡ k → get_or marks q 0 ≡ 0 → get_or new.parting.class.items q 0 ≡ k
    other_at q l e m = p.parts q l e ∙ ap (λ v. part_from rank k (smaller_counts n class marks k v)) m ∙ ap (part_from rank k) (below_zero n class size k marks IsMarking-marks both.0)

    pub rank_more : rank < new.parting.rank
    rank_more =
        let o = both.1 in
        omega (arith, marked_at o.number o.inside o.member o.is, c.parting.class_in o.number (omega (arith, o.inside, p.len, c.parting.classes)))

    pub room : rank < n * n
    room = omega (arith, rank_more, IsUsed-few new.parting.class.items new.parting.rank used, p.len, size)

    k_in : k < n * n
    k_in = omega (arith, lk, few_classes h)

    apart : k ≢ rank
    apart e = omega (arith, e, lk)

    fixed : second ≡ rank
    fixed = s ∙ h.numbers.rest rank (omega arith) room

    pub IsShown-exchanged : (next : Labels) → next.outer.items ≡ outers → AreInverse (n * n) next.outer.items next.inner.items → IsShown new next
    IsShown-exchanged next e i = record {
      classed = c;
      used = used;
      numbers = subst (λ m. AreLabels (m * m) new.parting.rank next.outer.items next.inner.items) (sym same) (record {
        inverse = i;
        rest = λ j l b.
            ap (λ xs. get_or xs j 0) e
            ∙ outer_rest (n * n) labels.outer.items labels.inner.items h.numbers.inverse k rank first second k_in room apart f s j (λ w. omega (arith, w, lk, rank_more, l)) (λ w. omega (arith, w, rank_more, l))
            ∙ h.numbers.rest j (omega (arith, l, rank_more)) b;
      });
    }

    pub exchanged_shown : shown_by outers (grid n new.parting.class.items) ≡ split_of P (step_shown_by labels.outer.items (Flip k other))
    exchanged_shown =
        split_shown h (Flip k other) tt (names_two rank k other lk lo) keys inside new.parting.class.items outers (p.len ∙ size)
        (λ q l ne.
        let old = p.others q (omega (arith, l, size)) ne in
        ap (λ j. get_or outers j 0) old
        ∙ outer_rest (n * n) labels.outer.items labels.inner.items h.numbers.inverse k rank first second k_in room apart f s (get_or class q 0) ne (λ w. omega (arith, w, low h q l)))
        (λ q l e.
        let lq : q < length class = omega (arith, l, size) in
        let sum = key_or_mark q lq e in
        ⊎_elim
        (λ m.
        let key : get_or keys q 0 ≡ 0 = omega (arith, sum, m) in
        ap (λ j. get_or outers j 0) (marked_at q lq e m)
        ∙ outer_other (n * n) labels.outer.items labels.inner.items h.numbers.inverse k rank first second k_in room apart f s ∙ f
        ∙ sym (ap (λ v. part_from rank (get_or labels.outer.items k 0) (smaller_counts n class keys k v)) key
        ∙ ap (part_from rank (get_or labels.outer.items k 0)) (below_zero n class size k keys IsMarking-keys (key_from_mark 1 0 (omega arith) both.1))))
        (λ ne.
        let m : get_or marks q 0 ≡ 0 = omega (arith, sum, ne) in
        let key : get_or keys q 0 ≡ 1 = omega (arith, sum, m) in
        let one : part_from rank (get_or labels.outer.items k 0) 1 ≡ rank = omega arith in
        ap (λ j. get_or outers j 0) (other_at q lq e m)
        ∙ outer_k (n * n) labels.outer.items labels.inner.items h.numbers.inverse k rank first second k_in room apart f s ∙ fixed
        ∙ sym (ap (λ v. part_from rank (get_or labels.outer.items k 0) (smaller_counts n class keys k v)) key
        ∙ ap (part_from rank (get_or labels.outer.items k 0)) (below_one n class size k keys IsMarking-keys (key_from_mark 1 0 (omega arith) both.1) (key_from_mark 0 1 (omega arith) both.0)) ∙ one))
        (cases_eq (get_or marks q 0) 1))
