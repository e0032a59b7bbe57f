-- A search by halves in a rising row.
use Rattle.std.proofs.Common.{◌≡◌, ◌==◌, ◌&&◌, ltb, ℕ, ◌<◌, ◌≤◌, true, List, length, get_or, AllPairs, ◌⊎◌, inl, inr, ⊎_elim, refl, sym, ap, subst, ◌∙◌, arith}
use Rattle.std.specs.List.Sorted.{IsPartitionedBy}
use Rattle.std.proofs.lemmas.Bool.{cases_lt, cases_order, or_cases, or_left, or_right, and_parts, and_from, ltb-true, lt-ltb, eqb-true, eq-eqb, both_ways}
use Rattle.std.proofs.lemmas.List.{get_or_default}
use Rattle.triangle_count.specs.declared.rows.Entry.{Entry}
use Rattle.triangle_count.specs.Row.{Precedes}
use Rattle.struct_consts.specs.Lookup.{is_before, IsPlaceIn, IsOf, IsCountIn}

before_from : (left right : ℕ) (e : Entry) → is_before left right e ≡ true → (e.left < left) ⊎ ((e.left ≡ left) × (e.right < right))
before_from left right e h = ⊎_elim
    (λ a. inl (ltb-true e.left left a))
    (λ b. let p = and_parts (e.left == left) (ltb e.right right) b in inr (eqb-true e.left left p.0, ltb-true e.right right p.1))
    (or_cases (ltb e.left left) ((e.left == left) && ltb e.right right) h)

to_before : (left right : ℕ) (e : Entry) → (e.left < left) ⊎ ((e.left ≡ left) × (e.right < right)) → is_before left right e ≡ true
to_before left right e h = ⊎_elim
    (λ a. or_left (ltb e.left left) _ (lt-ltb e.left left a))
    (λ b. or_right (ltb e.left left) _ (and_from (e.left == left) (ltb e.right right) (eq-eqb e.left left b.0) (lt-ltb e.right right b.1)))
    h

Precedes-trans : (left right : ℕ) (e f : Entry) → Precedes e f → is_before left right f ≡ true → is_before left right e ≡ true
Precedes-trans left right e f p h = to_before left right e
    (⊎_elim
    (λ (a : e.left < f.left). ⊎_elim (λ (b : f.left < left). inl (omega arith)) (λ b. inl (omega (arith, b.0))) (before_from left right f h))
    (λ a. ⊎_elim (λ (b : f.left < left). inl (omega (arith, a.0))) (λ b. inr (a.0 ∙ b.0, omega (arith, a.1, b.1))) (before_from left right f h))
    p)

-- the entries before the place of two colours come first
pub before_is_partitioned : (entries : List Entry) (left right : ℕ) → AllPairs Precedes entries → IsPartitionedBy (is_before left right) entries
before_is_partitioned entries left right rises i j d le l h = ⊎_elim
    (λ (m : i < j). Precedes-trans left right (get_or entries i d) (get_or entries j d) (rises i j d m l) h)
    (λ (m : j ≤ i). let same : i ≡ j = omega arith in subst (λ n. is_before left right (get_or entries n d) ≡ true) (sym same) h)
    (cases_lt i j)

not_before_itself : (left right : ℕ) (e : Entry) → IsOf left right e → is_before left right e ≡ true → ⊥
not_before_itself left right e o h = ⊎_elim (λ (a : e.left < left). omega (arith, a, o.0)) (λ b. omega (arith, b.1, o.1)) (before_from left right e h)

-- the entry of two colours can only stand where the search ends
only_place : (entries : List Entry) (left right place : ℕ) (d : Entry) → AllPairs Precedes entries
    → IsPlaceIn entries left right place
    → (k : ℕ) → k < length entries → IsOf left right (get_or entries k d) → k ≡ place
only_place entries left right place d rises point k l o = ⊎_elim
    (λ same. same)
    (λ other. ⊎_elim
    (λ (m : k < place). absurd (not_before_itself left right (get_or entries k d) o (point.0 k d (omega arith) m)))
    (λ (m : place < k).
    let p = rises place k d m l in
    let before : is_before left right (get_or entries place d) ≡ true = to_before left right (get_or entries place d) (⊎_elim (λ a. inl (omega (arith, a, o.0))) (λ a. inr (a.0 ∙ o.0, omega (arith, a.1, o.1))) p) in
    absurd (both_ways _ (point.1 place d (omega arith) (omega arith)) before))
    other)
    (cases_order k place)

-- what the search finds
pub count_found : (entries : List Entry) (left right place : ℕ) (d : Entry) → AllPairs Precedes entries
    → IsPlaceIn entries left right place
    → place < length entries → (get_or entries place d).left ≡ left → (get_or entries place d).right ≡ right → IsCountIn entries left right (get_or entries place d).count
count_found entries left right place d rises point l left_is right_is = record {
  there = λ k b m o.
      let same = only_place entries left right place b rises point k m o in
      ap (λ (f : Entry). f.count) (get_or_default entries place d b l ∙ ap (λ n. get_or entries n b) (sym same));
  absent = λ none. absurd (none place d l (left_is, right_is));
}

pub count_missing : (entries : List Entry) (left right place : ℕ) (d : Entry) → AllPairs Precedes entries
    → IsPlaceIn entries left right place
    → (place < length entries → IsOf left right (get_or entries place d) → ⊥) → IsCountIn entries left right 0
count_missing entries left right place d rises point fails = record {
  there = λ k b m o.
      let same = only_place entries left right place b rises point k m o in
      let low : place < length entries = omega (arith, m, same) in
      absurd (fails low (subst (IsOf left right) (ap (λ n. get_or entries n b) same ∙ get_or_default entries place b d low) o));
  absent = λ none. refl;
}
