-- Counts of sums, place by place.
use Rattle.std.proofs.Common.{◌≡◌, ◌==◌, ℕ, ◌+◌, ◌-◌, ◌<◌, ◌≤◌, List, length, get_or, set, map, count_by, Option, Some, None, IfNone, ⊎_elim, refl, sym, ap, subst, ◌∙◌, arith}
use Rattle.std.proofs.lemmas.Bool.{cases_lt, eq-eqb, eqb-true, ne_eqb}
use Rattle.std.proofs.lemmas.List.{length-map}
use Rattle.std.proofs.lemmas.List.FromFn.{length-range_with_len}
use Rattle.pair_colours.specs.Colouring.{points}
use Rattle.pair_colours.proofs.Counts.{unit_of, count_more}
use Rattle.wl_round.specs.CodeCounts.{IsCountOf, sum_at, sum_count}
use Rattle.wl_round.proofs.OneWrite.{one_write}
use Rattle.wl_round.proofs.PointCounts.{counted_point, count_hit, same_counts, count_of_list}

-- how often a sum comes at the places before z
abbrev pub count_to : List ℕ → List ℕ → ℕ → ℕ → ℕ
count_to left right z code = count_by (λ w. sum_at left right w == code) (points z)

module _ (left right : List ℕ) where
  -- the count of one sum changes
  pub count_step : (z code : ℕ) → count_to left right (z + 1) code ≡ count_to left right z code + unit_of (sum_at left right z == code)
  count_step z code = sym (count_more (λ w. sum_at left right w == code) z (count_to left right z code) (count_to left right z code + unit_of (sum_at left right z == code)) refl refl)

  pub counted_more : (z v : ℕ) (counts : List ℕ) → sum_at left right z < length counts → v ≡ get_or counts (sum_at left right z) 0 + 1
      → ((code : ℕ) → get_or counts code 0 ≡ count_to left right z code) → (code : ℕ) → get_or (set counts (sum_at left right z) v) code 0 ≡ count_to left right (z + 1) code
  counted_more z v counts l e h code = one_write (λ w. w ≡ count_to left right (z + 1) code) counts (sum_at left right z) v code l
      (λ s. omega (arith, e, h code, ap (λ w. get_or counts w 0) s, count_step z code, ap unit_of (eq-eqb _ _ (sym s))))
      (λ ne. omega (arith, h code, count_step z code, ap unit_of (ne_eqb (sum_at left right z) code (λ f. ne (sym f)))))

  pub taken_more : (z v : ℕ) (old counts : List ℕ) → sum_at left right z < length counts → v + 1 ≡ get_or counts (sum_at left right z) 0
      → ((code : ℕ) → get_or counts code 0 + count_to left right z code ≡ get_or old code 0)
      → (code : ℕ) → get_or (set counts (sum_at left right z) v) code 0 + count_to left right (z + 1) code ≡ get_or old code 0
  taken_more z v old counts l e h code = one_write (λ w. w + count_to left right (z + 1) code ≡ get_or old code 0) counts (sum_at left right z) v code l
      (λ s. omega (arith, e, h code, ap (λ w. get_or counts w 0) s, count_step z code, ap unit_of (eq-eqb _ _ (sym s))))
      (λ ne. omega (arith, h code, count_step z code, ap unit_of (ne_eqb (sum_at left right z) code (λ f. ne (sym f)))))

  -- at a place the sum there comes once more
  pub comes_more : (z : ℕ) → z < length left → count_to left right z (sum_at left right z) < sum_count left right (sum_at left right z)
  comes_more z l =
      let m : ℕ = length left - z - 1 in
      let e : z + 1 + m ≡ length left = omega (arith, l) in
      subst (λ n. count_to left right z (sum_at left right z) < count_by (λ w. sum_at left right w == sum_at left right z) (points n)) e
      (count_hit (λ w. sum_at left right w == sum_at left right z) z m (eq-eqb _ _ refl))

  -- a sum that comes has a place
  pub sum_place : (code : ℕ) → 0 < sum_count left right code → (z : ℕ) × (z < length left) × (sum_at left right z ≡ code)
  sum_place code h = let p = counted_point (λ w. sum_at left right w == code) (length left) h in (p.0, p.1, eqb-true _ code p.2)

  -- where none comes more often, all come equally often
  pub none_exceeds : (want : List ℕ) → IsCountOf (length left) want → ((code : ℕ) → sum_count left right code ≤ get_or want code 0) → (code : ℕ) → sum_count left right code ≡ get_or want code 0
  none_exceeds want w h code =
      let sums : List ℕ = map (sum_at left right) (points (length left)) in
      let size : length sums ≡ length w.list = length-map (points (length left)) (sum_at left right) ∙ length-range_with_len 0 (length left) ∙ sym w.len in
      let same = same_counts sums w.list size (λ c. omega (arith, h c, w.is c, count_of_list (sum_at left right) (length left) c)) code in
      omega (arith, same, w.is code, count_of_list (sum_at left right) (length left) code)

  -- the counts of the sums before z are 0, and those of numbers that are no sums
  pub record IsClearedTo (z : ℕ) (counts : List ℕ) : Type 0 where
    pub done : (w : ℕ) → w < z → get_or counts (sum_at left right w) 0 ≡ 0
    pub others : (code : ℕ) → sum_count left right code ≡ 0 → get_or counts code 0 ≡ 0

  pub IsClearedTo-more : (z : ℕ) (counts : List ℕ) → sum_at left right z < length counts → IsClearedTo z counts → IsClearedTo (z + 1) (set counts (sum_at left right z) 0)
  IsClearedTo-more z counts l h = record {
    done = λ w b. one_write (λ v. v ≡ 0) counts (sum_at left right z) 0 (sum_at left right w) l (λ _. refl)
        (λ ne. h.done w (let n : (w ≡ z → ⊥) = λ e. ne (ap (sum_at left right) e) in omega (arith, b, n)));
    others = λ code e. one_write (λ v. v ≡ 0) counts (sum_at left right z) 0 code l (λ _. refl) (λ _. h.others code e);
  }

  pub all_cleared : (z : ℕ) (counts : List ℕ) → length left ≤ z → IsClearedTo z counts → (code : ℕ) → get_or counts code 0 ≡ 0
  all_cleared z counts e h code =
      ⊎_elim
      (λ some. let p = sum_place code some in ap (λ w. get_or counts w 0) (sym p.2) ∙ h.done p.0 (omega (arith, p.1, e)))
      (λ none. h.others code (omega (arith, none)))
      (cases_lt 0 (sum_count left right code))

-- what follows where there is none
pub IfNone-more : {X : Type 0} (o : Option X) (A B : Type 0) → (A → B) → IfNone o A → IfNone o B
IfNone-more None A B f a = f a
IfNone-more (Some x) A B f a = tt

pub IfNone-both : {X : Type 0} (o : Option X) (A B C : Type 0) → (A → B → C) → IfNone o A → IfNone o B → IfNone o C
IfNone-both None A B C f a b = f a b
IfNone-both (Some x) A B C f a b = tt
