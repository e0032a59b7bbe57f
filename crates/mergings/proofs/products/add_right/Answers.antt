use Rattle.std.proofs.Common.{◌≡◌, ◌==◌, ◌+◌, ◌*◌, ◌%◌, ◌^◌, ◌<◌, ◌≤◌, slice_index, ⊎_elim, subst, ◌∙◌, arith}
use Rattle.std.proofs.lemmas.Bool.{cases_lt, cases_eq, eq-eqb, ne_eqb}
use Rattle.mergings.proofs.Folds.{fold_yes, fold_no}
use Rattle.mergings.proofs.products.add_right.Goals as goal

pub loop-j-init : goal.loop-j-init
loop-j-init c = record { len = c.requires.sums; each = λ y k ly lk. c.requires.zero (y * 16 + k) (omega (arith, ly, lk)) }

pub add_row-requires-clause-rows : goal.add_row-requires-clause-rows
add_row-requires-clause-rows c = omega (arith, c.loop-j-test.true, c.requires.small, c.requires.rows)

pub add_row-requires-clause-sums : goal.add_row-requires-clause-sums
add_row-requires-clause-sums c = omega (arith, c.requires.low c.loop-j.j c.loop-j-test.true, c.loop-j-test.true, c.requires.small, c.loop-j.invariant.len)

pub loop-j-preserved : goal.loop-j-preserved
loop-j-preserved c =
    let heads = c.args.heads.now in
    let rows = c.args.rows.now in
    let j = c.loop-j.j in
    let head = slice_index heads j in
    let now = c.loop-j.sums in
    let new = c.add_row.new.sums in
    let h = c.loop-j.invariant in
    record {
      len = c.add_row.ensures.len ∙ h.len;
      each = λ y k ly lk. ⊎_elim
          (λ (e : head ≡ y). fold_yes (λ d. slice_index heads d == y) (λ d. slice_index rows (d * 16 + k)) j (slice_index now (y * 16 + k)) (slice_index new (y * 16 + k)) (eq-eqb _ _ e) (h.each y k ly lk)
          (subst (λ z. slice_index new (z * 16 + k) ≡ (slice_index now (z * 16 + k) + slice_index rows (j * 16 + k)) % 2 ^ 32) e (c.add_row.ensures.each k lk)))
          (λ (ne : head ≡ y → ⊥). fold_no (λ d. slice_index heads d == y) (λ d. slice_index rows (d * 16 + k)) j (slice_index now (y * 16 + k)) (slice_index new (y * 16 + k)) (ne_eqb _ _ ne) (h.each y k ly lk)
          (⊎_elim
          (λ (m : y < head). c.add_row.ensures.below (y * 16 + k) (omega (arith, m, lk)))
          (λ (m : head ≤ y). c.add_row.ensures.above (y * 16 + k) (omega (arith, m, ne, lk)))
          (cases_lt y head)))
          (cases_eq head y);
    }
