use Rattle.std.proofs.Common.{◌≡◌, ◌==◌, ℕ, ◌+◌, ◌*◌, ◌%◌, ◌^◌, ◌<◌, get_or, sym, ap, subst, ⊎_elim, ◌∙◌, arith}
use Rattle.std.proofs.lemmas.Bool.{cases_eq}
use Rattle.pair_colours.specs.Colouring.{colour_at}
use Rattle.wl_round.specs.Hashes.{hash_at, hash_from}
use Rattle.wl_round.proofs.HashLemmas.{dot_of_rows}
use Rattle.wl_round.proofs.hashing.hash_row.Goals as goal

pub loop-y-preserved : goal.loop-y-preserved
loop-y-preserved c =
    let words = c.args.words.now in
    let n = c.args.hashes.now.size in
    let x = c.args.x in
    let y = c.loop-y.y in
    let h = c.loop-y.invariant in
    let size = c.size-size.ensures.points in
    let s = c.set.ensures in
    let to = λ (z : ℕ) (l : z < n). let k : z < c.loop-y.hashes.size = omega (arith, l, h.size) in k in
    let low = λ (z : ℕ) (l : z < n). let k : z < c.size-size.result = omega (arith, l, size) in k in
    let y_in : y < n = omega (arith, c.loop-y-test.true, size) in
    let left = λ (z : ℕ) (l : z < n). c.row_of-left.ensures.entries z (low z l) ∙ (λ i. get_or (c.deref.ensures.value i) (x * size i + z) 0) in
    let turned = c.row_of-turned.ensures.entries y (low y y_in) ∙ (λ i. get_or (c.deref-2.ensures.value i) (x * size i + y) 0) in
    let right = λ (z : ℕ) (l : z < n). c.row_of.ensures.entries z (low z l) ∙ (λ i. get_or (c.deref-in-loop-y.ensures.value i) (y * size i + z) 0) in
    let sides = c.dot-sides.ensures ∙ ap (λ t. t % 2 ^ 64) (dot_of_rows n x y words.lefts.items words.rights.items c.row_of-left.result.now c.row_of.result.now (c.row_of-left.ensures.len ∙ size) left right) in
    let hash : c.hash_from.result ≡ hash_at n words.lefts.items words.rights.items words.turned.items x y = c.hash_from.ensures ∙ (λ i. hash_from (sides i) (turned i) (x == y)) in
    record {
      size = s.points ∙ h.size;
      row = λ v lv. ⊎_elim
          (λ (e : v ≡ y). subst (λ (z : ℕ). colour_at c.set.new.self x z ≡ hash_at n words.lefts.items words.rights.items words.turned.items x z) (sym e) (s.pair ∙ hash))
          (λ ne. s.others x v (to x c.requires.row) (to v (omega (arith, lv, y_in))) (λ _. ne) ∙ h.row v (omega (arith, lv, ne)))
          (cases_eq v y);
      others = λ u v hu hv ne. s.others u v (to u hu) (to v hv) (λ e. absurd (ne e)) ∙ h.others u v hu hv ne;
    }
