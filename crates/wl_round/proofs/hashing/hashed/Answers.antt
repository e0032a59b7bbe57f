use Rattle.std.proofs.Common.{◌≡◌, ℕ, ◌<◌, ⊎_elim, sym, subst, ◌∙◌, arith}
use Rattle.std.proofs.lemmas.Bool.{cases_eq}
use Rattle.pair_colours.specs.Colouring.{colour_at}
use Rattle.wl_round.specs.Hashes.{hash_at}
use Rattle.wl_round.proofs.HashLemmas.{KeepsTogether-from}
use Rattle.wl_round.proofs.hashing.hashed.Goals as goal

pub loop-x-preserved : goal.loop-x-preserved
loop-x-preserved c =
    let h = c.loop-x.invariant in
    let e = c.hash_row.ensures in
    let words = c.in_ok-words.words in
    let n = c.args.colouring.now.size in
    let to = λ (z : ℕ) (l : z < n). let k : z < c.loop-x.hashes.size = omega (arith, l, h.size) in k in
    let last : c.loop-x.x < n = omega (arith, c.loop-x-test.true, c.size-size.ensures.points) in
    record {
      size = e.size ∙ h.size;
      rows = λ x y lx ly. ⊎_elim
          (λ (s : x ≡ c.loop-x.x).
          subst (λ (z : ℕ). colour_at c.hash_row.new.hashes z y ≡ hash_at n words.lefts.items words.rights.items words.turned.items z y) (sym s)
          (subst (λ (m : ℕ). colour_at c.hash_row.new.hashes c.loop-x.x y ≡ hash_at m words.lefts.items words.rights.items words.turned.items c.loop-x.x y) h.size (e.row y (to y ly))))
          (λ ne. e.others x y (to x (omega (arith, lx, last))) (to y ly) ne ∙ h.rows x y (omega (arith, lx, ne)) ly)
          (cases_eq x c.loop-x.x);
    }

pub returns : goal.returns
returns c =
    let words = c.in_ok-words.words in
    let h = c.loop-x.invariant in
    KeepsTogether-from c.args.colouring.now words.lefts.items words.rights.items words.turned.items c.in_ok-words.ensures c.loop-x.hashes h.size
    (λ x y hx hy. h.rows x y (omega (arith, hx, c.loop-x-test.false, c.size-size.ensures.points)) hy)
