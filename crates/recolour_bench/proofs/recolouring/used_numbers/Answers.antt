use Rattle.std.proofs.Common.{◌≡◌, ◌<◌, ◌+◌, ◌*◌, length, get_or, sym, ap, ◌∙◌, arith}
use Rattle.std.proofs.lemmas.List.{length-set}
use Rattle.pair_colours.proofs.Places.{place_below}
use Rattle.recolour_bench.proofs.Unused.{AreFlags-set, AreFlags-kept, AreFlags-whole}
use Rattle.recolour_bench.proofs.recolouring.used_numbers.Goals as goal
use Rattle.recolour_bench.proofs.recolouring.used_numbers.Goals.{then-colour-len, else-colour-len}

pub loop-y-preserved : goal.loop-y-preserved
loop-y-preserved c =
    let C = c.args.colouring.now in
    let x = c.loop-x.x in
    let y = c.loop-y.y in
    let size = c.size-size.result in
    let n : size ≡ C.size = c.size-size.ensures.points in
    let place = x * size + y in
    let below : place < length C.colours =
    omega (arith, c.size-size.ensures.within.colouring.has_pairs, place_below size x y (omega arith) (omega arith), ap (λ m. m * m) n) in
    let here : c.get-colour.result ≡ get_or C.colours place 0 = c.get-colour.ensures ∙ ap (λ m. get_or C.colours (x * m + y) 0) (sym n) in
    let next : x * size + (y + 1) ≡ place + 1 = omega arith in
    let old = c.loop-y.used.items in
    elim c.if-colour-len.branch [
      | then-colour-len w ↦
          let items = ap (λ v. v.items) w.used-is in
          let len : length c.if-colour-len.used.items ≡ length old = ap length items ∙ length-set old c.get-colour.result _ in
          record {
            len = len ∙ c.loop-y.invariant.len;
            flags = AreFlags-set old c.if-colour-len.used.items C.colours place (x * size + (y + 1)) c.get-colour.result below next here (omega (arith, w.if-colour-len.true, c.len.ensures, c.loop-y.used.ok)) items len c.loop-y.invariant.flags;
          }
      | else-colour-len w ↦
          let items = ap (λ v. v.items) w.used-is in
          record {
            len = ap length items ∙ c.loop-y.invariant.len;
            flags = AreFlags-kept old c.if-colour-len.used.items C.colours place (x * size + (y + 1)) c.get-colour.result below next here (omega (arith, w.if-colour-len.false, c.len.ensures, c.loop-y.used.ok)) items c.loop-y.invariant.flags;
          }
    ]

pub returns-clause-used : goal.returns-clause-used
returns-clause-used c =
    let C = c.args.colouring.now in
    let end : c.loop-x.x ≡ C.size = omega arith in
    let n : c.size-size.result ≡ C.size = c.size-size.ensures.points in
    AreFlags-whole C c.size-size.ensures.within.colouring c.loop-x.used.items (c.loop-x.x * c.size-size.result) (λ i. end i * n i) c.loop-x.invariant.flags
