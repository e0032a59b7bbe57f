use Rattle.std.proofs.Common.{ℕ, ◌+◌, ◌*◌, ◌<◌, ◌≤◌, get_or, refl, sym, subst, ◌∙◌, arith}
use Rattle.pair_colours.specs.Colouring.{colour_at}
use Rattle.pair_colours.proofs.Places.{place_below}
use Rattle.quotients.proofs.Filling.{IsMetTo, met_kept, met_set, met_whole}
use Rattle.quotients.proofs.meeting.least_met.Goals as goal
use Rattle.quotients.proofs.meeting.least_met.Goals.{then-colour-get, else-colour-get}

pub loop-y-preserved : goal.loop-y-preserved
loop-y-preserved c =
    let K = c.args.k.now in
    let ls = c.args.leasts.now in
    let x = c.loop-x.x in
    let y = c.loop-y.y in
    let k = x * K.size + (y + 1) in
    let hx : x < K.size = omega arith in
    let hy : y < K.size = omega arith in
    let points : (u : ℕ) → u < K.size → get_or ls u 0 < K.size = λ u l. c.requires.points u 0 (omega (arith, l, c.requires.len)) in
    elim c.if-colour-get.branch [
      | then-colour-get w ↦
          subst (λ N. IsMetTo K ls 4294967295 N k) (sym w.met-is)
          (met_set K ls 4294967295 c.loop-y.met _ x y k (get_or ls x 0) (get_or ls y 0) c.loop-y.invariant hx hy (omega arith) refl refl (points x hx) (points y hy) points
          w.set.ensures.points (w.set.ensures.pair ∙ c.get-colour.ensures) (omega (arith, w.if-colour-get.true, c.get-colour.ensures, c.get.ensures)) w.set.ensures.others)
      | else-colour-get w ↦
          subst (λ N. IsMetTo K ls 4294967295 N k) (sym w.met-is)
          (met_kept K ls 4294967295 c.loop-y.met x y k c.loop-y.invariant hy (omega arith) (omega (arith, w.if-colour-get.false, c.get-colour.ensures, c.get.ensures)))
    ]

pub returns : goal.returns
returns c =
    let K = c.args.k.now in
    let ls = c.args.leasts.now in
    let points : (u : ℕ) → u < K.size → get_or ls u 0 < K.size = λ u l. c.requires.points u 0 (omega (arith, l, c.requires.len)) in
    let small : (u v : ℕ) → u < K.size → v < K.size → colour_at K u v ≤ 4294967295 = λ u v hu hv.
    let low = c.size-size.ensures.within.numbers (u * K.size + v) 0 (omega (arith, place_below K.size u v hu hv, c.size-size.ensures.within.colouring.has_pairs)) in
    omega (arith, low) in
    met_whole K ls 4294967295 c.loop-x.x c.loop-x.met small points (omega arith) c.loop-x.invariant
