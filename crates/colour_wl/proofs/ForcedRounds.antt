-- Forced rounds lead to the closure.
use Rattle.std.proofs.Common.{ℕ, ◌<◌, sym, ◌∙◌, arith}
use Rattle.pair_colours.specs.Colouring.{PairColouring, IsColouring, Refines}
use Rattle.pair_colours.specs.Closure.{Coherent}
use Rattle.pair_colours.specs.Rounds.{IsRound}
use Rattle.pair_colours.proofs.Places.{Refines-refl, Refines-trans}
use Rattle.pair_colours.proofs.Rounds.{IsOnTheWay, alike_in, round_refines}
use Rattle.colour_wl.specs.Rounds.{IsForcedRound}

-- a round is a forced round
pub IsForcedRound-round : (P R : PairColouring) → IsRound P R → IsForcedRound P R
IsForcedRound-round P R r = record { colouring = r.colouring; sizes = r.sizes; refines = round_refines P R r; together = r.together }

-- a coherent colouring that refines P refines each forced round of P
pub on_the_way-forced : (C P R : PairColouring) → IsOnTheWay C P → IsForcedRound P R → IsOnTheWay C R
on_the_way-forced C P R w s = record {
  colouring = s.colouring;
  refines = Refines-trans R P C s.refines w.refines;
  coarse = λ Q q h r.
      let p = w.coarse Q q h r in
      let to : (z : ℕ) → z < Q.size → z < P.size = λ z l. omega (arith, l, p.sizes) in
      record {
        sizes = p.sizes ∙ sym s.sizes;
        classes = λ x y u v hx hy hu hv e. s.together x y u v (to x hx) (to y hy) (to u hu) (to v hv) (alike_in Q P q h p x y u v hx hy hu hv e);
      };
}

-- a forced round of a coherent colouring parts nothing
pub refines_forced : (P R : PairColouring) → IsColouring P → Coherent P → IsForcedRound P R → Refines P R
refines_forced P R p h s = record {
  sizes = sym s.sizes;
  classes = λ x y u v hx hy hu hv e. s.together x y u v hx hy hu hv (alike_in P P p h (Refines-refl P) x y u v hx hy hu hv e);
}
