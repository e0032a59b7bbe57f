-- Colourings between a colouring and its round.
use Rattle.std.proofs.Common.{ℕ, ◌<◌, ⊎_elim, arith}
use Rattle.pair_colours.specs.Colouring.{PairColouring}
use Rattle.pair_colours.specs.Naming.{IsNamedMeet}
use Rattle.pair_colours.specs.Rounds.{IsRound}
use Rattle.pair_colours.proofs.Measure.{alike_places, fewer_or_refines}
use Rattle.pair_colours.proofs.Places.{Refines-trans}
use Rattle.wl_round.specs.Coming.{IsComing}
use Rattle.wl_round.specs.Hashes.{KeepsTogether}
use Rattle.wl_round.specs.Sweeps.{AllAlike, IsParting}

pub IsComing-start : (P H M : PairColouring) → KeepsTogether P H → IsNamedMeet P H M → IsComing P M
IsComing-start P H M k m =
    let to = λ (z : ℕ) (h : z < P.size). let l : z < M.size = omega (arith, h, m.first.sizes) in l in
    record {
      colouring = m.colouring;
      refines = m.first;
      together = λ x y u v hx hy hu hv a. m.together x y u v (to x hx) (to y hy) (to u hu) (to v hv) a.own (k.together x y u v hx hy hu hv a);
      named = m.named;
    }

module _ (P M c N : PairColouring) (h : IsComing P M) (p : IsParting P M c) (m : IsNamedMeet M c N) where
  to_N : (z : ℕ) → z < P.size → z < N.size
  to_N z l = omega (arith, l, m.first.sizes, h.refines.sizes)

  pub IsComing-more : IsComing P N
  IsComing-more = record {
    colouring = m.colouring;
    refines = Refines-trans N M P m.first h.refines;
    together = λ x y u v hx hy hu hv a.
        let same = h.together x y u v hx hy hu hv a in
        m.together x y u v (to_N x hx) (to_N y hy) (to_N u hu) (to_N v hv) same (p.together x y u v hx hy hu hv same a);
    named = m.named;
  }

  pub IsComing-fewer : alike_places N < alike_places M
  IsComing-fewer =
      let to = λ (z : ℕ) (l : z < P.size). let k : z < M.size = omega (arith, l, h.refines.sizes) in k in
      ⊎_elim
      (λ less. less)
      (λ back.
      let same = back.classes p.x p.y p.u p.v (to p.x p.first_row) (to p.y p.first_column) (to p.u p.second_row) (to p.v p.second_column) p.same in
      absurd (p.differ (m.second.classes p.x p.y p.u p.v (to_N p.x p.first_row) (to_N p.y p.first_column) (to_N p.u p.second_row) (to_N p.v p.second_column) same)))
      (fewer_or_refines N M m.colouring m.first)

pub IsRound-from : (P M : PairColouring) → IsComing P M → AllAlike P M → IsRound P M
IsRound-from P M h a = record {
  colouring = h.colouring;
  sizes = h.refines.sizes;
  apart = a.alike;
  together = h.together;
}
