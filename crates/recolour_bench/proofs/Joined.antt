-- The pairs of one colour get another, place by place.
use Rattle.std.proofs.Common.{◌≡◌, ◌==◌, ℕ, ◌+◌, ◌*◌, ◌<◌, ◌≤◌, cond, length, get_or, ap, ◌∙◌, arith}
use Rattle.pair_colours.specs.Colouring.{PairColouring, IsColouring, colour_at}
use Rattle.pair_colours.proofs.Places.{place_below}
use Rattle.recolour_bench.specs.Recolouring.{recoloured}
use Rattle.recolour_bench.proofs.Recoloured.{recoloured_is}

-- the colour of a pair after the join
abbrev pub join_of : ℕ → ℕ → ℕ → ℕ
join_of keep gone colour = cond (colour == gone) keep colour

-- the places before p are joined, and the others are as they were
pub record IsJoinedTo (C N : PairColouring) (keep gone p : ℕ) : Type 0 where
  pub size : N.size ≡ C.size
  pub len : length N.colours ≡ length C.colours
  pub before : (k : ℕ) → k < p → get_or N.colours k 0 ≡ join_of keep gone (get_or C.colours k 0)
  pub after : (k : ℕ) → p ≤ k → get_or N.colours k 0 ≡ get_or C.colours k 0

-- all places are joined
pub IsJoinedTo-end : (C N : PairColouring) (keep gone p : ℕ) → IsColouring C → p ≡ C.size * C.size → IsJoinedTo C N keep gone p
    → N ≡ recoloured C (λ u v. cond (colour_at C u v == gone) keep (colour_at C u v))
IsJoinedTo-end C N keep gone p c e h =
    recoloured_is C N (λ u v. cond (colour_at C u v == gone) keep (colour_at C u v)) c h.size h.len
    (λ u v hu hv. ap (λ n. get_or N.colours (u * n + v) 0) h.size ∙ h.before (u * C.size + v) (omega (arith, e, place_below C.size u v hu hv)))
