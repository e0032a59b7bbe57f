-- Colourings that part no pairs of the closure.
use Rattle.pair_colours.specs.Colouring.{PairColouring, Refines}
use Rattle.pair_colours.specs.Closure.{IsClosureOf}
use Rattle.pair_colours.proofs.Places.{Refines-trans}
use Rattle.wl_refine.specs.Closed.{IsForced}

-- a coarser one
pub forced_by_coarser : (C E : PairColouring) → Refines C E → IsForced C E
forced_by_coarser C E r = λ Q q h s. Refines-trans Q C E s r

-- and its closure
pub forced_by_closure : (C E K : PairColouring) → Refines C E → IsClosureOf K E → IsForced C K
forced_by_closure C E K r k = λ Q q h s. k.closure.coarsest Q q h (Refines-trans Q C E s r)
