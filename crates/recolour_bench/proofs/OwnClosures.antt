-- Closures of closures, and of products.
use Rattle.std.proofs.Common.{◌≡◌, Option, None, Some, sym}
use Rattle.std.specs.Prelude.{IfSome}
use Rattle.pair_colours.specs.Colouring.{PairColouring, IsColouring}
use Rattle.pair_colours.specs.Closure.{Coherent, IsClosureOf}
use Rattle.pair_colours.specs.Naming.{named_of, IsNamedMeet}
use Rattle.pair_colours.proofs.LawProofs.{named_closure_is_unique}
use Rattle.pair_colours.proofs.Places.{Refines-refl, Refines-trans}
use Rattle.pair_colours.proofs.Meets.{IsNamedMeet-unique}
use Rattle.trace_text.specs.Partition.{meet_of}
use Rattle.trace_text.specs.Chains.{stage_start}
use Rattle.trace_text.proofs.Meeting.{IsNamedMeet-meet_of}
use Rattle.wl_refine.specs.Closed.{IsForced}

-- a coherent colouring with the names of the walk is its own closure
pub IsClosureOf-coherent : (P : PairColouring) → IsColouring P → Coherent P → named_of P ≡ P → IsClosureOf P P
IsClosureOf-coherent P p coherent named = record {
  closure = record { colouring = p; coherent = coherent; refines = Refines-refl P; coarsest = λ Q q h r. r };
  named = named;
}

-- so is a closure
pub IsClosureOf-itself : (K C : PairColouring) → IsClosureOf K C → IsClosureOf K K
IsClosureOf-itself K C k = IsClosureOf-coherent K k.closure.colouring k.closure.coherent k.named

-- whatever C is, it has one closure at most: each is the closure of the other
pub closure_is_one : (C K L : PairColouring) → IsClosureOf K C → IsClosureOf L C → K ≡ L
closure_is_one C K L k l = named_closure_is_unique K K L k.closure.colouring (IsClosureOf-itself K C k) other
  where
    other : IsClosureOf L K
    other = record {
      closure = record {
        colouring = l.closure.colouring;
        coherent = l.closure.coherent;
        refines = k.closure.coarsest L l.closure.colouring l.closure.coherent l.closure.refines;
        coarsest = λ Q q h r. l.closure.coarsest Q q h (Refines-trans Q K C r k.closure.refines);
      };
      named = l.named;
    }

-- and the named meet of itself with a partition that it must refine
IsNamedMeet-itself : (R last : PairColouring) → IsClosureOf R R → IsForced R last → IsNamedMeet R last R
IsNamedMeet-itself R last r forced = record {
  colouring = r.closure.colouring;
  first = Refines-refl R;
  second = forced R r.closure.colouring r.closure.coherent (Refines-refl R);
  together = λ x y u v hx hy hu hv own other. own;
  named = r.named;
}

-- so it is where a stage of it starts
pub stage_start-itself : (last : Option PairColouring) (R : PairColouring) → IsClosureOf R R → IfSome last (λ P. P.size ≡ R.size) → IfSome last (IsForced R) → stage_start last R ≡ R
stage_start-itself None R r sizes forced = r.named
stage_start-itself (Some last) R r sizes forced =
    IsNamedMeet-unique R last (meet_of R last) R (IsNamedMeet-meet_of R last r.closure.colouring (sym sizes)) (IsNamedMeet-itself R last r forced)
