-- Named meets, and the closure of a colouring that refines another.
use Rattle.std.proofs.Common.{◌≡◌, ◌↔◌, ℕ, ◌+◌, ◌*◌, ◌/◌, ◌%◌, ◌<◌, refl, sym, ap, ◌∙◌, arith}
use Rattle.std.proofs.lemmas.Nat.{div-mul-add, mod-mul-add}
use Rattle.pair_colours.specs.Colouring.{PairColouring, IsColouring, IsColour, Refines, IsSamePartition, colour_at}
use Rattle.pair_colours.specs.Closure.{Coherent, IsClosureOf}
use Rattle.pair_colours.specs.Naming.{rank_of, name_of, named_of, IsNamedMeet}
use Rattle.pair_colours.proofs.Closures.{met_at, name_of-apart, IsColouring-named_of, named_of-refines, refines-named_of, named_of-named_of}
use Rattle.pair_colours.proofs.Exists.{colour_at-by_pairs, IsColouring-by_pairs}
use Rattle.pair_colours.proofs.Places.{Refines-trans}
use Rattle.trace_text.specs.Partition.{coloured_by, meet_of}
use Rattle.pair_colours.proofs.Meets.{meet_below}

-- the colour in one and the class in the other, as one number
abbrev joined : PairColouring → PairColouring → PairColouring
joined A P = coloured_by A.size (λ x y. colour_at A x y * rank_of P + name_of P (colour_at P x y))

-- the meet of two colourings is the named meet
pub IsNamedMeet-meet_of : (A P : PairColouring) → IsColouring A → A.size ≡ P.size → IsNamedMeet A P (meet_of A P)
IsNamedMeet-meet_of A P a sizes = record {
  colouring = IsColouring-named_of (joined A P) n;
  first = Refines-trans (named_of (joined A P)) (joined A P) A (named_of-refines (joined A P) n) (record {
    sizes = refl;
    classes = λ x y u v hx hy hu hv e.
        sym (div-mul-add (colour_at A x y) (rank_of P) (name_of P (colour_at P x y)) (low x y hx hy)) ∙ ap (λ c. c / rank_of P) (codes x y u v hx hy hu hv e)
        ∙ div-mul-add (colour_at A u v) (rank_of P) (name_of P (colour_at P u v)) (low u v hu hv);
  });
  second = Refines-trans (named_of (joined A P)) (joined A P) P (named_of-refines (joined A P) n) (record {
    sizes = sizes;
    classes = λ x y u v hx hy hu hv e.
        name_of-apart P (colour_at P x y) (colour_at P u v) (used x y hx hy) (used u v hu hv)
        (sym (mod-mul-add (colour_at A x y) (rank_of P) (name_of P (colour_at P x y)) (low x y hx hy)) ∙ ap (λ c. c % rank_of P) (codes x y u v hx hy hu hv e)
        ∙ mod-mul-add (colour_at A u v) (rank_of P) (name_of P (colour_at P u v)) (low u v hu hv));
  });
  together = λ x y u v hx hy hu hv e f.
      (refines-named_of (joined A P) n).classes x y u v hx hy hu hv (at x y hx hy ∙ (λ i. e i * rank_of P + name_of P (f i)) ∙ sym (at u v hu hv));
  named = named_of-named_of (joined A P) n;
}
  where
    n : IsColouring (joined A P)
    n = IsColouring-by_pairs A.size (λ x y. colour_at A x y * rank_of P + name_of P (colour_at P x y)) a.has_points

    at : (x y : ℕ) → x < A.size → y < A.size
        → colour_at (joined A P) x y ≡ colour_at A x y * rank_of P + name_of P (colour_at P x y)
    at x y hx hy = colour_at-by_pairs A.size (λ x y. colour_at A x y * rank_of P + name_of P (colour_at P x y)) x y hx hy

    used : (x y : ℕ) → x < A.size → y < A.size → IsColour P (colour_at P x y)
    used x y hx hy = record { x = x; y = y; row = omega (arith, hx, sizes); column = omega (arith, hy, sizes); is = refl }

    low : (x y : ℕ) → x < A.size → y < A.size → name_of P (colour_at P x y) < rank_of P
    low x y hx hy = (met_at P (colour_at P x y) (used x y hx hy)).0

    codes : (x y u v : ℕ) → x < A.size → y < A.size → u < A.size → v < A.size
        → colour_at (joined A P) x y ≡ colour_at (joined A P) u v
        → colour_at A x y * rank_of P + name_of P (colour_at P x y) ≡ colour_at A u v * rank_of P + name_of P (colour_at P u v)
    codes x y u v hx hy hu hv e = sym (at x y hx hy) ∙ e ∙ at u v hu hv

-- the closure of a colouring that refines C is the closure of its meet with the closure of C
pub closure_of_meet : (C C2 K E M K2 : PairColouring) → Refines C2 C → IsClosureOf K C → IsSamePartition E K → IsNamedMeet C2 E M
    → (IsClosureOf K2 C2) ↔ (IsClosureOf K2 M)
closure_of_meet C C2 K E M K2 finer k same m = (
  λ k2. record {
    closure = record {
      colouring = k2.closure.colouring;
      coherent = k2.closure.coherent;
      refines = below K2 k2.closure.colouring k2.closure.coherent k2.closure.refines;
      coarsest = λ Q q h t. k2.closure.coarsest Q q h (Refines-trans Q M C2 t m.first);
    };
    named = k2.named;
  },
  λ k2. record {
    closure = record {
      colouring = k2.closure.colouring;
      coherent = k2.closure.coherent;
      refines = Refines-trans K2 M C2 k2.closure.refines m.first;
      coarsest = λ Q q h t. k2.closure.coarsest Q q h (below Q q h t);
    };
    named = k2.named;
  },
)
  where
    -- a coherent colouring that refines C2 refines the meet
    below : (Q : PairColouring) → IsColouring Q → Coherent Q → Refines Q C2 → Refines Q M
    below Q q h t =
        meet_below Q C2 E M m t (Refines-trans Q K E (k.closure.coarsest Q q h (Refines-trans Q C2 C t finer)) same.coarser)
