-- The stage and what is kept of a closure that was reached.
use Rattle.std.proofs.Common.{◌≡◌, ℕ, List, sym, subst}
use Rattle.std.specs.List.{AllByRecursion}
use Rattle.pair_colours.specs.Colouring.{PairColouring}
use Rattle.pair_colours.specs.Closure.{Coherent, IsClosureOf}
use Rattle.trace_text.specs.declared.step_list.Step.{Step}
use Rattle.trace_text.specs.Split.{Lead}
use Rattle.trace_text.specs.Versions.{HasStep}
use Rattle.wl_refine.specs.declared.closing.Closed.{Closed}
use Rattle.wl_refine.specs.Closed.{IsReached}
use Rattle.recolour_bench.specs.declared.chaining.Made.{Made}
use Rattle.recolour_bench.specs.Kept.{IsMadeFrom}

-- the new stage has the steps of the closure, ends where it ended, and its chain starts at the place
pub record IsMadeOf (closed : Closed) (place : ℕ) (new : Made) : Type 0 where
  pub steps : new.stage.steps ≡ closed.steps
  pub closure : new.kept.closure ≡ closed.matrix
  pub last : new.kept.last ≡ closed.last
  pub start : new.kept.start ≡ place

pub made_closure : (C : PairColouring) (closed : Closed) (place : ℕ) (new : Made) → IsMadeOf closed place new → IsClosureOf closed.matrix C → IsClosureOf new.kept.closure C
made_closure C closed place new is h = subst (λ (K : PairColouring). IsClosureOf K C) (sym is.closure) h

pub made_from : (P : PairColouring) (closed : Closed) (place : ℕ) (new : Made) → IsMadeOf closed place new → IsReached P closed → IsMadeFrom P place new
made_from P closed place new is r = record {
  leads = subst (λ (l : List Step). Lead l P new.kept.last) (sym is.steps) (subst (λ (Q : PairColouring). Lead closed.steps P Q) (sym is.last) r.leads);
  one_class = subst (AllByRecursion (HasStep 1)) (sym is.steps) r.one_class;
  coherent = subst (λ (Q : PairColouring). Coherent Q) (sym is.last) r.coherent;
  start = is.start;
}
