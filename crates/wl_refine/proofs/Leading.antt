-- Steps that lead on.
use Rattle.std.proofs.Common.{◌≡◌, ℕ, ◌*◌, ◌-◌, ◌<◌, List, [], ◌∷◌, ◌++◌, length, refl, sym, subst, ◌∙◌, ap, arith}
use Rattle.std.specs.List.{AllByRecursion}
use Rattle.std.proofs.lemmas.List.{append_assoc, append-nil, length-append}
use Rattle.pair_colours.specs.Colouring.{PairColouring}
use Rattle.pair_colours.specs.Naming.{rank_of}
use Rattle.pair_colours.proofs.ListLemmas.{Each-append}
use Rattle.trace_text.specs.Partition.{IsPartition}
use Rattle.trace_text.proofs.Splits.{rank_grows, IsPartition-split_of}
use Rattle.trace_text.proofs.Ranks.{rank_of-le_pairs}
use Rattle.trace_text.proofs.Leads.{lead_below}
use Rattle.trace_text.specs.declared.step_list.Step.{Step}
use Rattle.trace_text.specs.Split.{IsAllowed, Lead, split_of}
use Rattle.trace_text.specs.Versions.{HasStep}
use Rattle.wl_refine.specs.Way.{Walked, LeadsOn}

-- one list of steps after another
pub lead_append : (steps more : List Step) (P Q R : PairColouring) → Lead steps P Q → Lead more Q R → Lead (steps ++ more) P R
lead_append [] more P Q R l m = subst (λ A. Lead more A R) l m
lead_append (s ∷ steps) more P Q R l m = (l.0, lead_append steps more (split_of P s) Q R l.1 m)

pub leads_on_here : (w : Walked) → LeadsOn w w
leads_on_here w = record { more = []; steps = sym (append-nil w.steps); leads = refl }

pub leads_on_after : (u v w : Walked) → LeadsOn u v → LeadsOn v w → LeadsOn u w
leads_on_after u v w a b = record {
  more = a.more ++ b.more;
  steps = b.steps ∙ ap (λ l. l ++ b.more) a.steps ∙ append_assoc u.steps a.more b.more;
  leads = lead_append a.more b.more u.cells v.cells w.cells a.leads b.leads;
}

-- one step more
pub leads_on_step : (u v : Walked) (s : Step) → IsAllowed u.cells s → v.cells ≡ split_of u.cells s → v.steps ≡ u.steps ++ s ∷ [] → LeadsOn u v
leads_on_step u v s a cells steps = record { more = s ∷ []; steps = steps; leads = (a, cells) }

-- a step adds classes
pub more_classes : (P P2 : PairColouring) (s : Step) → IsPartition P → IsAllowed P s → P2 ≡ split_of P s → rank_of P < rank_of P2
more_classes P P2 s h a e = omega (arith, rank_grows P s h a, ap rank_of e)

pub fewer_steps : (steps new : List Step) (s : Step) (rank rank2 : ℕ) → length steps < rank → rank < rank2 → new ≡ steps ++ s ∷ [] → length new < rank2
fewer_steps steps new s rank rank2 l g e = omega (arith, l, g, ap length e, length-append steps (s ∷ []))

-- they are on one class, each
pub one_class_more : (steps new : List Step) (s : Step) → AllByRecursion (HasStep 1) steps → HasStep 1 s → new ≡ steps ++ s ∷ [] → AllByRecursion (HasStep 1) new
one_class_more steps new s each one e = subst (AllByRecursion (HasStep 1)) (sym e) (Each-append (HasStep 1) steps (s ∷ []) each (one, tt))

-- how many classes may still be added
abbrev pub classes_left : PairColouring → ℕ
classes_left P = P.size * P.size - rank_of P

-- fewer where a step was made, and more steps have led on
pub fewer_left : (P Q R : PairColouring) (s : Step) (steps : List Step) → IsPartition P → IsAllowed P s → Q ≡ split_of P s → Lead steps Q R
    → classes_left R < classes_left P
fewer_left P Q R s steps h a e l =
    let q : IsPartition Q = subst IsPartition (sym e) (IsPartition-split_of P s h) in
    let b = lead_below steps Q R q l in
    let more = more_classes P Q s h a e in
    let sizes : R.size ≡ P.size = b.refines.sizes ∙ ap (λ (A : PairColouring). A.size) e in
    let most = rank_of-le_pairs R b.partition.colouring in
    let squares : R.size * R.size ≡ P.size * P.size = λ i. sizes i * sizes i in
    omega (arith, b.rank, more, most, squares)

-- all steps made so far, from where none was made yet
pub leads_from_start : (start : PairColouring) (first now : Walked) → first.steps ≡ [] → first.cells ≡ start → LeadsOn first now → Lead now.steps start now.cells
leads_from_start start first now none begins on =
    subst (λ l. Lead l start now.cells) (sym (on.steps ∙ ap (λ l. l ++ on.more) none)) (subst (λ P. Lead on.more P now.cells) begins on.leads)
