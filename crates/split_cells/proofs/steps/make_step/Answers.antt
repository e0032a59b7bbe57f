use Rattle.std.proofs.Common.{◌≡◌, ◌<◌, ◌↔◌, IsTrue, [], ◌∷◌, All, sym, subst, arith}
use Rattle.trace_text.specs.declared.step_list.Step.{Step}
use Rattle.trace_text.specs.declared.step_list.Step.TheVariants.{Diag, Tri}
use Rattle.trace_text.specs.Split.{HasParts, split_of}
use Rattle.split_cells.specs.Faults.{NamesBelow}
use Rattle.split_cells.specs.Labels.{step_shown_by}
use Rattle.split_cells.specs.Kept.{shown_of}
use Rattle.split_cells.proofs.Labelled.{made_shown, made_parts}
use Rattle.split_cells.proofs.steps.make_step.Goals as goal

pub flip-requires-clause-class : goal.flip-requires-clause-class
flip-requires-clause-class c =
    let rank = c.args.pairs.now.parting.rank in
    let names : All (λ number. number < rank) (c.in-Flip.class ∷ c.in-Flip.other ∷ []) = subst (λ (s : Step). NamesBelow rank s) c.in-Flip.is c.requires.names in
    names 0 0 (omega arith)

pub count_triangles-requires-clause-class : goal.count_triangles-requires-clause-class
count_triangles-requires-clause-class c =
    let rank = c.args.pairs.now.parting.rank in
    let names : All (λ number. number < rank) (c.in-Tri.class ∷ c.in-Tri.left ∷ c.in-Tri.right ∷ []) = subst (λ (s : Step). NamesBelow rank s) c.in-Tri.is c.requires.names in
    names 0 0 (omega arith)

pub count_triangles-requires-clause-left : goal.count_triangles-requires-clause-left
count_triangles-requires-clause-left c =
    let rank = c.args.pairs.now.parting.rank in
    let names : All (λ number. number < rank) (c.in-Tri.class ∷ c.in-Tri.left ∷ c.in-Tri.right ∷ []) = subst (λ (s : Step). NamesBelow rank s) c.in-Tri.is c.requires.names in
    names 1 0 (omega arith)

pub count_triangles-requires-clause-right : goal.count_triangles-requires-clause-right
count_triangles-requires-clause-right c =
    let rank = c.args.pairs.now.parting.rank in
    let names : All (λ number. number < rank) (c.in-Tri.class ∷ c.in-Tri.left ∷ c.in-Tri.right ∷ []) = subst (λ (s : Step). NamesBelow rank s) c.in-Tri.is c.requires.names in
    names 2 0 (omega arith)

pub returns-in-Diag-clause-parts : goal.returns-in-Diag-clause-parts
returns-in-Diag-clause-parts c =
    let rank = c.args.pairs.now.parting.rank in
    let step = Diag c.in-Diag.class in
    let names : NamesBelow rank step = subst (λ (s : Step). NamesBelow rank s) c.in-Diag.is c.requires.names in
    let e = c.part.ensures in
    subst (λ (s : Step). shown_of c.part.new.pairs c.args.labels.now ≡ split_of (shown_of c.args.pairs.now c.args.labels.now) (step_shown_by c.args.labels.now.outer.items s)) (sym c.in-Diag.is)
    (made_shown c.requires.shown step tt names c.gather_diagonal.new.tally.counts c.gather_diagonal.ensures.inside c.part.new.pairs e.classed e.used e.size e.parts)

pub returns-in-Diag-clause-split : goal.returns-in-Diag-clause-split
returns-in-Diag-clause-split c =
    let rank = c.args.pairs.now.parting.rank in
    let step = Diag c.in-Diag.class in
    let names : NamesBelow rank step = subst (λ (s : Step). NamesBelow rank s) c.in-Diag.is c.requires.names in
    subst (λ (s : Step). IsTrue c.part.result ↔ HasParts (shown_of c.args.pairs.now c.args.labels.now) (step_shown_by c.args.labels.now.outer.items s)) (sym c.in-Diag.is)
    (made_parts c.requires.shown step tt names c.gather_diagonal.new.tally.counts c.gather_diagonal.ensures.inside c.part.result c.part.ensures.split)

pub returns-in-Flip-clause-split : goal.returns-in-Flip-clause-split
returns-in-Flip-clause-split c =
    subst (λ (s : Step). IsTrue c.flip.result ↔ HasParts (shown_of c.args.pairs.now c.args.labels.now) (step_shown_by c.args.labels.now.outer.items s)) (sym c.in-Flip.is) c.flip.ensures.split

pub returns-in-Tri-clause-parts : goal.returns-in-Tri-clause-parts
returns-in-Tri-clause-parts c =
    let rank = c.args.pairs.now.parting.rank in
    let step = Tri c.in-Tri.class c.in-Tri.left c.in-Tri.right in
    let names : NamesBelow rank step = subst (λ (s : Step). NamesBelow rank s) c.in-Tri.is c.requires.names in
    let e = c.part-in-Tri.ensures in
    subst (λ (s : Step). shown_of c.part-in-Tri.new.pairs c.args.labels.now ≡ split_of (shown_of c.args.pairs.now c.args.labels.now) (step_shown_by c.args.labels.now.outer.items s)) (sym c.in-Tri.is)
    (made_shown c.requires.shown step tt names c.count_triangles.new.tally.counts c.count_triangles.ensures.inside c.part-in-Tri.new.pairs e.classed e.used e.size e.parts)

pub returns-in-Tri-clause-split : goal.returns-in-Tri-clause-split
returns-in-Tri-clause-split c =
    let rank = c.args.pairs.now.parting.rank in
    let step = Tri c.in-Tri.class c.in-Tri.left c.in-Tri.right in
    let names : NamesBelow rank step = subst (λ (s : Step). NamesBelow rank s) c.in-Tri.is c.requires.names in
    subst (λ (s : Step). IsTrue c.part-in-Tri.result ↔ HasParts (shown_of c.args.pairs.now c.args.labels.now) (step_shown_by c.args.labels.now.outer.items s)) (sym c.in-Tri.is)
    (made_parts c.requires.shown step tt names c.count_triangles.new.tally.counts c.count_triangles.ensures.inside c.part-in-Tri.result c.part-in-Tri.ensures.split)
