use Rattle.std.proofs.Common.{◌<◌, length, get_or, ⊎_elim, refl, subst, ◌∙◌, arith}
use Rattle.std.proofs.lemmas.Bool.{cases_lt}
use Rattle.trace_text.specs.declared.step_list.Step.TheVariants.{Flip}
use Rattle.trace_text.specs.Split.{HasParts}
use Rattle.split_cells.specs.Grids.{grid}
use Rattle.split_cells.specs.Keys.{counts_in}
use Rattle.split_cells.specs.Labels.{AreInverse, shown_by, step_shown_by}
use Rattle.split_cells.specs.Kept.{shown_of}
use Rattle.split_cells.proofs.PartLemmas.{IsParted-idle}
use Rattle.split_cells.proofs.CellLemmas.{split_idle}
use Rattle.split_cells.proofs.Labelled.{all_pairs, few_classes, IsColouring-shown}
use Rattle.split_cells.proofs.Marked.{parts_marked, exchanged_shown, IsShown-exchanged, room}
use Rattle.split_cells.proofs.flipping.part_marked.Goals as goal

pub returns-then-not-part-clause-parts : goal.returns-then-not-part-clause-parts
returns-then-not-part-clause-parts c =
    let pairs = c.args.pairs.now in
    let h = c.requires.shown in
    let marks = c.args.tally.now.counts in
    let outer = c.args.labels.now.outer.items in
    let step = step_shown_by outer (Flip c.args.k c.args.other) in
    let few : length (counts_in pairs.size pairs.parting.class.items marks c.args.k) < 2 = ⊎_elim
    (λ l. l)
    (λ two. let yes = c.part.ensures.split.1 two in let none = c.if-not-part.true in cc)
    (cases_lt (length (counts_in pairs.size pairs.parting.class.items marks c.args.k)) 2) in
    let same = IsParted-idle pairs.size pairs.parting.class.items (all_pairs h) marks c.part.new.pairs.parting.class.items c.args.k pairs.parting.rank few c.part.ensures.parts in
    let none : HasParts (shown_of pairs c.args.labels.now) step → ⊥ = λ some.
    let two = (parts_marked h c.args.k c.args.other c.requires.class c.requires.other marks c.requires.marked).0 some in
    omega (arith, two, few) in
    (λ i. shown_by outer (grid (c.part.ensures.size i) (same i))) ∙ split_idle (shown_of pairs c.args.labels.now) step (IsColouring-shown h) none

pub returns-then-not-part-clause-split : goal.returns-then-not-part-clause-split
returns-then-not-part-clause-split c =
    let marked = parts_marked c.requires.shown c.args.k c.args.other c.requires.class c.requires.other c.args.tally.now.counts c.requires.marked in (
      λ e. cc,
      λ some. let yes = c.part.ensures.split.1 (marked.0 some) in let none = c.if-not-part.true in cc,
    )

pub exchange-requires-clause-first : goal.exchange-requires-clause-first
exchange-requires-clause-first c = omega (arith, c.requires.class, few_classes c.requires.shown, c.requires.shown.numbers.inverse.outer_len)

pub exchange-requires-clause-second : goal.exchange-requires-clause-second
exchange-requires-clause-second c =
    let pairs = c.args.pairs.now in
    let h = c.requires.shown in
    let e = c.part.ensures in
    let two = e.split.0 c.if-not-part.false in
    let outer = c.args.labels.now.outer.items in
    let new = c.part.new.pairs in
    let marks = c.args.tally.now.counts in
    let first = get_or outer c.args.k 0 in
    let second = get_or outer pairs.parting.rank 0 in
    omega (arith, room h c.args.k c.args.other c.requires.class c.requires.other marks c.requires.marked two new e.classed e.size e.used e.parts first second refl refl, h.numbers.inverse.outer_len)

pub returns-clause-shown : goal.returns-clause-shown
returns-clause-shown c =
    let pairs = c.args.pairs.now in
    let h = c.requires.shown in
    let e = c.part.ensures in
    let two = e.split.0 c.if-not-part.false in
    let outer = c.args.labels.now.outer.items in
    let new = c.part.new.pairs in
    let marks = c.args.tally.now.counts in
    let first = get_or outer c.args.k 0 in
    let second = get_or outer pairs.parting.rank 0 in
    let next = c.exchange.new.self in
    IsShown-exchanged h c.args.k c.args.other c.requires.class c.requires.other marks c.requires.marked two new e.classed e.size e.used e.parts first second refl refl next c.exchange.ensures.exchanged
    (subst (λ m. AreInverse m next.outer.items next.inner.items) h.numbers.inverse.outer_len c.exchange.ensures.inverse)

pub returns-clause-parts : goal.returns-clause-parts
returns-clause-parts c =
    let pairs = c.args.pairs.now in
    let h = c.requires.shown in
    let e = c.part.ensures in
    let two = e.split.0 c.if-not-part.false in
    let outer = c.args.labels.now.outer.items in
    let new = c.part.new.pairs in
    let marks = c.args.tally.now.counts in
    let first = get_or outer c.args.k 0 in
    let second = get_or outer pairs.parting.rank 0 in
    (λ i. shown_by (c.exchange.ensures.exchanged i) (grid (e.size i) new.parting.class.items)) ∙ exchanged_shown h c.args.k c.args.other c.requires.class c.requires.other marks c.requires.marked two new e.classed e.size e.used e.parts first second refl refl

pub returns-clause-split : goal.returns-clause-split
returns-clause-split c =
    let marked = parts_marked c.requires.shown c.args.k c.args.other c.requires.class c.requires.other c.args.tally.now.counts c.requires.marked in (
      λ e. marked.1 (c.part.ensures.split.0 c.if-not-part.false),
      λ some. refl,
    )
