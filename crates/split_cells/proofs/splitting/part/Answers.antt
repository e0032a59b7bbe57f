use Rattle.std.proofs.Common.{◌≡◌, ◌≢◌, ℕ, ◌+◌, ◌*◌, ◌<◌, length, get_or, sym, subst, ap, ◌∙◌, ⊎_elim, arith}
use Rattle.std.proofs.lemmas.Bool.{cases_Bool}
use Rattle.split_cells.specs.Grids.{IsUsed}
use Rattle.split_cells.proofs.PartLemmas.{IsPartedTo, IsPartedTo-start, IsPartedTo-more, IsParted-from, IsUsed-more, IsUsed-few, below_least, below_next, one_key, two_keys, waits}
use Rattle.split_cells.proofs.splitting.part.Goals as goal

pub loop-next-init : goal.loop-next-init
loop-next-init c =
    let pairs = c.args.pairs.now in
    let h = c.requires.classed in
    let size0 = h.parting.classes ∙ h.bound in
    record {
      classed = h;
      size = λ i. pairs.size;
      used = c.requires.used;
      parted = IsPartedTo-start pairs.size pairs.parting.class.items size0 c.args.tally.now.counts c.args.k pairs.parting.rank c.least_key-key.result c.least_key-key.ensures;
      split = λ e. cc;
      idle = λ e. below_least pairs.size pairs.parting.class.items size0 c.args.tally.now.counts c.args.k c.least_key-key.result c.least_key-key.ensures;
    }

pub open-new-requires-clause-room : goal.open-new-requires-clause-room
open-new-requires-clause-room c =
    let s = c.loop-next.pairs.parting in
    omega (arith, IsUsed-few s.class.items s.rank c.loop-next.invariant.used, c.loop-next.invariant.classed.parting.classes)

pub move_part-requires-clause-class : goal.move_part-requires-clause-class
move_part-requires-clause-class c = λ p l e.
    let pairs = c.args.pairs.now in
    let h = c.requires.classed in
    let size0 = h.parting.classes ∙ h.bound in
    let now = c.loop-next.pairs in
    let i = c.loop-next.invariant in
    let bound : p < length pairs.parting.class.items =
    omega (arith, l, c.open-new.ensures.bound, i.classed.parting.classes, i.parted.len) in
    ap (λ w. get_or w p 0) c.open-new.ensures.same
    ∙ waits pairs.size pairs.parting.class.items size0 c.args.tally.now.counts c.args.k pairs.parting.rank (λ q r ne. c.requires.outside q (omega (arith, r, h.parting.classes)) ne) (c.requires.counts ∙ sym h.parting.classes)
    c.loop-next.key c.in-Some.next now.parting.rank now.parting.class.items i.parted c.in-Some.ensures.next p bound e

pub loop-next-preserved : goal.loop-next-preserved
loop-next-preserved c =
    let pairs = c.args.pairs.now in
    let n = pairs.size in
    let class0 = pairs.parting.class.items in
    let rank0 = pairs.parting.rank in
    let h = c.requires.classed in
    let size0 = h.parting.classes ∙ h.bound in
    let s = c.loop-next.pairs.parting in
    let i = c.loop-next.invariant in
    let new = c.move_part.new.pairs in
    let s' = new.parting in
    let counts = c.args.tally.now.counts in
    let k = c.args.k in
    let next = c.in-Some.next in
    let outside : (q : ℕ) → q < length class0 → get_or class0 q 0 ≢ k → get_or counts q 0 ≡ 0 = λ q r ne. c.requires.outside q (omega (arith, r, h.parting.classes)) ne in
    let all = c.requires.counts ∙ sym h.parting.classes in
    let size' : new.size ≡ n = c.move_part.ensures.size ∙ i.size in
    let len' : length s'.class.items ≡ length class0 = c.move_part.ensures.classed.parting.classes ∙ c.move_part.ensures.classed.bound ∙ (λ j. size' j * size' j) ∙ sym size0 in
    let low : (p : ℕ) → p < length class0 → p < length c.open-new.new.self.order.items = λ p l. omega (arith, l, c.open-new.ensures.bound, i.classed.parting.classes, i.parted.len) in
    let moved : (p : ℕ) → p < length class0 → get_or counts p 0 ≡ next → get_or s'.class.items p 0 ≡ s.rank = λ p l e. c.move_part.ensures.moved p (low p l) e ∙ c.open-new.ensures.number in
    let stayed : (p : ℕ) → p < length class0 → get_or counts p 0 ≢ next → get_or s'.class.items p 0 ≡ get_or s.class.items p 0 = λ p l ne. c.move_part.ensures.stayed p (low p l) ne ∙ ap (λ w. get_or w p 0) c.open-new.ensures.same in
    let rank' : s'.rank ≡ s.rank + 1 = c.move_part.ensures.rank ∙ c.open-new.ensures.rank in
    let more = IsPartedTo-more n class0 size0 counts k rank0 outside all c.loop-next.key next s.rank s.class.items s'.class.items i.parted c.in-Some.ensures.next len' moved stayed in
    let used = IsUsed-more n class0 size0 counts k rank0 outside all c.loop-next.key next s.rank s.class.items s'.class.items i.parted c.in-Some.ensures.next len' moved stayed i.used in
    let one = below_next n class0 size0 counts k c.loop-next.key next i.parted.is_key c.in-Some.ensures.next in
    record {
      classed = c.move_part.ensures.classed;
      size = size';
      used = subst (IsUsed s'.class.items) (sym rank') used;
      parted = subst (IsPartedTo n class0 counts k rank0 next s'.class.items) (sym rank') more;
      split = λ e. omega (arith, one);
      idle = λ e. cc;
    }

pub returns-clause-split : goal.returns-clause-split
returns-clause-split c =
    let pairs = c.args.pairs.now in
    let h = c.requires.classed in
    let size0 = h.parting.classes ∙ h.bound in
    let counts = c.args.tally.now.counts in
    let i = c.loop-next.invariant in (
      λ e. two_keys pairs.size pairs.parting.class.items size0 counts c.args.k c.loop-next.key i.parted.is_key (i.split e),
      λ two. ⊎_elim
          (λ e. e)
          (λ e.
          let few = one_key pairs.size pairs.parting.class.items size0 counts c.args.k c.loop-next.key i.parted.is_key (i.idle e) c.in_default.ensures.none in
          absurd (omega (arith, two, few)))
          (cases_Bool c.loop-next.split),
    )

pub returns-clause-parts : goal.returns-clause-parts
returns-clause-parts c =
    let pairs = c.args.pairs.now in
    let h = c.requires.classed in
    IsParted-from pairs.size pairs.parting.class.items (h.parting.classes ∙ h.bound) c.args.tally.now.counts c.args.k pairs.parting.rank c.loop-next.key c.loop-next.pairs.parting.rank c.loop-next.pairs.parting.class.items
    c.loop-next.invariant.parted c.in_default.ensures.none
