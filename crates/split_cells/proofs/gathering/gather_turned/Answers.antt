use Rattle.std.proofs.Common.{◌≡◌, ◌==◌, ◌*◌, ◌<◌, if◌then◌else◌, get_or, ap, ◌∙◌, arith}
use Rattle.std.proofs.lemmas.List.{get_or_read}
use Rattle.trace_text.specs.declared.step_list.Step.TheVariants.{Flip}
use Rattle.split_cells.specs.Pairs.{partition_of}
use Rattle.split_cells.specs.Keys.{key_at}
use Rattle.split_cells.proofs.GatherLemmas.{turned_at, some_size, IsGatheredTo-more}
use Rattle.split_cells.proofs.gathering.gather_turned.Goals as goal

pub loop-p-preserved : goal.loop-p-preserved
loop-p-preserved c =
    let pairs = c.args.pairs.now in
    let n = pairs.size in
    let h = c.requires.classed in
    let m = c.members-p-items.ensures.members in
    let a = c.loop-p.p-index in
    let p = get_or c.members-p-items.result.now a 0 in
    let inside : p < n * n = omega (arith, m.inside a c.loop-p-test.true, h.parting.classes, h.bound) in
    let read = get_or_read pairs.turned.items p c.index.result.now (omega (arith, inside, h.turned.len)) c.index.ensures 0 in
    let val : c.turned_key.result ≡ key_at (partition_of pairs) (Flip c.args.k c.args.other) p =
    c.turned_key.ensures ∙ ap (λ z. if z == c.args.other then 0 else 1) (read ∙ turned_at n pairs.parting.class.items pairs.turned.items h.turned (some_size n p inside) p inside) in
    IsGatheredTo-more m (key_at (partition_of pairs) (Flip c.args.k c.args.other)) a c.turned_key.result c.loop-p.tally.counts c.note.new.self.counts c.loop-p-test.true val c.note.ensures c.loop-p.invariant
