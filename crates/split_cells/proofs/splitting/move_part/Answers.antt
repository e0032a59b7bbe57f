use Rattle.std.proofs.Common.{◌+◌, sym, subst, ap, ◌∙◌, arith}
use Rattle.split_cells.specs.declared.classed_pairs.ClassedPairs.{ClassedPairs}
use Rattle.split_cells.specs.Segments.{StandsBehind, bound_of}
use Rattle.split_cells.specs.Pairs.{IsClassed}
use Rattle.split_cells.proofs.PartLemmas.{IsMovedTo, IsMovedTo-hit, IsMovedTo-miss}
use Rattle.split_cells.proofs.splitting.move_part.Goals as goal
use Rattle.split_cells.proofs.splitting.move_part.Goals.{then-get-key, else-get-key}

pub loop-a-preserved : goal.loop-a-preserved
loop-a-preserved c =
    let class0 = c.args.pairs.now.parting.class.items in
    let bound = bound_of c.args.pairs.now.parting in
    let t = c.args.tally.now in
    let a = c.loop-a.a in
    let p = c.member-p.result in
    let h = c.loop-a.invariant in
    elim c.if-get-key.branch [
      | then-get-key w ↦
          let e = w.take_out.ensures in
          record {
            classed = subst (λ (s : ClassedPairs). IsClassed s) (sym w.pairs-is) e.classed;
            size = ap (λ (s : ClassedPairs). s.size) w.pairs-is ∙ e.size ∙ h.size;
            rank = ap (λ (s : ClassedPairs). s.parting.rank) w.pairs-is ∙ e.rank ∙ h.rank;
            behind = subst (λ (s : ClassedPairs). StandsBehind s.parting c.args.k c.args.new) (sym w.pairs-is) e.behind;
            moved =
                subst (λ (s : ClassedPairs). IsMovedTo class0 t.counts t.touched bound c.args.key c.args.new (a + 1) s.parting.class.items) (sym w.pairs-is)
                (IsMovedTo-hit class0 c.loop-a.pairs.parting.class.items w.take_out.new.self.parting.class.items t bound c.args.key c.args.new a p c.touched-a-end.ensures.within
                (omega (arith, c.loop-a-test.true, c.touched-a-end.ensures.number)) c.member-p.ensures.member (sym c.get.ensures ∙ w.if-get-key.true) e.moved e.stayed h.moved);
          }
      | else-get-key w ↦ record {
        classed = subst (λ (s : ClassedPairs). IsClassed s) (sym w.pairs-is) h.classed;
        size = ap (λ (s : ClassedPairs). s.size) w.pairs-is ∙ h.size;
        rank = ap (λ (s : ClassedPairs). s.parting.rank) w.pairs-is ∙ h.rank;
        behind = subst (λ (s : ClassedPairs). StandsBehind s.parting c.args.k c.args.new) (sym w.pairs-is) h.behind;
        moved =
            subst (λ (s : ClassedPairs). IsMovedTo class0 t.counts t.touched bound c.args.key c.args.new (a + 1) s.parting.class.items) (sym w.pairs-is)
            (IsMovedTo-miss class0 c.loop-a.pairs.parting.class.items t bound c.args.key c.args.new a p c.member-p.ensures.member (λ e. w.if-get-key.false (c.get.ensures ∙ e)) h.moved);
      }
    ]
