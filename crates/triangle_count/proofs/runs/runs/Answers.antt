use Rattle.std.proofs.Common.{◌≡◌, ◌+◌, ◌++◌, ◌∷◌, [], List, sym, ap, subst, ◌∙◌}
use Rattle.std.proofs.lemmas.Bool.{OnTrue_at, OnFalse_at}
use Rattle.triangle_count.specs.declared.rows.Entry.{Entry}
use Rattle.triangle_count.proofs.Tallies.{IsRun, IsRun-within, IsRun-next}
use Rattle.triangle_count.proofs.runs.runs.Goals as goal
use Rattle.triangle_count.proofs.runs.runs.Goals.{then-ends_run+in_ok-push, else-ends_run}

pub loop-i-preserved : goal.loop-i-preserved
loop-i-preserved c =
    let codes = c.args.codes.now in
    let i = c.loop-i.i in
    elim c.if-ends_run.branch [
      | then-ends_run+in_ok-push w ↦
          let items : c.if-ends_run.entries.items ≡ c.loop-i.entries.items ++ w.entry.result ∷ [] = ap (λ v. v.items) w.entries-is ∙ w.in_ok-push.ensures.items in
          let next = IsRun-next codes c.loop-i.start i c.loop-i.entries.items w.entry.result c.requires.sorted c.loop-i-test.true (OnTrue_at w.if-ends_run.true c.ends_run.ensures.ends)
          c.loop-i.invariant w.entry.ensures.code w.entry.ensures.right w.entry.ensures.count in
          subst (λ s. IsRun codes s (i + 1) c.if-ends_run.entries.items) (sym w.start-is) (subst (λ (es : List Entry). IsRun codes (i + 1) (i + 1) es) (sym items) next)
      | else-ends_run w ↦
          let more = OnFalse_at w.if-ends_run.false c.ends_run.ensures.goes_on in
          subst (λ s. IsRun codes s (i + 1) c.if-ends_run.entries.items) (sym w.start-is)
          (subst (λ (es : List Entry). IsRun codes c.loop-i.start (i + 1) es) (sym (ap (λ v. v.items) w.entries-is))
          (IsRun-within codes c.loop-i.start i c.loop-i.entries.items more.0 more.1 c.loop-i.invariant))
    ]
