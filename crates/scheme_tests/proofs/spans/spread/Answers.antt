use Rattle.std.proofs.Common.{◌≡◌, ◌+◌, ◌<◌, ◌++◌, ◌∷◌, [], ℕ, Bool, List, true, false, length, set, ◌⊎◌, inl, inr, sym, ap, subst, ◌∙◌, arith}
use Rattle.std.proofs.lemmas.List.{get_or_default}
use Rattle.std.proofs.lemmas.Bool.{both_ways}
use Rattle.scheme_tests.specs.Steps.{IsSpreadTo, Step, mark_at, work_left}
use Rattle.scheme_tests.proofs.SearchLemmas.{spread_mark, spread_skip, spread_end, work_mark}
use Rattle.scheme_tests.proofs.spans.spread.Goals as goal
use Rattle.scheme_tests.proofs.spans.spread.Goals.{then-not-index+then-is_step+in_ok-push, else-not-index, else-not-index-via-then-not-index+else-is_step, else-not-index-via-else-not-index}

pub loop-y-preserved : goal.loop-y-preserved
loop-y-preserved c =
    let K = c.args.k.now in
    let class = c.args.class in
    let x = c.args.x in
    let y = c.loop-y.y in
    let marks = c.loop-y.marks.items in
    let waiting = c.loop-y.waiting.items in
    let low : y < length marks = omega (arith, c.loop-y-test.true, c.size-y-end.ensures.points, c.loop-y.invariant.0.search.len) in
    let at : c.index.result.now ≡ mark_at marks y = c.index.ensures ∙ get_or_default marks y c.index.result.now false low in
    elim c.if-not-index.branch [
      | then-not-index+then-is_step+in_ok-push w ↦
          let free : mark_at marks y ≡ false = sym at ∙ w.if-not-index.true in
          let step = w.is_step.ensures.0 w.if-is_step.true in
          let new : c.if-not-index.marks.items ≡ set marks y true = ap (λ v. v.items) w.marks-is in
          let more : c.if-not-index.waiting.items ≡ waiting ++ y ∷ [] = ap (λ v. v.items) w.waiting-is ∙ w.in_ok-push.ensures.items in (
            spread_mark K class x y marks c.if-not-index.marks.items waiting c.if-not-index.waiting.items (omega arith) step new more c.loop-y.invariant.0,
            work_mark marks c.if-not-index.marks.items waiting c.if-not-index.waiting.items y low free new more ∙ c.loop-y.invariant.1,
          )
      | else-not-index w ↦
          let same : c.if-not-index.marks.items ≡ marks = ap (λ v. v.items) w.marks-is in
          let kept : c.if-not-index.waiting.items ≡ waiting = ap (λ v. v.items) w.waiting-is in
          let known : (mark_at marks y ≡ true) ⊎ (Step K class x y → ⊥) = elim w.else-not-index.branch [
            | else-not-index-via-then-not-index+else-is_step v ↦ inr (λ s. both_ways _ v.if-is_step.false (v.is_step.ensures.1 s))
            | else-not-index-via-else-not-index v ↦ inl (sym at ∙ v.if-not-index.false)
          ] in (
            subst (λ (ms : List Bool). IsSpreadTo K class x (y + 1) ms c.if-not-index.waiting.items) (sym same)
                (subst (λ (ws : List ℕ). IsSpreadTo K class x (y + 1) marks ws) (sym kept) (spread_skip K class x y marks waiting known c.loop-y.invariant.0)),
            (λ i. work_left (same i) (kept i)) ∙ c.loop-y.invariant.1,
          )
    ]

pub returns-clause-spread : goal.returns-clause-spread
returns-clause-spread c = spread_end c.args.k.now c.args.class c.args.x c.loop-y.y c.loop-y.marks.items c.loop-y.waiting.items (omega arith) c.loop-y.invariant.0
