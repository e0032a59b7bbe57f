use Rattle.std.proofs.Common.{◌≡◌, ◌+◌, ◌*◌, List, ℕ, length, drop, get_or, ap, subst, ◌∙◌, arith}
use Rattle.pair_colours.specs.Colouring.{PairColouring}
use Rattle.wl_round.specs.Sweeps.{AreMarks}
use Rattle.wl_round.proofs.PlaceLists.{whole}
use Rattle.wl_round.proofs.Swept.{AllAlike-from, IsParting-from}
use Rattle.wl_round.proofs.sweeping.sweep.Goals as goal

pub returns-clause-none : goal.returns-clause-none
returns-clause-none c =
    let P = c.args.colouring.now in
    let M = c.args.classes.now in
    let within = c.colours-2.ensures.within.colouring in
    let points = c.size-size.ensures.within.colouring.has_points in
    let marked = subst (λ (A : PairColouring). AreMarks A M.colours c.mark_runs-two.new.marks c.mark_runs-two.result) c.in_ok-sides.ensures
    (subst (λ (l : List ℕ). AreMarks c.in_ok-sides.sides l c.mark_runs-two.new.marks c.mark_runs-two.result) c.colours-2.ensures.colours c.mark_runs-two.ensures) in
    AllAlike-from P M points c.requires.sizes (within.has_pairs ∙ ap (λ n. n * n) c.requires.sizes) c.mark_runs-two.new.marks c.mark_runs-two.result c.if-two.false marked

pub returns-then-two-clause-some : goal.returns-then-two-clause-some
returns-then-two-clause-some c =
    let P = c.args.colouring.now in
    let M = c.args.classes.now in
    let marks = c.mark_runs-two.new.marks in
    let within = c.colours-2.ensures.within.colouring in
    let points = c.size-size.ensures.within.colouring.has_points in
    let size = c.size-size.ensures.points in
    let marked = subst (λ (A : PairColouring). AreMarks A M.colours marks c.mark_runs-two.result) c.in_ok-sides.ensures
    (subst (λ (l : List ℕ). AreMarks c.in_ok-sides.sides l marks c.mark_runs-two.result) c.colours-2.ensures.colours c.mark_runs-two.ensures) in
    let len : length marks ≡ c.in_ok-marks.marks.len = c.mark_runs-two.auto.marks ∙ c.deref_mut.ensures.len in
    let same = c.deref-then-two.ensures.value ∙ whole marks (drop (length marks) c.in_ok-marks.marks.items) c.in_ok-marks.marks.len len in
    let l = c.in_ok-listed.ensures in
    IsParting-from P M points c.requires.sizes (within.has_pairs ∙ ap (λ n. n * n) c.requires.sizes) marks c.mark_runs-two.result c.in_ok-listed.field-0 c.if-two.true marked (l.size ∙ size)
    (λ x y hx hy. l.pairs x y (omega (arith, hx, size)) (omega (arith, hy, size)) ∙ (λ i. get_or (same i) (x * size i + y) 0))
