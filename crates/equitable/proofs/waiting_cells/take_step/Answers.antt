use Rattle.std.proofs.Common.{sym, subst, ◌∙◌, arith}
use Rattle.std.proofs.lemmas.Bool.{false≢true}
use Rattle.equitable.specs.Acceptance.{IsReached, one_cell}
use Rattle.equitable.proofs.Following.{followed_more}
use Rattle.equitable.proofs.Parts.{whole_same}
use Rattle.equitable.proofs.TextSizes.{reached_few}
use Rattle.equitable.specs.CellSplit.{IsAllowed, key_of}
use Rattle.equitable.proofs.waiting_cells.take_step.Goals as goal

pub split-requires-clause-points : goal.split-requires-clause-points
split-requires-clause-points c = c.requires.reached.points

pub returns-then-not-split : goal.returns-then-not-split
returns-then-not-split c =
    let G = c.args.arcs.now in
    let X = c.args.partition.now in
    let same = whole_same X c.args.step.cell (key_of G X c.args.step) (λ h. false≢true (sym c.if-not-split.true ∙ c.in_ok-split.ensures.parts.1 h)) in
    subst (λ Y. IsReached G Y c.args.steps.now) (sym (c.in_ok-split.ensures.split ∙ same)) c.requires.reached

pub push-requires : goal.push-requires
push-requires c =
    omega (arith, reached_few c.args.arcs.now c.args.partition.now c.args.steps.now c.requires.fits c.requires.reached)

pub returns : goal.returns
returns c =
    let G = c.args.arcs.now in
    let allowed : IsAllowed G c.args.partition.now c.args.step =
    record { names = c.names-named.ensures.0 c.if-not-named.false; parts = c.in_ok-split.ensures.parts.0 c.if-not-split.false } in
    subst (IsReached G c.split.new.self) (sym c.in_ok-push.ensures.ok)
    (followed_more G (one_cell G.size) c.args.partition.now c.split.new.self c.args.steps.now c.args.step c.requires.reached allowed
    c.in_ok-split.ensures.split)
