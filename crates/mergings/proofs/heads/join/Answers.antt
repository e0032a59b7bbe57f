use Rattle.std.proofs.Common.{◌≡◌, ◌+◌, ◌<◌, length, sym, subst, ◌∙◌, arith}
use Rattle.mergings.specs.Searches.{IsJoined}
use Rattle.mergings.proofs.Joinings.{IsJoining, joining_none, joining_yes, joining_no, joined_all}
use Rattle.mergings.proofs.heads.join.Goals as goal
use Rattle.mergings.proofs.heads.join.Goals.{then-has_colour, else-has_colour}

pub loop-colour-init : goal.loop-colour-init
loop-colour-init c = joining_none c.args.set c.args.head c.args.heads.now

pub loop-colour-preserved : goal.loop-colour-preserved
loop-colour-preserved c =
    let mask = c.args.set in
    let head = c.args.head in
    let d = c.loop-colour.colour in
    let old = c.args.heads.now in
    let now = c.loop-colour.heads in
    let j = c.loop-colour.invariant in
    let inside : d < length now = omega (arith, j.len, c.requires.heads, c.loop-colour-test.true, c.requires.small) in
    elim c.if-has_colour.branch [
      | then-has_colour w ↦ subst (IsJoining mask head (d + 1) old) (sym w.heads-is) (joining_yes mask head d old now j (sym c.has_colour.ensures ∙ w.if-has_colour.true) inside)
      | else-has_colour w ↦ subst (IsJoining mask head (d + 1) old) (sym w.heads-is) (joining_no mask head d old now j (sym c.has_colour.ensures ∙ w.if-has_colour.false))
    ]

pub returns : goal.returns
returns c =
    let end : c.loop-colour.colour ≡ c.args.rank = omega (arith, c.loop-colour-test.false, c.loop-colour.auto.colour-end) in
    subst (λ n. IsJoined n c.args.set c.args.head c.args.heads.now c.loop-colour.heads) end (joined_all c.args.set c.args.head c.loop-colour.colour c.args.heads.now c.loop-colour.heads c.loop-colour.invariant)
