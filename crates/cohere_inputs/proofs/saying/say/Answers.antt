use Rattle.std.proofs.Common.{List, ℕ, [], inr, Bor}
use Rattle.cohere_inputs.proofs.Pieces.{parts_at, part_said, Rose_since}
use Rattle.cohere_inputs.proofs.saying.say.Goals as goal

pub returns-in-Err : goal.returns-in-Err
returns-in-Err g c =
    let none : Bor (List ℕ) = record { ref_ptr = (0, 0); now = [] } in
    let parts = parts_at (λ (piece : Bor (List ℕ)). piece.now) c.args.pieces.now c.loop-piece.piece-index none c.loop-piece-test.true in
    let said = part_said _ _ _ _ _ _ _ parts c.loop-piece.invariant.said c.in-Err.ensures.part in
    inr (said.0, said.1, Rose_since _ _ _ c.loop-piece.invariant.later c.in-Err.ensures.failed)
