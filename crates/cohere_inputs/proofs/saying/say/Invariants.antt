use Rattle.std.proofs.Common.{◌≤◌, take}
use Rattle.std.specs.Prelude.{flat_map}
use Rattle.std.specs.Io.KnownBytes.{Appends}
use Rattle.cohere_inputs.proofs.saying.say.Given as goal

abbrev pub invariant-loop-piece : goal.invariant-loop-piece
invariant-loop-piece g l = record {
  said : Appends (g.E.Sink.written l.fn.err) (g.E.Sink.written l.err) (flat_map (λ piece. piece.now) (take l.piece-index l.pieces));
  later : g.E.Sink.faults l.fn.err ≤ g.E.Sink.faults l.err;
}
