use Rattle.std.proofs.Common.{◌≡◌, ◌≤◌, take}
use Rattle.recolour_bench.specs.History.{IsHistory}
use Rattle.cohere_core.specs.Answer.{Answered}
use Rattle.cohere_core.specs.Products.{left_after}
use Rattle.cohere_core.proofs.answering.session.Given as goal

abbrev pub invariant-loop-line : goal.invariant-loop-line
invariant-loop-line g l = record {
  answered : Answered l.fn.bench l.fn.products (take l.line-index l.lines) l.bench (g.O.Sink.written l.fn.out) (g.O.Sink.written l.out);
  left : l.left ≡ left_after l.fn.products (take l.line-index l.lines);
  history : IsHistory l.bench;
  later : g.O.Sink.faults l.fn.out ≤ g.O.Sink.faults l.out;
}
