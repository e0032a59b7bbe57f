use Rattle.std.proofs.Common.{length}
use Rattle.trace_text.specs.declared.reader.After.TheVariants.{Stage}
use Rattle.trace_text.proofs.ChainRead.{ReadsChain}
use Rattle.trace_text.proofs.reader.read_chain.Given as goal

abbrev pub invariant-loop-chain : goal.invariant-loop-chain
invariant-loop-chain l = ReadsChain l.version l.size l.initial.cursor.line l.initial.cursor.lines l.cursor.line l.cursor.lines l.chain Stage

abbrev pub decreases-loop-chain : goal.decreases-loop-chain
decreases-loop-chain l = length l.cursor.lines
