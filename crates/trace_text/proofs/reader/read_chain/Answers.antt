use Rattle.std.proofs.Common.{sym, subst}
use Rattle.std.proofs.lemmas.Result.{err_from_is_err_and}
use Rattle.trace_text.specs.declared.reader.After.TheVariants.{Stage}
use Rattle.trace_text.proofs.ChainRead.{ReadsChain, chain_row_fault, chain_step_fault, chain_more}
use Rattle.trace_text.proofs.reader.read_chain.Goals as goal

pub returns-in_err-colours-clause-fault : goal.returns-in_err-colours-clause-fault
returns-in_err-colours-clause-fault c =
    let p = err_from_is_err_and c.from_residual.result c.from_residual.ensures.1 in
    rw (p.1, p.2)
    (chain_row_fault c.args.version c.args.size c.args.cursor.now.line c.loop-chain.cursor.line c.args.cursor.now.lines c.loop-chain.cursor.lines c.loop-chain.chain c.in_err-colours.field-0.0
    c.loop-chain.invariant c.in_err-colours.ensures.fault)

pub returns-in_err-steps-clause-fault : goal.returns-in_err-steps-clause-fault
returns-in_err-steps-clause-fault c =
    let p = err_from_is_err_and c.from_residual-in_err-steps.result c.from_residual-in_err-steps.ensures.1 in
    let m = c.in_ok-colours.ensures in
    rw (p.1, p.2)
    (chain_step_fault c.args.version c.args.size c.args.cursor.now.line c.loop-chain.cursor.line c.read_matrix.new.cursor.line c.args.cursor.now.lines c.loop-chain.cursor.lines c.read_matrix.new.cursor.lines
    c.loop-chain.chain c.in_ok-colours.colours c.in_err-steps.field-0.0 c.loop-chain.invariant m.points m.clean m.rows m.number (c.in_err-steps.ensures.fault c.args.size))

pub returns-in-Closure-clause-clean : goal.returns-in-Closure-clause-clean
returns-in-Closure-clause-clean c =
    let m = c.in_ok-colours.ensures in
    let s = c.in_ok-steps.ensures in
    let r = chain_more c.args.version c.args.size c.args.cursor.now.line c.loop-chain.cursor.line c.read_matrix.new.cursor.line c.read_steps.new.cursor.line c.args.cursor.now.lines c.loop-chain.cursor.lines c.read_matrix.new.cursor.lines c.read_steps.new.cursor.lines
    c.loop-chain.chain c.in_ok-colours.colours c.in_ok-steps.steps c.in_ok-steps.after c.loop-chain.invariant m.points m.raw m.clean m.rows m.number s.small s.lines s.clean in
    (rw c.in-Closure.is at r).faults

pub loop-chain-preserved : goal.loop-chain-preserved
loop-chain-preserved c =
    let m = c.in_ok-colours.ensures in
    let s = c.in_ok-steps.ensures in
    let r = chain_more c.args.version c.args.size c.args.cursor.now.line c.loop-chain.cursor.line c.read_matrix.new.cursor.line c.read_steps.new.cursor.line c.args.cursor.now.lines c.loop-chain.cursor.lines c.read_matrix.new.cursor.lines c.read_steps.new.cursor.lines
    c.loop-chain.chain c.in_ok-colours.colours c.in_ok-steps.steps c.in_ok-steps.after c.loop-chain.invariant m.points m.raw m.clean m.rows m.number s.small s.lines s.clean in
    subst (λ chain. ReadsChain c.args.version c.args.size c.args.cursor.now.line c.args.cursor.now.lines c.read_steps.new.cursor.line c.read_steps.new.cursor.lines chain Stage) (sym c.in_ok-push.ensures.ok) (rw c.in-Stage.is at r)
