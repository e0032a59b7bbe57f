use Rattle.std.proofs.Common.{◌∙◌, List, get_or, take, arith, ap, sym, subst}
use Rattle.std.specs.Io.KnownBytes.{Appends}
use Rattle.scheme_io.specs.Bytes.{AppendsPart}
use Rattle.pair_colours.specs.Colouring.{PairColouring}
use Rattle.script_text.specs.declared.acts.Line.{Line}
use Rattle.cohere_core.specs.declared.answering.SessionFault.TheVariants.{SinkFailed, NoMemory}
use Rattle.cohere_core.specs.Answer.{Answers, IsHalfway, Stopped, TakesMemory}
use Rattle.cohere_core.specs.Products.{HasProduct, left_by, left_after}
use Rattle.cohere_core.proofs.ProductLists.{left_more, product_at}
use Rattle.cohere_core.proofs.Runs.{at_fault, one_more, cut_short, unanswered}
use Rattle.cohere_core.proofs.answering.session.Goals as goal

pub answer-requires-clause-product : goal.answer-requires-clause-product
answer-requires-clause-product g c =
    let lines = c.args.lines.now in
    let i = c.loop-line.line-index in
    let left = left_after c.args.products.now (take i lines) in
    let at : HasProduct left (get_or lines i c.line-item.result).act = product_at c.args.products.now lines i c.line-item.result c.loop-line-test.true c.requires.products in
    let here : HasProduct left c.line-item.result.act = subst (λ (line : Line). HasProduct left line.act) (sym c.line-item.is) at in
    subst (λ (products : List PairColouring). HasProduct products c.line-item.result.act) (sym c.loop-line.invariant.left) here

pub returns-in_err-text-clause-stopped : goal.returns-in_err-text-clause-stopped
returns-in_err-text-clause-stopped g c =
    let lines = c.args.lines.now in
    let i = c.loop-line.line-index in
    let old = c.loop-line.bench in
    let new = c.answer.new.bench in
    let at = get_or lines i c.line-item.result in
    let here = subst (λ (line : Line). IsHalfway (TakesMemory line.act) old new (Answers old c.loop-line.left.now line.act new)) c.line-item.is c.in_err-text.ensures.halfway in
    let halfway = subst (λ (products : List PairColouring). IsHalfway (TakesMemory at.act) old new (Answers old products at.act new)) c.loop-line.invariant.left here in
    let stopped = unanswered lines c.args.products.now i c.line-item.result _ _ _ _ _ c.loop-line-test.true c.loop-line.invariant.history c.requires.products c.loop-line.invariant.answered halfway in
    at_fault (λ fault. Stopped fault c.args.bench.now c.args.products.now lines new _ _) c.from_residual.result NoMemory c.from_residual.ensures.1 stopped

pub returns-in_err-put_all-clause-stopped : goal.returns-in_err-put_all-clause-stopped
returns-in_err-put_all-clause-stopped g c =
    let lines = c.args.lines.now in
    let i = c.loop-line.line-index in
    let old = c.loop-line.bench in
    let new = c.answer.new.bench in
    let text = c.in_ok-text.text.items in
    let at = get_or lines i c.line-item.result in
    let here = subst (λ (line : Line). Answers old c.loop-line.left.now line.act new text) c.line-item.is c.in_ok-text.ensures.answered in
    let answers = subst (λ (products : List PairColouring). Answers old products at.act new text) c.loop-line.invariant.left here in
    let part = subst (AppendsPart (g.O.Sink.written c.loop-line.out) (g.O.Sink.written c.put_all.new.sink)) c.deref.ensures.value c.in_err-put_all.ensures.part in
    let stopped = cut_short lines c.args.products.now i c.line-item.result _ _ _ _ _ _ _ c.loop-line-test.true answers c.loop-line.invariant.answered part in
    at_fault (λ fault. Stopped fault c.args.bench.now c.args.products.now lines new _ _) c.from_residual-in_err-put_all.result SinkFailed c.from_residual-in_err-put_all.ensures.1 stopped

pub loop-line-preserved : goal.loop-line-preserved
loop-line-preserved g c =
    let lines = c.args.lines.now in
    let i = c.loop-line.line-index in
    let old = c.loop-line.bench in
    let new = c.answer.new.bench in
    let text = c.in_ok-text.text.items in
    let at = get_or lines i c.line-item.result in
    let before = left_after c.args.products.now (take i lines) in
    let here = subst (λ (line : Line). Answers old c.loop-line.left.now line.act new text) c.line-item.is c.in_ok-text.ensures.answered in
    let answers = subst (λ (products : List PairColouring). Answers old products at.act new text) c.loop-line.invariant.left here in
    let added = subst (Appends (g.O.Sink.written c.loop-line.out) (g.O.Sink.written c.put_all.new.sink)) c.deref.ensures.value c.in_ok-put_all.ensures.all in
    record {
      answered = one_more lines c.args.products.now i c.line-item.result _ _ _ _ _ _ _ c.loop-line-test.true answers c.loop-line.invariant.answered added;
      left = c.left_by-left.ensures ∙ ap (λ (products : List PairColouring). left_by products c.line-item.result.act) c.loop-line.invariant.left
          ∙ ap (λ (line : Line). left_by before line.act) c.line-item.is ∙ sym (left_more c.args.products.now lines i c.line-item.result c.loop-line-test.true);
      history = c.in_ok-text.ensures.within;
      later = omega arith;
    }
