use Rattle.std.proofs.Common.{length, ◌∙◌, ap, sym, subst}
use Rattle.std.specs.Prelude.{All}
use Rattle.pair_colours.specs.Colouring.{IsRawColouring}
use Rattle.script_text.specs.Script.{product_count}
use Rattle.worked_runs.proofs.refusing_visitors.a_bench_after_a_refusal.Goals as goal

pub session-answer-requires-clause-products : goal.session-answer-requires-clause-products
session-answer-requires-clause-products g c = record {
  one_each = ap length c.deref-2.ensures.value ∙ c.in_ok-inputs.ensures.one_each ∙ ap product_count (sym c.deref.ensures.value);
  raw = subst (All IsRawColouring) (sym c.deref-2.ensures.value) c.in_ok-inputs.ensures.products;
}
