use Rattle.std.proofs.Common.{◌≤◌, ◌+◌, take, Vec, Global, Option, sym, ap, subst, ◌∙◌, arith, refl}
use Rattle.std.specs.Prelude.{All, IfSome}
use Rattle.std.proofs.lemmas.List.Elements.{All-push}
use Rattle.pair_colours.specs.Colouring.{PairColouring, IsRawColouring}
use Rattle.scheme_io.specs.Files.{Files}
use Rattle.script_text.specs.declared.acts.Line.{Line}
use Rattle.cohere_inputs.specs.Bad.{IsRelationFile}
use Rattle.cohere_inputs.specs.Needs.{relation_need}
use Rattle.cohere_inputs.specs.Products.{product_of}
use Rattle.cohere_inputs.proofs.ProductFiles.{AreRead, product_reached, no_product, one_product}
use Rattle.cohere_inputs.proofs.RunFiles.{cause_since}
use Rattle.cohere_inputs.proofs.products.products_in.Goals.{in-Some+in_default-add_product, in_default}
use Rattle.cohere_inputs.proofs.products.products_in.Goals as goal

pub returns-in-Err-clause-halt : goal.returns-in-Err-clause-halt
returns-in-Err-clause-halt g c =
    let files = g.S.Store.files c.args.store.now in
    let name = c.in-Some.name.now in
    let inv = c.loop-line.invariant in
    record {
      need = relation_need name 1;
      is_named = refl;
      reached = product_reached files c.args.lines.now c.loop-line.line-index c.line-item.result name c.loop-line.products.items c.loop-line-test.true
          (ap (λ (line : Line). product_of line.act) (sym c.line-item.is) ∙ c.in-Some.ensures) inv.read;
      cause = cause_since files (g.S.Store.files c.loop-line.store) (relation_need name 1) c.in-Err.why _ _ _ inv.same_files inv.later c.in-Err.ensures.cause;
      form = c.in-Err.ensures.form;
    }

pub loop-line-preserved : goal.loop-line-preserved
loop-line-preserved g c =
    let files = g.S.Store.files c.args.store.now in
    let lines = c.args.lines.now in
    let inv = c.loop-line.invariant in
    let here = ap (λ (line : Line). product_of line.act) (sym c.line-item.is) in
    elim c.match-product_of.branch [
      | in-Some+in_default-add_product w ↦
          let added = w.in_default-add_product.ensures.added in
          let name = w.in-Some.name.now in
          let items = ap (λ (v : Vec PairColouring Global). v.items) w.products-is ∙ added.1 in
          let read = subst (λ (f : Option Files). IfSome f (λ files. IsRelationFile files name 1 added.0)) inv.same_files added.3 in
          let later : g.S.Store.faults c.args.store.now ≤ g.S.Store.faults w.add_product.new.store = omega (arith, inv.later, w.in_default-add_product.ensures.later) in
          record {
            same_files = ap g.S.Store.files w.store-is ∙ w.in_default-add_product.ensures.same_files ∙ inv.same_files;
            later = subst (λ n. g.S.Store.faults c.args.store.now ≤ n) (sym (ap g.S.Store.faults w.store-is)) later;
            raw = subst (All IsRawColouring) (sym items) (All-push IsRawColouring c.loop-line.products.items added.0 inv.raw added.2);
            read = subst (AreRead files (take (c.loop-line.line-index + 1) lines)) (sym items)
                (one_product files lines c.loop-line.line-index c.line-item.result name c.loop-line.products.items added.0 c.loop-line-test.true (here ∙ w.in-Some.ensures) read inv.read);
          }
      | in_default w ↦
          let items = ap (λ (v : Vec PairColouring Global). v.items) w.products-is in
          record {
            same_files = ap g.S.Store.files w.store-is ∙ inv.same_files;
            later = subst (λ n. g.S.Store.faults c.args.store.now ≤ n) (sym (ap g.S.Store.faults w.store-is)) inv.later;
            raw = subst (All IsRawColouring) (sym items) inv.raw;
            read = subst (AreRead files (take (c.loop-line.line-index + 1) lines)) (sym items)
                (no_product files lines c.loop-line.line-index c.line-item.result c.loop-line.products.items c.loop-line-test.true (here ∙ w.in_default.ensures) inv.read);
          }
    ]
