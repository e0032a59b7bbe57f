use Rattle.std.proofs.Common.{ℕ, List, sym, subst}
use Rattle.std.specs.Prelude.{IfOk}
use Rattle.script_text.specs.declared.acts.Act.{Act}
use Rattle.script_text.specs.declared.acts.Act.TheVariants.{Quotient, Sub}
use Rattle.cohere_core.specs.Answer.{Tells}
use Rattle.cohere_core.proofs.queries.query_answer.Goals as goal

pub returns-in-Quotient : goal.returns-in-Quotient
returns-in-Quotient g c =
    let h = c.args.bench.now in
    let told = subst (λ (set : List ℕ). IfOk c.divided.result (λ text. Tells h (Quotient set) text.items)) c.as_slice-in-Quotient.ensures c.divided.ensures in
    subst (λ (act : Act). IfOk c.divided.result (λ text. Tells h act text.items)) (sym c.in-Quotient.is) told

pub returns-in-Sub : goal.returns-in-Sub
returns-in-Sub g c =
    let h = c.args.bench.now in
    let told = subst (λ (set : List ℕ). IfOk c.restricted.result (λ text. Tells h (Sub c.in-Sub.x set) text.items)) c.as_slice-in-Sub.ensures c.restricted.ensures in
    subst (λ (act : Act). IfOk c.restricted.result (λ text. Tells h act text.items)) (sym c.in-Sub.is) told
