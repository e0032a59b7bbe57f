use Rattle.std.proofs.Common.{◌∷◌, List, ℕ, sym, ◌∙◌, subst}
use Rattle.std.specs.Prelude.{IfOk}
use Rattle.std.proofs.lemmas.Result.{IfErr-weaker}
use Rattle.script_text.proofs.KeywordTests.{spelling-keyword_of, unknown_first}
use Rattle.script_text.proofs.ActWords.{unknown_word, count_of_texts, wrong_count, content_fails}
use Rattle.script_text.specs.Answers.{texts}
use Rattle.script_text.specs.Grammar.{AsksFor}
use Rattle.script_text.proofs.act_words.act_of.Goals as goal

pub returns-in_default-clause-err : goal.returns-in_default-clause-err
returns-in_default-clause-err c = unknown_first _ _ (sym c.in_default.ensures)

pub returns-then-has_unknown_word-clause-err : goal.returns-then-has_unknown_word-clause-err
returns-then-has_unknown_word-clause-err c = unknown_word _ c.in-Some.keyword _ (spelling-keyword_of _ c.in-Some.keyword (sym c.in-Some.ensures)) (sym c.if-has_unknown_word.ensures)

pub returns-then-not-allows-clause-err : goal.returns-then-not-allows-clause-err
returns-then-not-allows-clause-err c = wrong_count _ c.in-Some.keyword _ (spelling-keyword_of _ c.in-Some.keyword (sym c.in-Some.ensures)) (sym c.if-has_unknown_word.ensures) (count_of_texts c.in-Some.keyword c.args.others.now _ (sym c.allows.ensures ∙ c.if-not-allows.true))

pub returns-clause-err : goal.returns-clause-err
returns-clause-err c =
    IfErr-weaker c.keyword_act.result _ _ (content_fails _ c.in-Some.keyword _ (spelling-keyword_of _ c.in-Some.keyword (sym c.in-Some.ensures)) (sym c.if-has_unknown_word.ensures) (count_of_texts c.in-Some.keyword c.args.others.now _ (sym c.allows.ensures ∙ c.if-not-allows.false))) c.keyword_act.ensures.err

pub returns-clause-ok : goal.returns-clause-ok
returns-clause-ok c =
    subst (λ (first : List ℕ). IfOk c.keyword_act.result (AsksFor (first ∷ texts c.args.others.now))) (sym (spelling-keyword_of _ c.in-Some.keyword (sym c.in-Some.ensures))) c.keyword_act.ensures.ok
