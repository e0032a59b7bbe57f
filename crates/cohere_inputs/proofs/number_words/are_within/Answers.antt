use Rattle.std.proofs.Common.{◌∙◌, ◌≡◌, ap, sym}
use Rattle.std.specs.Prelude.{◌&&◌, nat_le, string_bytes}
use Rattle.cohere_inputs.specs.NumberWords.{number_in}
use Rattle.cohere_inputs.proofs.WordNumbers.{is_within, not_within, one_fails, one_more_passes}
use Rattle.cohere_inputs.proofs.number_words.are_within.Goals as goal

pub returns-then-number-lt1 : goal.returns-then-number-lt1
returns-then-number-lt1 c =
    let n = c.number_at-number.result in
    let is : number_in (string_bytes c.word-item.result) ≡ n = ap number_in (sym c.as_str.ensures.value) ∙ sym c.number_at-number.ensures in
    one_fails (λ word. nat_le 1 (number_in word) && nat_le (number_in word) c.args.limit) c.args.words.now c.loop-word.word-index c.word-item.result c.loop-word-test.true c.word-item.is
    (ap (λ n. nat_le 1 n && nat_le n c.args.limit) is ∙ not_within n c.args.limit c.then-number-lt1.either)

pub loop-word-preserved : goal.loop-word-preserved
loop-word-preserved c =
    let n = c.number_at-number.result in
    let is : number_in (string_bytes c.word-item.result) ≡ n = ap number_in (sym c.as_str.ensures.value) ∙ sym c.number_at-number.ensures in
    one_more_passes (λ word. nat_le 1 (number_in word) && nat_le (number_in word) c.args.limit) c.args.words.now c.loop-word.word-index c.word-item.result c.loop-word-test.true c.word-item.is
    (ap (λ n. nat_le 1 n && nat_le n c.args.limit) is ∙ is_within n c.args.limit c.if-number-lt1.false c.if-number-limit.false) c.loop-word.invariant
