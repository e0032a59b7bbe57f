use Rattle.std.proofs.Common.{◌≡◌, ◌+◌, ◌<◌, length, ap, sym, ◌∙◌, rules, arith, tests}
use Rattle.text_lines.proofs.FirstWord.{words_from-nil, words_from-first}
use Rattle.text_lines.proofs.cut_words.TextWordsIterator.next.Goals as goal

pub returns-then-is_empty-clause-steps : goal.returns-then-is_empty-clause-steps
returns-then-is_empty-clause-steps c =
    let no_bytes : length c.split_at-2.result.0.now ≡ 0 = search (rules, tests) in
    let no_word : c.word_len.result ≡ 0 = omega arith in
    let none = words_from-nil c.self.inside.place c.blanks_len.result (c.self.inside.place + length c.split_at.result.0.now + length c.split_at-2.result.0.now) c.self.inside.rest.now c.split_at.result.1.now c.split_at-2.result.1.now
    c.blanks_len.ensures.len c.split_at.ensures.back (rw no_word at c.word_len.ensures.len) (rw no_word at c.split_at-2.ensures.back) in
    (sym c.self.view_is ∙ none.0, none.1)

pub returns-clause-steps : goal.returns-clause-steps
returns-clause-steps c =
    let some : 0 < c.word_len.result = search (rules, tests) in
    sym c.self.view_is ∙ words_from-first c.self.inside.place c.blanks_len.result c.word_len.result _ _ c.self.inside.rest.now c.split_at.result.1.now c.split_at-2.result.0.now c.split_at-2.result.1.now
    c.blanks_len.ensures.len c.split_at.ensures.back c.word_len.ensures.len some c.split_at-2.ensures.front c.split_at-2.ensures.back c.split_at.ensures.front_len c.split_at-2.ensures.front_len

pub returns-clause-goes : goal.returns-clause-goes
returns-clause-goes c =
    let some : 0 < c.word_len.result = search (rules, tests) in
    let shorter = ap length (sym c.self.view_is ∙ words_from-first c.self.inside.place c.blanks_len.result c.word_len.result _ _ c.self.inside.rest.now c.split_at.result.1.now c.split_at-2.result.0.now c.split_at-2.result.1.now
    c.blanks_len.ensures.len c.split_at.ensures.back c.word_len.ensures.len some c.split_at-2.ensures.front c.split_at-2.ensures.back c.split_at.ensures.front_len c.split_at-2.ensures.front_len) in
    search rules
