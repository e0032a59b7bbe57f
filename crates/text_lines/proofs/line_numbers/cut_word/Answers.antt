use Rattle.std.proofs.Common.{refl}
use Rattle.text_lines.proofs.LineWords.{cut_last, cut_more}
use Rattle.text_lines.proofs.line_numbers.cut_word.Goals as goal

pub returns-in-empty : goal.returns-in-empty
returns-in-empty c =
    cut_last c.args.line.now c.split_at.result.0.now c.split_at.result.1.now c.word_len-end.result c.word_len-end.ensures.len c.split_at.ensures.front c.split_at.ensures.back c.in-empty.len_below

pub returns-in-len1-up : goal.returns-in-len1-up
returns-in-len1-up c =
    cut_more c.args.line.now c.split_at.result.0.now c.split_at.result.1.now _ c.word_len-end.result c.word_len-end.ensures.len c.split_at.ensures.front c.split_at.ensures.back c.in-len1-up.len_at_least refl
