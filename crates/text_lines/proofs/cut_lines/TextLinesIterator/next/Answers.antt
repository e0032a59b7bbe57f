use Rattle.std.proofs.Common.{◌<◌, length, ap, sym, ◌∙◌, rules, tests}
use Rattle.text_lines.proofs.FirstLine.{lines_from-step}
use Rattle.text_lines.proofs.cut_lines.TextLinesIterator.next.Goals as goal

pub returns-clause-steps : goal.returns-clause-steps
returns-clause-steps c =
    let some : 0 < length c.self.inside.rest.now = search (rules, tests) in
    sym c.self.view_is ∙ lines_from-step c.self.inside.place c.self.inside.rest.now c.line_len-end.result c.min-after.result c.without_return-bytes.result.now c.split_at.result.1.now
    c.line_len-end.ensures.len c.min-after.ensures some c.without_return-bytes.ensures c.split_at.ensures.back

pub returns-clause-goes : goal.returns-clause-goes
returns-clause-goes c =
    let some : 0 < length c.self.inside.rest.now = search (rules, tests) in
    let shorter = ap length (sym c.self.view_is ∙ lines_from-step c.self.inside.place c.self.inside.rest.now c.line_len-end.result c.min-after.result c.without_return-bytes.result.now c.split_at.result.1.now
    c.line_len-end.ensures.len c.min-after.ensures some c.without_return-bytes.ensures c.split_at.ensures.back) in
    search rules
