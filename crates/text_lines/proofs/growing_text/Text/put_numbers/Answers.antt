use Rattle.std.proofs.Common.{◌++◌, take, get_or, sym, ap, ◌∙◌, arith}
use Rattle.std.proofs.lemmas.List.{length-take, take_more}
use Rattle.text_lines.specs.Joined.{joined}
use Rattle.text_lines.proofs.JoinedNumbers.{numbers_more}
use Rattle.text_lines.proofs.growing_text.Text.put_numbers.Goals as goal

pub loop-place-preserved : goal.loop-place-preserved
loop-place-preserved c =
    let numbers = c.args.numbers.now in
    let place = c.loop-place.place in
    numbers_more c.args.separator (take place numbers) c.args.self.now c.loop-place.self c.put_next.new.self place (get_or numbers place 0) (omega (arith, length-take place numbers)) c.loop-place.invariant c.in_ok-put_next.ensures
    ∙ ap (λ l. c.args.self.now ++ joined c.args.separator l) (sym (take_more numbers place 0 c.loop-place-test.true))
