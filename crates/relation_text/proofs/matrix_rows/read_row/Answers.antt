use Rattle.std.proofs.Common.{◌∙◌, sym, arith, rules, tests}
use Rattle.text_lines.specs.Views.{part_of}
use Rattle.relation_text.proofs.RowLoops.{ReadsRow-none, ReadsRow-more, has_word, no_word, fault_left-few}
use Rattle.pair_colours.proofs.SameColours.{IsColouring-set}
use Rattle.relation_text.proofs.matrix_rows.read_row.Goals as goal

pub loop-y-init : goal.loop-y-init
loop-y-init c = ReadsRow-none (part_of c.args.row) c.args.colouring.now c.args.x c.words-left.result c.requires.colouring c.words-left.ensures c.in_default.ensures.none

pub returns-in_default-next-clause-fault : goal.returns-in_default-next-clause-fault
returns-in_default-next-clause-fault c =
    let so_far = c.loop-y.invariant in
    let none = c.in_default-next.ensures.steps.0 in
    let few = no_word (part_of c.args.row) c.args.colouring.now c.loop-y.colouring c.args.x c.loop-y.y c.loop-y.left so_far none in
    sym (so_far.tests ∙ fault_left-few c.args.colouring.now.size c.loop-y.y (part_of c.args.row) c.loop-y.left none (omega arith))

pub returns-then-has_leading_zero-clause-within : goal.returns-then-has_leading_zero-clause-within
returns-then-has_leading_zero-clause-within c =
    (has_word (part_of c.args.row) c.args.colouring.now c.loop-y.colouring c.args.x c.loop-y.y c.loop-y.left c.next.new.self (part_of c.in-Some-next.word) c.loop-y.invariant c.in-Some-next.ensures.steps).within

pub colour_in-requires : goal.colour_in-requires
colour_in-requires c =
    (has_word (part_of c.args.row) c.args.colouring.now c.loop-y.colouring c.args.x c.loop-y.y c.loop-y.left c.next.new.self (part_of c.in-Some-next.word) c.loop-y.invariant c.in-Some-next.ensures.steps).digits

pub returns-in_default-colour_in-clause-within : goal.returns-in_default-colour_in-clause-within
returns-in_default-colour_in-clause-within c =
    (has_word (part_of c.args.row) c.args.colouring.now c.loop-y.colouring c.args.x c.loop-y.y c.loop-y.left c.next.new.self (part_of c.in-Some-next.word) c.loop-y.invariant c.in-Some-next.ensures.steps).within

pub loop-y-preserved : goal.loop-y-preserved
loop-y-preserved c =
    let same = c.loop-y.invariant.points in
    let others = c.set.ensures.others in
    ReadsRow-more (part_of c.args.row) c.args.colouring.now c.loop-y.colouring c.set.new.self c.args.x c.loop-y.y c.in-Some-colour_in.colour c.loop-y.left c.next.new.self (part_of c.in-Some-next.word)
    c.loop-y.invariant c.in-Some-next.ensures.steps (omega arith) (search (rules, tests)) c.in-Some-colour_in.ensures
    (IsColouring-set c.loop-y.colouring c.set.new.self _ _ c.loop-y.invariant.colouring c.set.ensures.points c.set.ensures.changed) (c.set.ensures.points ∙ same) c.set.ensures.pair
    (λ u v h l e. others u v (omega (arith, h)) (omega (arith, l)) e) (omega arith)

pub returns-clause-within : goal.returns-clause-within
returns-clause-within c =
    (has_word (part_of c.args.row) c.args.colouring.now c.loop-y.colouring c.args.x c.loop-y.y c.loop-y.left c.next-2.new.self (part_of c.in_ok-word.word) c.loop-y.invariant c.in_ok-word.ensures.steps).within
