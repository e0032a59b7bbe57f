use Rattle.std.proofs.Common.{sym, subst, ◌∙◌, arith}
use Rattle.std.proofs.lemmas.Bool.{OnTrue_from, OnFalse_from}
use Rattle.wl_round.specs.CodeCounts.{AreSides, IsCountOf, sum_at}
use Rattle.wl_round.proofs.SideLemmas.{AreSidesOf, AreSides-of, IsCountOf-codes, alike_by_counts, kind_of_alike, sum_counts, unlike_by_count}
use Rattle.wl_round.proofs.comparing.is_alike.Goals as goal

pub returns-then-not-are_of_one_kind-clause-no : goal.returns-then-not-are_of_one_kind-clause-no
returns-then-not-are_of_one_kind-clause-no c = λ a.
    let r = c.requires in
    c.if-not-are_of_one_kind.ensures.no (kind_of_alike c.args.tables.now r.tables c.args.a.x c.args.a.y c.args.b.x c.args.b.y r.first_x r.first_y r.x r.y a)

pub exceeding-requires-clause-sides : goal.exceeding-requires-clause-sides
exceeding-requires-clause-sides c =
    let t = c.args.tables.now in
    let left = c.left.result.now in
    let right = c.right.result.now in
    let sides : AreSidesOf t c.args.b.x c.args.b.y left right =
    record { left_len = c.left.ensures.len; right_len = c.right.ensures.len; left = c.left.ensures.entries; right = c.right.ensures.entries } in
    subst (AreSides left right) (sym (c.requires.ready.len ∙ c.requires.len)) (AreSides-of t c.args.b.x c.args.b.y left right sides c.requires.tables c.requires.x c.requires.y)

pub exceeding-requires-clause-want : goal.exceeding-requires-clause-want
exceeding-requires-clause-want c =
    subst (λ m. IsCountOf m c.args.want.now) (sym c.left.ensures.len) (IsCountOf-codes c.args.tables.now c.args.a.x c.args.a.y c.args.want.now c.requires.want)

pub exceeding-requires-clause-up : goal.exceeding-requires-clause-up
exceeding-requires-clause-up c = OnTrue_from _ _ c.requires.ready.blank

pub exceeding-requires-clause-down : goal.exceeding-requires-clause-down
exceeding-requires-clause-down c = OnFalse_from _ _ c.requires.ready.full

pub clear-requires-clause-sides : goal.clear-requires-clause-sides
clear-requires-clause-sides c =
    let t = c.args.tables.now in
    let left = c.left-in-Some.result.now in
    let right = c.right-in-Some.result.now in
    let sides : AreSidesOf t c.args.a.x c.args.a.y left right =
    record { left_len = c.left-in-Some.ensures.len; right_len = c.right-in-Some.ensures.len; left = c.left-in-Some.ensures.entries; right = c.right-in-Some.ensures.entries } in
    subst (AreSides left right) (sym (c.exceeding.auto.got ∙ c.requires.ready.len ∙ c.requires.len))
    (AreSides-of t c.args.a.x c.args.a.y left right sides c.requires.tables c.requires.first_x c.requires.first_y)

pub clear-requires-clause-others : goal.clear-requires-clause-others
clear-requires-clause-others c = λ code none.
    let t = c.args.tables.now in
    let left = c.left-in-Some.result.now in
    let right = c.right-in-Some.result.now in
    let sides : AreSidesOf t c.args.a.x c.args.a.y left right =
    record { left_len = c.left-in-Some.ensures.len; right_len = c.right-in-Some.ensures.len; left = c.left-in-Some.ensures.entries; right = c.right-in-Some.ensures.entries } in
    omega (arith, none, c.in-Some.ensures.low code, c.requires.want.is code, sum_counts t c.args.a.x c.args.a.y left right sides code)

pub returns-in-None-clause-yes : goal.returns-in-None-clause-yes
returns-in-None-clause-yes c =
    let t = c.args.tables.now in
    let r = c.requires in
    let left = c.left.result.now in
    let right = c.right.result.now in
    let sides : AreSidesOf t c.args.b.x c.args.b.y left right =
    record { left_len = c.left.ensures.len; right_len = c.right.ensures.len; left = c.left.ensures.entries; right = c.right.ensures.entries } in
    alike_by_counts t r.tables c.args.a.x c.args.a.y c.args.b.x c.args.b.y r.first_x r.first_y r.x r.y c.if-not-are_of_one_kind.ensures.yes c.args.want.now left right r.want sides c.in-None.ensures.none

pub returns-in-Some-clause-no : goal.returns-in-Some-clause-no
returns-in-Some-clause-no c =
    let t = c.args.tables.now in
    let r = c.requires in
    let left = c.left.result.now in
    let right = c.right.result.now in
    let sides : AreSidesOf t c.args.b.x c.args.b.y left right =
    record { left_len = c.left.ensures.len; right_len = c.right.ensures.len; left = c.left.ensures.entries; right = c.right.ensures.entries } in
    unlike_by_count t r.tables c.args.a.x c.args.a.y c.args.b.x c.args.b.y r.first_x r.first_y r.x r.y c.if-not-are_of_one_kind.ensures.yes c.args.want.now left right r.want sides
    (sum_at left right c.in-Some.field-0) c.in-Some.ensures.some.1
