use Rattle.std.proofs.Common.{◌≡◌, ◌/◌, ◌%◌, ◌*◌, ◌<◌, ℕ, List, length, get_or, sym, subst, ◌∙◌, arith}
use Rattle.pair_colours.proofs.Places.{row_below, column_below}
use Rattle.wl_round.specs.declared.sides.Tables.{Tables}
use Rattle.wl_round.specs.CodeCounts.{AreSides}
use Rattle.wl_round.specs.Sides.{AreTables, HasCodeCounts}
use Rattle.wl_round.proofs.SideLemmas.{AreSidesOf, AreSides-of, sum_counts}
use Rattle.wl_round.proofs.comparing.mark_by.Goals as goal

-- the sides of the first pair are fit for counts of this length
fit_sides : (t : Tables) (p x y m : ℕ) (left right : List ℕ) → AreTables t → p < t.size * t.size → x ≡ p / t.size → y ≡ p % t.size → AreSidesOf t x y left right → m ≡ t.size * t.size → AreSides left right m
fit_sides t p x y m left right h l ex ey sides e =
    let hx : x < t.size = omega (arith, ex, row_below t.size p h.square.points l) in
    let hy : y < t.size = omega (arith, ey, column_below t.size p h.square.points) in
    subst (AreSides left right) (sym e) (AreSides-of t x y left right sides h hx hy)

pub count_up-requires-clause-sides : goal.count_up-requires-clause-sides
count_up-requires-clause-sides c =
    let first = c.pair_at-first in
    fit_sides c.args.tables.now (get_or c.args.members.now 0 0) first.result.x first.result.y (length c.args.want.now) c.left-left.result.now c.right-right.result.now c.requires.tables
    (c.requires.inside 0 c.requires.some) first.ensures.x first.ensures.y
    (record { left_len = c.left-left.ensures.len; right_len = c.right-right.ensures.len; left = c.left-left.ensures.entries; right = c.right-right.ensures.entries })
    c.requires.blank.want_len

pub clear-requires-clause-sides : goal.clear-requires-clause-sides
clear-requires-clause-sides c =
    let first = c.pair_at-first in
    fit_sides c.args.tables.now (get_or c.args.members.now 0 0) first.result.x first.result.y (length c.mark_others-found.new.got) c.left-left.result.now c.right-right.result.now c.requires.tables
    (c.requires.inside 0 c.requires.some) first.ensures.x first.ensures.y
    (record { left_len = c.left-left.ensures.len; right_len = c.right-right.ensures.len; left = c.left-left.ensures.entries; right = c.right-right.ensures.entries })
    (c.mark_others-found.auto.got ∙ c.requires.blank.got_len)

pub clear-requires-2-clause-sides : goal.clear-requires-2-clause-sides
clear-requires-2-clause-sides c =
    let first = c.pair_at-first in
    fit_sides c.args.tables.now (get_or c.args.members.now 0 0) first.result.x first.result.y (length c.count_up.new.counts) c.left-left.result.now c.right-right.result.now c.requires.tables
    (c.requires.inside 0 c.requires.some) first.ensures.x first.ensures.y
    (record { left_len = c.left-left.ensures.len; right_len = c.right-right.ensures.len; left = c.left-left.ensures.entries; right = c.right-right.ensures.entries })
    (c.count_up.auto.counts ∙ c.requires.blank.want_len)

pub mark_others-found-requires-clause-want : goal.mark_others-found-requires-clause-want
mark_others-found-requires-clause-want c =
    let t = c.args.tables.now in
    let n = t.size in
    let first = c.pair_at-first in
    let p = get_or c.args.members.now 0 0 in
    let left = c.left-left.result.now in
    let right = c.right-right.result.now in
    let sides : AreSidesOf t first.result.x first.result.y left right =
    record { left_len = c.left-left.ensures.len; right_len = c.right-right.ensures.len; left = c.left-left.ensures.entries; right = c.right-right.ensures.entries } in
    subst (λ x. HasCodeCounts t x (p % n) c.count_up.new.counts) first.ensures.x
    (subst (λ y. HasCodeCounts t first.result.x y c.count_up.new.counts) first.ensures.y
    (record { is = λ code. c.count_up.ensures code ∙ sum_counts t first.result.x first.result.y left right sides code }))

pub clear-requires-clause-others : goal.clear-requires-clause-others
clear-requires-clause-others c = λ code none. omega (arith, none, c.mark_others-found.ensures.within code, c.count_up.ensures code)
