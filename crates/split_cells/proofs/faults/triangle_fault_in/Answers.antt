use Rattle.std.proofs.Common.{◌*◌, ◌<◌, get_or, sym, subst, ◌∙◌, arith}
use Rattle.std.proofs.lemmas.List.{get_or_read}
use Rattle.wl_round.specs.CodeCounts.{AreSides}
use Rattle.split_cells.proofs.KeyLemmas.{some_member}
use Rattle.split_cells.proofs.FellowPairs.{AreSidesOf-from, sum_counts, AreSides-of, like_single, like_codes, like_transposed}
use Rattle.split_cells.proofs.faults.triangle_fault_in.Goals as goal
use Rattle.split_cells.proofs.faults.triangle_fault_in.Goals.{then-members-eq1-via-then-members-eq1, then-members-eq1-via-else-members-eq1+then-index-k}

pub bounds-members-0 : goal.bounds-members-0
bounds-members-0 c = some_member c.members-members.ensures.members c.args.want.now (c.requires.used c.args.k c.requires.class)

pub returns-then-members-eq1-clause-none : goal.returns-then-members-eq1-clause-none
returns-then-members-eq1-clause-none c =
    let pairs = c.args.pairs.now in
    let n = pairs.size in
    let h = c.requires.classed in
    let m = c.members-members.ensures.members in
    let some = some_member m c.args.want.now (c.requires.used c.args.k c.requires.class) in
    let p = get_or c.members-members.result.now 0 0 in
    let hp : p < n * n = omega (arith, m.inside 0 some, h.parting.classes, h.bound) in
    elim c.then-members-eq1.branch [
      | then-members-eq1-via-then-members-eq1 w ↦ λ once. like_single pairs h c.requires.settled c.requires.homes c.args.codes.now c.requires.coded m w.if-members-eq1.true
      | then-members-eq1-via-else-members-eq1+then-index-k w ↦
          let read = get_or_read pairs.turned.items p w.index.result.now (omega (arith, hp, h.turned.len)) w.index.ensures 0 in
          like_transposed pairs h c.requires.settled c.requires.homes c.args.codes.now c.requires.coded m p hp (m.member 0 some) (omega (arith, read, w.if-index-k.true))
    ]

pub count_up-requires-clause-sides : goal.count_up-requires-clause-sides
count_up-requires-clause-sides c =
    let pairs = c.args.pairs.now in
    let n = pairs.size in
    let h = c.requires.classed in
    let codes = c.args.codes.now in
    let m = c.members-members.ensures.members in
    let some = some_member m c.args.want.now (c.requires.used c.args.k c.requires.class) in
    let p = get_or c.members-members.result.now 0 0 in
    let left = c.left-left.result.now in
    let right = c.right-right.result.now in
    let sides = AreSidesOf-from n codes p left right c.points-size.result c.first.result c.second.result c.points-size.ensures c.first.ensures c.second.ensures
    c.left-left.ensures.len c.left-left.ensures.entries c.right-right.ensures.len c.right-right.ensures.entries in
    let hp : p < n * n = omega (arith, m.inside 0 some, h.parting.classes, h.bound) in
    subst (AreSides left right) (sym (c.requires.blank.want_len)) (AreSides-of pairs h c.requires.settled c.requires.homes codes c.requires.coded p left right hp sides)

pub odd_pair-requires-clause-fellows : goal.odd_pair-requires-clause-fellows
odd_pair-requires-clause-fellows c = λ a l.
    let m = c.members-members.ensures.members in
    let some = some_member m c.args.want.now (c.requires.used c.args.k c.requires.class) in
    record { inside = omega (arith, m.inside a l, c.requires.classed.parting.classes); same = m.member a l ∙ sym (m.member 0 some) }

pub odd_pair-requires-clause-some : goal.odd_pair-requires-clause-some
odd_pair-requires-clause-some c = some_member c.members-members.ensures.members c.args.want.now (c.requires.used c.args.k c.requires.class)

pub odd_pair-requires-clause-want : goal.odd_pair-requires-clause-want
odd_pair-requires-clause-want c =
    let pairs = c.args.pairs.now in
    let n = pairs.size in
    let h = c.requires.classed in
    let codes = c.args.codes.now in
    let m = c.members-members.ensures.members in
    let some = some_member m c.args.want.now (c.requires.used c.args.k c.requires.class) in
    let p = get_or c.members-members.result.now 0 0 in
    let left = c.left-left.result.now in
    let right = c.right-right.result.now in
    let sides = AreSidesOf-from n codes p left right c.points-size.result c.first.result c.second.result c.points-size.ensures c.first.ensures c.second.ensures
    c.left-left.ensures.len c.left-left.ensures.entries c.right-right.ensures.len c.right-right.ensures.entries in
    record { is = λ code. c.count_up.ensures code ∙ sum_counts n codes p left right sides code }

pub clear-requires-clause-sides : goal.clear-requires-clause-sides
clear-requires-clause-sides c =
    let pairs = c.args.pairs.now in
    let n = pairs.size in
    let h = c.requires.classed in
    let codes = c.args.codes.now in
    let m = c.members-members.ensures.members in
    let some = some_member m c.args.want.now (c.requires.used c.args.k c.requires.class) in
    let p = get_or c.members-members.result.now 0 0 in
    let left = c.left-left.result.now in
    let right = c.right-right.result.now in
    let sides = AreSidesOf-from n codes p left right c.points-size.result c.first.result c.second.result c.points-size.ensures c.first.ensures c.second.ensures
    c.left-left.ensures.len c.left-left.ensures.entries c.right-right.ensures.len c.right-right.ensures.entries in
    let hp : p < n * n = omega (arith, m.inside 0 some, h.parting.classes, h.bound) in
    subst (AreSides left right) (sym (c.odd_pair.auto.got ∙ c.requires.blank.got_len)) (AreSides-of pairs h c.requires.settled c.requires.homes codes c.requires.coded p left right hp sides)

pub clear-requires-clause-others : goal.clear-requires-clause-others
clear-requires-clause-others c = λ code none. c.in_default.ensures.got code (c.count_up.ensures code ∙ none)

pub clear-requires-2-clause-sides : goal.clear-requires-2-clause-sides
clear-requires-2-clause-sides c =
    let pairs = c.args.pairs.now in
    let n = pairs.size in
    let h = c.requires.classed in
    let codes = c.args.codes.now in
    let m = c.members-members.ensures.members in
    let some = some_member m c.args.want.now (c.requires.used c.args.k c.requires.class) in
    let p = get_or c.members-members.result.now 0 0 in
    let left = c.left-left.result.now in
    let right = c.right-right.result.now in
    let sides = AreSidesOf-from n codes p left right c.points-size.result c.first.result c.second.result c.points-size.ensures c.first.ensures c.second.ensures
    c.left-left.ensures.len c.left-left.ensures.entries c.right-right.ensures.len c.right-right.ensures.entries in
    let hp : p < n * n = omega (arith, m.inside 0 some, h.parting.classes, h.bound) in
    subst (AreSides left right) (sym (c.count_up.auto.counts ∙ c.requires.blank.want_len)) (AreSides-of pairs h c.requires.settled c.requires.homes codes c.requires.coded p left right hp sides)

pub clear-requires-2-clause-others : goal.clear-requires-2-clause-others
clear-requires-2-clause-others c = λ code none. c.count_up.ensures code ∙ none

pub returns-clause-none : goal.returns-clause-none
returns-clause-none c = λ once.
    like_codes c.args.pairs.now c.requires.classed c.requires.settled c.requires.homes c.args.codes.now c.requires.coded c.members-members.ensures.members c.count_up.new.counts c.in_default.ensures.none

pub returns-clause-blank : goal.returns-clause-blank
returns-clause-blank c = record {
  want_len = c.clear-2.auto.counts ∙ c.count_up.auto.counts ∙ c.requires.blank.want_len;
  want_zero = c.clear-2.ensures;
  got_len = c.clear.auto.counts ∙ c.odd_pair.auto.got ∙ c.requires.blank.got_len;
  got_zero = c.clear.ensures;
}
