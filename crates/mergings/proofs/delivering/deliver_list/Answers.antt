use Rattle.std.proofs.Common.{◌≡◌, ◌+◌, ◌<◌, [], length, map, get_or, vec_items, sym, ap, ◌∙◌, arith}
use Rattle.std.proofs.lemmas.List.{get_or-map, length-map}
use Rattle.mergings.proofs.Strings.{listed_more, front_added, room_left}
use Rattle.mergings.proofs.delivering.deliver_list.Goals as goal

pub returns-in_err-meet-clause-front : goal.returns-in_err-meet-clause-front
returns-in_err-meet-clause-front c =
    let all = map vec_items c.args.list.now in
    front_added c.args.met.now all c.meet.new.self c.loop-i.i (c.in_err-meet.ensures.err ∙ c.loop-i.invariant.met)

pub returns-in-Stop-clause-front : goal.returns-in-Stop-clause-front
returns-in-Stop-clause-front c =
    let L = c.args.list.now in
    let all = map vec_items L in
    let i = c.loop-i.i in
    let entry = c.index-list-i.result in
    let inside : i < length all = omega (arith, c.loop-i-test.true, length-map L vec_items) in
    let at : c.deref.result.now ≡ get_or all i [] = c.deref.ensures.value ∙ ap vec_items c.index-list-i.is ∙ sym (get_or-map vec_items L i entry [] c.loop-i-test.true) in
    front_added c.args.met.now all c.meet.new.self (i + 1) (listed_more c.args.met.now all c.loop-i.met c.meet.new.self i c.deref.result.now c.loop-i.invariant.met c.in_ok-meet.ensures.ok inside at)

pub loop-i-preserved : goal.loop-i-preserved
loop-i-preserved c =
    let L = c.args.list.now in
    let all = map vec_items L in
    let i = c.loop-i.i in
    let entry = c.index-list-i.result in
    let inside : i < length all = omega (arith, c.loop-i-test.true, length-map L vec_items) in
    let at : c.deref.result.now ≡ get_or all i [] = c.deref.ensures.value ∙ ap vec_items c.index-list-i.is ∙ sym (get_or-map vec_items L i entry [] c.loop-i-test.true) in
    record {
      met = listed_more c.args.met.now all c.loop-i.met c.meet.new.self i c.deref.result.now c.loop-i.invariant.met c.in_ok-meet.ensures.ok inside at;
      left = room_left c.loop-i.met c.meet.new.self c.deref.result.now c.args.room c.in_ok-meet.field-0 c.loop-i.invariant.left c.in_ok-meet.ensures.ok c.in-More.is c.in_ok-meet.ensures.next.1;
    }
