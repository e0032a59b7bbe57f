use Rattle.std.proofs.Common.{◌≡◌, ◌+◌, ◌<◌, [], length, map, get_or, vec_items, ◌∙◌, arith}
use Rattle.std.proofs.lemmas.List.{length-map}
use Rattle.mergings.proofs.Strings.{listed_more, front_added, room_left}
use Rattle.mergings.proofs.pieces.deliver_strings.Goals as goal

pub returns-in_err-meet-clause-front : goal.returns-in_err-meet-clause-front
returns-in_err-meet-clause-front g c = front_added _ (map vec_items c.args.strings.now) _ c.loop-place.place (c.in_err-meet.ensures.1.0 ∙ c.loop-place.invariant.met)

pub returns-in-Stop-clause-front : goal.returns-in-Stop-clause-front
returns-in-Stop-clause-front g c =
    let L = c.args.strings.now in
    let all = map vec_items L in
    let i = c.loop-place.place in
    let inside : i < length all = omega (arith, c.loop-place-test.true, length-map L vec_items) in
    let at : c.entry_at-entry.result.now ≡ get_or all i [] = c.entry_at-entry.ensures.same in
    front_added _ all _ (i + 1) (listed_more _ all _ _ i c.entry_at-entry.result.now c.loop-place.invariant.met c.in_ok-meet.ensures.0 inside at)

pub loop-place-preserved : goal.loop-place-preserved
loop-place-preserved g c =
    let L = c.args.strings.now in
    let all = map vec_items L in
    let i = c.loop-place.place in
    let inside : i < length all = omega (arith, c.loop-place-test.true, length-map L vec_items) in
    let at : c.entry_at-entry.result.now ≡ get_or all i [] = c.entry_at-entry.ensures.same in
    record {
      met = listed_more _ all _ _ i c.entry_at-entry.result.now c.loop-place.invariant.met c.in_ok-meet.ensures.0 inside at;
      space = room_left _ _ c.entry_at-entry.result.now _ c.in_ok-meet.field-0 (omega (arith, c.loop-place.invariant.space, c.in_ok-meet.ensures.1.1.0)) c.in_ok-meet.ensures.0 c.in-More.is c.in_ok-meet.ensures.1.1.1.1;
      room = c.in_ok-meet.ensures.1.1.0 ∙ c.loop-place.invariant.room;
    }
