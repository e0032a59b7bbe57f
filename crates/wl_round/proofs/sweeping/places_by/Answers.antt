use Rattle.std.proofs.Common.{◌≡◌, ◌<◌, ◌%◌, ◌^◌, get_or, length, map, ap, ◌∙◌, arith}
use Rattle.std.proofs.lemmas.List.{get_or_read}
use Rattle.pair_colours.specs.Colouring.{points}
use Rattle.wl_round.proofs.PlaceLists.{written_more}
use Rattle.wl_round.proofs.SortedPlaces.{ArePlacesBy-from, place_at}
use Rattle.wl_round.proofs.sweeping.places_by.Goals as goal

pub loop-i-preserved : goal.loop-i-preserved
loop-i-preserved c =
    let codes = c.in_ok-codes.codes.items in
    let i = c.loop-i.i in
    let code = c.index.result.now in
    let low : i < length codes = omega (arith, c.loop-i-test.true, c.len-i-end.ensures, c.in_ok-codes.codes.ok.0) in
    let read : code ≡ get_or codes i 0 = get_or_read codes i code low c.index.ensures 0 in
    written_more (place_at codes) i (code % 2 ^ 32) c.loop-i.places.items c.push.new.self.items c.loop-i.invariant (ap (λ z. z % 2 ^ 32) read) c.in_ok-push.ensures.items

pub returns : goal.returns
returns c =
    let codes = c.in_ok-codes.codes.items in
    let end : c.loop-i.i ≡ length codes = omega (arith, c.loop-i.auto.i-end, c.loop-i-test.false, c.len-i-end.ensures, c.in_ok-codes.codes.ok.0) in
    ArePlacesBy-from c.args.numbers.now codes c.loop-i.places.items c.in_ok-codes.ensures (c.loop-i.invariant ∙ ap (λ m. map (place_at codes) (points m)) end)
