use Rattle.std.proofs.Common.{length, ap, ◌∙◌}
use Rattle.wl_round.proofs.HashLemmas.{AreWords-parts, turned_below}
use Rattle.wl_round.proofs.hashing.words_of.Goals as goal

pub laid_out-requires-2 : goal.laid_out-requires-2
laid_out-requires-2 c =
    turned_below c.args.colouring.now c.size-size.result c.colours.result.now c.in_ok-columns.columns.items c.deref-2.result.now c.deref-3.result.now
    c.size-size.ensures.within.colouring c.size-size.ensures.points c.colours.ensures.colours c.in_ok-columns.ensures c.deref-2.ensures.value (ap length c.deref-3.ensures.value ∙ c.in_ok-right.ensures) c.requires

pub laid_out-requires-3 : goal.laid_out-requires-3
laid_out-requires-3 c =
    turned_below c.args.colouring.now c.size-size.result c.colours.result.now c.in_ok-columns.columns.items c.deref-4.result.now c.deref-5.result.now
    c.size-size.ensures.within.colouring c.size-size.ensures.points c.colours.ensures.colours c.in_ok-columns.ensures c.deref-4.ensures.value (ap length c.deref-5.ensures.value ∙ c.in_ok-over.ensures) c.requires

pub returns : goal.returns
returns c =
    AreWords-parts c.args.colouring.now c.size-size.result c.colours.result.now c.colours-2.result.now c.in_ok-columns.columns.items c.deref-2.result.now c.deref-4.result.now
    c.deref.result.now c.deref-3.result.now c.deref-5.result.now c.in_ok-lefts.lefts.items c.in_ok-rights.rights.items c.in_ok-turned.turned.items
    c.size-size.ensures.within.colouring c.size-size.ensures.points c.colours.ensures.colours c.colours-2.ensures.colours c.deref-2.ensures.value c.deref-4.ensures.value
    c.in_ok-columns.ensures c.in_ok-lefts.ensures c.in_ok-rights.ensures c.in_ok-turned.ensures
