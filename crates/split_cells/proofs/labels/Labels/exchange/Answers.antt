use Rattle.std.proofs.Common.{length}
use Rattle.std.proofs.lemmas.List.{get_or_read}
use Rattle.split_cells.proofs.Exchanged.{AreInverse-exchanged}
use Rattle.split_cells.proofs.labels.Labels.exchange.Goals as goal

pub returns-clause-inverse : goal.returns-clause-inverse
returns-clause-inverse c =
    let outer = c.args.self.now.outer.items in
    let first = get_or_read outer c.args.k c.index-first.result.now c.requires.first c.index-first.ensures 0 in
    let second = get_or_read outer c.args.other c.index-second.result.now c.requires.second c.index-second.ensures 0 in
    AreInverse-exchanged (length outer) outer c.args.self.now.inner.items c.requires.inverse c.args.k c.args.other c.index-first.result.now c.index-second.result.now c.requires.first c.requires.second c.requires.apart first second
