use Rattle.std.proofs.Common.{◌≡◌, ◌≤◌, take}
use Rattle.std.specs.Prelude.{All}
use Rattle.pair_colours.specs.Colouring.{IsRawColouring}
use Rattle.cohere_inputs.proofs.ProductFiles.{AreRead}
use Rattle.cohere_inputs.proofs.products.products_in.Given as goal

abbrev pub invariant-loop-line : goal.invariant-loop-line
invariant-loop-line g l = record {
  same_files : g.S.Store.files l.store ≡ g.S.Store.files l.fn.store;
  later : g.S.Store.faults l.fn.store ≤ g.S.Store.faults l.store;
  raw : All IsRawColouring l.products.items;
  read : AreRead (g.S.Store.files l.fn.store) (take l.line-index l.lines) l.products.items;
}
