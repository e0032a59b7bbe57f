-- Raw colourings by their size and their colours one by one.
use Rattle.std.proofs.Common.{◌^◌, ◌<◌, ◌≤◌, arith}
use Rattle.std.specs.List.{AllByRecursion}
use Rattle.std.proofs.lemmas.List.Elements.{All-from_recursion, recursion_from_All}
use Rattle.pair_colours.specs.Colouring.{PairColouring, IsColouring, IsRawColouring}
use Rattle.pair_colours.specs.declared.coloured_pairs.TheConstants.{MOST_COLOUR, MOST_POINTS}
use Rattle.pair_colours.proofs.ListLemmas.{Each-weaker}

pub raw_from : (C : PairColouring) → IsColouring C → C.size ≤ MOST_POINTS → AllByRecursion (λ colour. colour ≤ MOST_COLOUR) C.colours → IsRawColouring C
raw_from C c few small = record {
  fits = record {
    colouring = c;
    limit = few;
    numbers = All-from_recursion (λ colour. colour < 2 ^ 32) C.colours
        (Each-weaker (λ colour. colour ≤ MOST_COLOUR) (λ colour. colour < 2 ^ 32) (λ colour l. omega (arith, l)) C.colours small);
  };
  raw = All-from_recursion (λ colour. colour ≤ MOST_COLOUR) C.colours small;
}

pub raw_each : (C : PairColouring) → IsRawColouring C → AllByRecursion (λ colour. colour ≤ MOST_COLOUR) C.colours
raw_each C r = recursion_from_All (λ colour. colour ≤ MOST_COLOUR) C.colours r.raw
