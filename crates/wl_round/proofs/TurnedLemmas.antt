-- The transposed matrix and the short numbers times the size, entry by entry.
use Rattle.std.proofs.Common.{◌≡◌, ℕ, ◌+◌, ◌*◌, ◌/◌, ◌%◌, ◌<◌, ◌≤◌, List, get_or, map, ap, arith}
use Rattle.std.proofs.lemmas.Nat.{mul-le, div-add-mod'}
use Rattle.pair_colours.specs.Colouring.{points}
use Rattle.pair_colours.proofs.Places.{place_below, row_below, column_below}
use Rattle.wl_round.specs.RowCodes.{IsSquare}
use Rattle.wl_round.specs.Sides.{IsTurned, AreScaled}
use Rattle.wl_round.proofs.PlaceLists.{written_length, written_at}

-- the transposed matrix of a square one
pub IsSquare-turned : (size : ℕ) (class turned : List ℕ) → IsSquare size class → IsTurned size class turned → IsSquare size turned
IsSquare-turned size class turned h t = record {
  points = h.points;
  limit = h.limit;
  len = t.len;
  below = λ p l.
      let x = row_below size p h.points l in
      let y = column_below size p h.points in
      omega (arith, ap (λ k. get_or turned k 0) (div-add-mod' p size), t.is (p / size) (p % size) x y, h.below (p % size * size + p / size) (place_below size (p % size) (p / size) y x));
}

pub AreScaled-from : (size : ℕ) (places lefts : List ℕ) → lefts ≡ map (λ p. get_or places p 0 * size) (points (size * size)) → AreScaled size places lefts
AreScaled-from size places lefts e = record {
  len = written_length (λ p. get_or places p 0 * size) (size * size) lefts e;
  is = λ p l. written_at (λ p. get_or places p 0 * size) (size * size) p lefts e l;
}

-- the squares of up to 256 points are below 2^31, and the short numbers times the size below 2^16
pub square_small : (n : ℕ) → n ≤ 256 → n * n ≤ 65536
square_small n h = mul-le n n 256 256 h h

pub scaled_small : (n place : ℕ) → n ≤ 256 → place < n → place * n < 65536
scaled_small n place h l = omega (arith, place_below n place 0 l (omega (arith, l)), square_small n h)
