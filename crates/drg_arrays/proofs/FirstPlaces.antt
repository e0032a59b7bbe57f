-- The first place of a number, from some place on.
use Rattle.std.proofs.Common.{◌≡◌, ℕ, ◌<◌, ◌≤◌, List, length, get_or}

-- q is the first place from `start` on with the number that stands at p
pub record IsFirstFrom (xs : List ℕ) (start p q : ℕ) : Type 0 where
  pub low : start ≤ q
  pub within : q < length xs
  pub same : get_or xs q 0 ≡ get_or xs p 0
  pub first : (k : ℕ) → start ≤ k → k < length xs → get_or xs k 0 ≡ get_or xs p 0 → q ≤ k
