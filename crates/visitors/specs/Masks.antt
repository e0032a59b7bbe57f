-- Sets of colours as masks: colour c is in the set where bit c of the mask is 1.
use Rattle.std.specs.Prelude.{◌≡◌, ◌==◌, ℕ, ◌/◌, ◌%◌, ◌^◌, ◌<◌, Bool, List, filter}
use Rattle.pair_colours.specs.Colouring.{points}

-- colour c is in the set
abbrev pub is_member : ℕ → ℕ → Bool
is_member mask c = mask / 2 ^ c % 2 == 1

-- its colours below n, rising
abbrev pub members_of : ℕ → ℕ → List ℕ
members_of n mask = filter (is_member mask) (points n)

-- the mask is that of the numbers below n that pass a test
pub record HasBits (n mask : ℕ) (test : ℕ → Bool) : Type 0 where
  pub low : mask < 2 ^ n
  pub bits : (c : ℕ) → c < n → is_member mask c ≡ test c
