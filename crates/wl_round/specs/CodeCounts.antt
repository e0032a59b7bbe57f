-- How often the sums of two lists come.
use Rattle.std.specs.Prelude.{◌≡◌, ◌==◌, ℕ, ◌+◌, ◌<◌, List, length, count_by, slice_index}
use Rattle.pair_colours.specs.Colouring.{points}

-- the sum at z
abbrev pub sum_at : List ℕ → List ℕ → ℕ → ℕ
sum_at left right z = slice_index left z + slice_index right z

-- at how many places this is the sum
abbrev pub sum_count : List ℕ → List ℕ → ℕ → ℕ
sum_count left right code = count_by (λ z. sum_at left right z == code) (points (length left))

-- two lists of one length, short enough for counts, with sums below a bound
pub record AreSides (left right : List ℕ) (bound : ℕ) : Type 0 where
  pub lens : length left ≡ length right
  pub short : length left < 65536
  pub below : (z : ℕ) → z < length left → sum_at left right z < bound

-- a list of n numbers, of which each comes as often as the counts say
pub record IsCountOf (n : ℕ) (counts : List ℕ) : Type 0 where
  pub list : List ℕ
  pub len : length list ≡ n
  pub is : (code : ℕ) → slice_index counts code ≡ count_by (λ number. number == code) list

-- two lists of counts that are all 0
pub record AreBlank (bound : ℕ) (want got : List ℕ) : Type 0 where
  pub want_len : length want ≡ bound
  pub want_zero : (code : ℕ) → slice_index want code ≡ 0
  pub got_len : length got ≡ bound
  pub got_zero : (code : ℕ) → slice_index got code ≡ 0
