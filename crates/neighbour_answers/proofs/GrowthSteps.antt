-- A step along a growth string.
use Rattle.std.proofs.Common.{◌≡◌, ℕ, ◌+◌, ◌<◌, ◌≤◌, max, List, length, take, slice_index, ap, ◌∙◌, arith}
use Rattle.std.proofs.lemmas.List.{take_more}
use Rattle.colour_wl.specs.GrowthStrings.{IsGrowth, next_number}
use Rattle.colour_wl.proofs.Growth.{next_number-push}

-- the number at a place is at most the least above those before it
pub number_low : (n i next number : ℕ) (numbers : List ℕ) → IsGrowth n numbers → i < length numbers → next ≡ next_number (take i numbers)
    → number ≡ slice_index numbers i → number ≤ next
number_low n i next number numbers g l before is = omega (arith, g.grows i (omega (arith, l, g.len)), before, is)

-- and with it the least above them is the greater of what it was and of one more than the number
pub next_after : (i next number : ℕ) (numbers : List ℕ) → i < length numbers → next ≡ next_number (take i numbers) → number ≡ slice_index numbers i
    → next_number (take (i + 1) numbers) ≡ max next (number + 1)
next_after i next number numbers l before is =
    let u : List ℕ = take i numbers in
    let v : ℕ = slice_index numbers i in
    let more : next_number (take (i + 1) numbers) ≡ max (next_number u) (v + 1) = ap next_number (take_more numbers i 0 l) ∙ next_number-push u v in
    omega (arith, more, before, is)
