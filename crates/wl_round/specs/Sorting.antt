-- Numbers with their places, sorted.
use Rattle.std.specs.Prelude.{◌≡◌, ◌≢◌, ℕ, ◌/◌, ◌%◌, ◌^◌, ◌<◌, ◌≤◌, List, length, slice_index}

-- each place p with its number c is listed once as c * 2^32 + p, in rising order
pub record AreSorted (numbers codes : List ℕ) : Type 0 where
  pub len : length codes ≡ length numbers
  pub rising : (a b : ℕ) → a < b → b < length codes → slice_index codes a ≤ slice_index codes b
  pub apart : (a b : ℕ) → a < b → b < length codes → slice_index codes a ≢ slice_index codes b
  pub inside : (a : ℕ) → a < length codes → slice_index codes a % 2 ^ 32 < length numbers
  pub is : (a : ℕ) → a < length codes → slice_index codes a / 2 ^ 32 ≡ slice_index numbers (slice_index codes a % 2 ^ 32)
  pub complete : (p : ℕ) → p < length numbers → (a : ℕ) × (a < length codes) × (slice_index codes a % 2 ^ 32 ≡ p)
