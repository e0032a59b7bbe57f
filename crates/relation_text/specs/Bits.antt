-- Numbers of points and lists of bits as printable bytes
-- (B. D. McKay, description of the graph6, sparse6 and digraph6 encodings).
use Rattle.std.specs.Prelude.{ℕ, ◌+◌, ◌-◌, ◌*◌, ◌/◌, ◌%◌, ◌^◌, ◌==◌, nat_le, if◌then◌else◌, Bool, false, List, [], ◌∷◌, length, map, slice_index, slice_index_or}
use Rattle.std.specs.List.{range_with_len}

-- N(n): one byte up to 62 points; else the byte 126 and 18 bits, the most significant first, six to a byte
abbrev pub size_bytes : ℕ → List ℕ
size_bytes n = if nat_le n 62 then (n + 63) ∷ []
    else 126 ∷ (n / 4096 + 63) ∷ (n / 64 % 64 + 63) ∷ (n % 64 + 63) ∷ []

-- how many bytes N(n) has
abbrev pub size_len : ℕ → ℕ
size_len n = if nat_le n 62 then 1 else 4

-- the bit at a place as a number; past the end stand the zeros that pad a list of bits
abbrev pub bit_value : List Bool → ℕ → ℕ
bit_value bits k = if slice_index_or bits k false then 1 else 0

-- six bits from a place on, the most significant first
abbrev pub six_bits : List Bool → ℕ → ℕ
six_bits bits k = 32 * bit_value bits k + 16 * bit_value bits (k + 1) + 8 * bit_value bits (k + 2)
    + 4 * bit_value bits (k + 3) + 2 * bit_value bits (k + 4) + bit_value bits (k + 5)

-- how many bytes m bits take, six to a byte
abbrev pub bytes_for : ℕ → ℕ
bytes_for m = (m + 5) / 6

-- R(x): the bits, six to a byte, padded on the right with zeros; each six as a number, plus 63
unfoldable pub bit_bytes : List Bool → List ℕ
bit_bytes bits = map (λ k. six_bits bits (6 * k) + 63) (range_with_len 0 (bytes_for (length bits)))

-- the bit at place k of the bits that the bytes hold, six to a byte
abbrev pub bit_in : List ℕ → ℕ → Bool
bit_in bytes k = (slice_index bytes (k / 6) - 63) / 2 ^ (5 - k % 6) % 2 == 1
