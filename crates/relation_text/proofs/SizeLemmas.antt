-- Sizes in bytes, read back.
use Rattle.std.proofs.Common.{◌≡◌, ℕ, ◌+◌, ◌-◌, ◌/◌, ◌%◌, ◌<◌, ◌≤◌, ◌≢◌, true, false, cond, leb, List, [], ◌∷◌, ◌++◌, length, drop, get_or, refl, sym, ap, ◌∙◌, arith, inl, inr}
use Rattle.std.specs.Prelude.{All}
use Rattle.std.proofs.lemmas.Bool.{cases_lt, and_from, and_parts, leb-true, le-leb, lt-leb, ne_eqb, eq-eqb}
use Rattle.std.proofs.lemmas.List.Elements.{All-nil, All-cons, All-same}
use Rattle.pair_colours.specs.declared.coloured_pairs.TheConstants.{MOST_POINTS}
use Rattle.relation_text.specs.Bits.{size_bytes, size_len}
use Rattle.relation_text.specs.Faults.{is_graph_byte, long_size, size_of}

abbrev short_bytes : ℕ → List ℕ
short_bytes n = (n + 63) ∷ []

abbrev long_bytes : ℕ → List ℕ
long_bytes n = 126 ∷ (n / 4096 + 63) ∷ (n / 64 % 64 + 63) ∷ (n % 64 + 63) ∷ []

pub size_bytes-short : (n : ℕ) → n ≤ 62 → size_bytes n ≡ short_bytes n
size_bytes-short n h = ap (λ b. cond b (short_bytes n) (long_bytes n)) (le-leb n 62 h)

pub size_bytes-long : (n : ℕ) → 62 < n → size_bytes n ≡ long_bytes n
size_bytes-long n h = ap (λ b. cond b (short_bytes n) (long_bytes n)) (lt-leb n 62 h)

pub size_len-short : (n : ℕ) → n ≤ 62 → size_len n ≡ 1
size_len-short n h = ap (λ b. cond b 1 4) (le-leb n 62 h)

pub size_len-long : (n : ℕ) → 62 < n → size_len n ≡ 4
size_len-long n h = ap (λ b. cond b 1 4) (lt-leb n 62 h)

pub length-size_bytes : (n : ℕ) → length (size_bytes n) ≡ size_len n
length-size_bytes n = elim (leb n 62) as (λ b. length (cond b (short_bytes n) (long_bytes n)) ≡ cond b 1 4) [ true ↦ refl | false ↦ refl ]

pub size_of-short : (b : ℕ) (rest : List ℕ) → b ≢ 126 → size_of (b ∷ rest) ≡ b - 63
size_of-short b rest h = ap (λ t. cond t (long_size (b ∷ rest)) (b - 63)) (ne_eqb b 126 h)

-- the size is read back from its bytes
pub size_of-size_bytes : (n : ℕ) (rest : List ℕ) → size_of (size_bytes n ++ rest) ≡ n
size_of-size_bytes n rest = elim (cases_lt 62 n) [
  | inl long ↦ rw (size_bytes-long n long) (omega arith)
  | inr short ↦ rw (size_bytes-short n short) (size_of-short (n + 63) rest (λ e. omega arith) ∙ omega arith)
]

pub graph_byte : (b : ℕ) → 63 ≤ b → b ≤ 126 → is_graph_byte b ≡ true
graph_byte b low high = and_from (leb 63 b) (leb b 126) (le-leb 63 b low) (le-leb b 126 high)

pub from_graph_byte : (b : ℕ) → is_graph_byte b ≡ true → (63 ≤ b) × (b ≤ 126)
from_graph_byte b e = let parts = and_parts (leb 63 b) (leb b 126) e in (leb-true 63 b parts.0, leb-true b 126 parts.1)

-- the bytes of a size are printable
abbrev P : ℕ → Type 0
P b = is_graph_byte b ≡ true

pub size_bytes-printable : (n : ℕ) → n ≤ MOST_POINTS → All (λ b. is_graph_byte b ≡ true) (size_bytes n)
size_bytes-printable n h = elim (cases_lt 62 n) [
  | inl long ↦ All-same P (size_bytes n) (long_bytes n) (size_bytes-long n long)
      (All-cons P 126 ((n / 4096 + 63) ∷ (n / 64 % 64 + 63) ∷ (n % 64 + 63) ∷ []) (graph_byte 126 (omega arith) (omega arith))
      (All-cons P (n / 4096 + 63) ((n / 64 % 64 + 63) ∷ (n % 64 + 63) ∷ []) (graph_byte (n / 4096 + 63) (omega arith) (omega arith))
      (All-cons P (n / 64 % 64 + 63) ((n % 64 + 63) ∷ []) (graph_byte (n / 64 % 64 + 63) (omega arith) (omega arith))
      (All-cons P (n % 64 + 63) [] (graph_byte (n % 64 + 63) (omega arith) (omega arith)) (All-nil P)))))
  | inr short ↦ All-same P (size_bytes n) (short_bytes n) (size_bytes-short n short) (All-cons P (n + 63) [] (graph_byte (n + 63) (omega arith) (omega arith)) (All-nil P))
]

-- what begins with a size in its one form is the bytes of that size, and what follows
pub size_bytes-size_of_short : (bytes : List ℕ) → 0 < length bytes → 63 ≤ get_or bytes 0 0 → get_or bytes 0 0 < 126 → size_bytes (size_of bytes) ++ drop (size_len (size_of bytes)) bytes ≡ bytes
size_bytes-size_of_short [] h low high = absurd (omega arith)
size_bytes-size_of_short (b ∷ rest) h low high =
    let size : size_of (b ∷ rest) ≡ b - 63 = size_of-short b rest (λ e. omega arith) in
    rw size (rw (size_bytes-short (b - 63) (omega arith), size_len-short (b - 63) (omega arith)) (ap (λ x. x ∷ rest) (omega arith)))

pub size_bytes-size_of_long : (bytes : List ℕ) → 4 ≤ length bytes → get_or bytes 0 0 ≡ 126
    → 63 ≤ get_or bytes 1 0 → get_or bytes 1 0 ≤ 126 → 63 ≤ get_or bytes 2 0 → get_or bytes 2 0 ≤ 126 → 63 ≤ get_or bytes 3 0 → get_or bytes 3 0 ≤ 126 → 62 < long_size bytes
    → size_bytes (size_of bytes) ++ drop (size_len (size_of bytes)) bytes ≡ bytes
size_bytes-size_of_long (a ∷ b ∷ c ∷ d ∷ rest) h e b0 b1 c0 c1 d0 d1 long =
    let n = long_size (a ∷ b ∷ c ∷ d ∷ rest) in
    let size : size_of (a ∷ b ∷ c ∷ d ∷ rest) ≡ n = ap (λ t. cond t n (a - 63)) (eq-eqb a 126 e) in
    rw size (rw (size_bytes-long n long, size_len-long n long) (
    let first : n / 4096 + 63 ≡ b = omega arith in
    let second : n / 64 % 64 + 63 ≡ c = omega arith in
    let third : n % 64 + 63 ≡ d = omega arith in
    let front : 126 ≡ a = sym e in
    cc))
size_bytes-size_of_long (a ∷ b ∷ c ∷ []) h e b0 b1 c0 c1 d0 d1 long = absurd (omega arith)
size_bytes-size_of_long (a ∷ b ∷ []) h e b0 b1 c0 c1 d0 d1 long = absurd (omega arith)
size_bytes-size_of_long (a ∷ []) h e b0 b1 c0 c1 d0 d1 long = absurd (omega arith)
size_bytes-size_of_long [] h e b0 b1 c0 c1 d0 d1 long = absurd (omega arith)
