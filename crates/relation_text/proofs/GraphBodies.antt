-- A graph line without its ampersand: where no test holds, it is the encoding of a number of points and of bits, and only there.
use Rattle.std.proofs.Common.{◌≡◌, ℕ, ◌+◌, ◌-◌, ◌*◌, ◌/◌, ◌<◌, ◌≤◌, ◌≢◌, Bool, true, false, cond, eqb, ltb, leb, List, ◌++◌, length, get_or, None, sym, ap, subst, ◌∙◌, arith, inl, inr, length-drop, length-append}
use Rattle.std.specs.Prelude.{All, not, ◌&&◌}
use Rattle.std.proofs.lemmas.Bool.{cases_lt, cases_eq, cases_Bool, and_left, and_right, not-false, not_from_true, leb-false, lt-leb, ltb-false, le-ltb, eqb-true, eqb-false, eq-eqb, ne_eqb, false≢true}
use Rattle.std.proofs.lemmas.List.{get_or-drop, drop_at}
use Rattle.std.proofs.lemmas.List.Elements.{All-append, All-from_get_or, All-get_or, All-same, All-weaker}
use Rattle.std.proofs.lemmas.List.Folds.{list_any_none}
use Rattle.text_lines.specs.Part.{Part}
use Rattle.pair_colours.specs.Tests.{first_that_holds}
use Rattle.pair_colours.specs.declared.coloured_pairs.TheConstants.{MOST_POINTS}
use Rattle.pair_colours.proofs.TestLemmas.{AllFail-from_none, none-from_AllFail}
use Rattle.relation_text.specs.declared.graph_format.GraphFormat.{GraphFormat}
use Rattle.relation_text.specs.Bits.{size_bytes, size_len, bytes_for, bit_bytes, bit_in}
use Rattle.relation_text.specs.Orders.{pairs_of}
use Rattle.relation_text.specs.Relation.{IsBitText}
use Rattle.relation_text.specs.Faults.{byte_tests, graph_tests, is_graph_byte, is_long, long_size, size_of, bits_part}
use Rattle.relation_text.proofs.AnyLemmas.{list_any-false, list_any_range-false, list_any_range-none}
use Rattle.relation_text.proofs.SizeLemmas.{graph_byte, from_graph_byte, length-size_bytes, size_of-size_bytes, size_bytes-printable, size_bytes-short, size_bytes-long, size_bytes-size_of_short, size_bytes-size_of_long, size_len-long}
use Rattle.relation_text.proofs.BitLemmas.{HoldsBits, length-bit_bytes, HoldsBits-bit_bytes, bits_in, length-bits_in, bit_bytes-bits_in}

-- how many bits the format has for a size
abbrev pub count_of : GraphFormat → ℕ → ℕ
count_of format n = length (pairs_of format n)

-- no test holds
pub record IsGraphBody (format : GraphFormat) (bytes : List ℕ) : Type 0 where
  pub some : 0 < length bytes
  pub printable : All (λ b. is_graph_byte b ≡ true) bytes
  pub points : get_or bytes 0 0 ≢ 63
  pub medium : get_or bytes 0 0 ≡ 126 → get_or bytes 1 0 ≢ 126
  pub four : get_or bytes 0 0 ≡ 126 → 4 ≤ length bytes
  pub form : get_or bytes 0 0 ≡ 126 → 62 < long_size bytes
  pub limit : get_or bytes 0 0 ≡ 126 → long_size bytes ≤ MOST_POINTS
  pub len : length bytes ≡ size_len (size_of bytes) + bytes_for (count_of format (size_of bytes))
  pub padding : (k : ℕ) → count_of format (size_of bytes) ≤ k → k < 6 * bytes_for (count_of format (size_of bytes)) → bit_in (bits_part bytes) k ≡ false

-- where no test of the bytes holds, each is at least 63
pub from_byte_tests : (body : Part) → first_that_holds (byte_tests body) ≡ None → All (λ b. 63 ≤ b) body.bytes
from_byte_tests body e = All-from_get_or (λ b. 63 ≤ b) body.bytes 0 (λ k h.
    (from_graph_byte (get_or body.bytes k 0) (not-false (is_graph_byte (get_or body.bytes k 0)) (list_any-false (λ b. not (is_graph_byte b)) body.bytes k 0 (AllFail-from_none (byte_tests body) e).1.0 h))).0)

second_false : (a b : Bool) → (a && b) ≡ false → a ≡ true → b ≡ false
second_false true b e f = e
second_false false b e f = absurd (false≢true f)

pub body-from_none : (format : GraphFormat) (body : Part) → first_that_holds (graph_tests format body) ≡ None → IsGraphBody format body.bytes
body-from_none format body e =
    let bytes = body.bytes in
    let long : get_or bytes 0 0 ≡ 126 → is_long bytes ≡ true = λ l. eq-eqb (get_or bytes 0 0) 126 l in
    let count = count_of format (size_of bytes) in
    let f = AllFail-from_none (graph_tests format body) e in
    record {
      some = let ne = eqb-false (length bytes) 0 f.0 in omega arith;
      printable = All-from_get_or (λ b. is_graph_byte b ≡ true) bytes 0 (λ k h. not-false (is_graph_byte (get_or bytes k 0)) (list_any-false (λ b. not (is_graph_byte b)) bytes k 0 f.1.0 h));
      points = eqb-false (get_or bytes 0 0) 63 f.1.1.0;
      medium = λ l. eqb-false (get_or bytes 1 0) 126 (second_false (is_long bytes) (eqb (get_or bytes 1 0) 126) f.1.1.1.0 (long l));
      four = λ l. ltb-false (length bytes) 4 (second_false (is_long bytes) (ltb (length bytes) 4) f.1.1.1.1.0 (long l));
      form = λ l. leb-false (long_size bytes) 62 (second_false (is_long bytes) (leb (long_size bytes) 62) f.1.1.1.1.1.0 (long l));
      limit = λ l. ltb-false MOST_POINTS (long_size bytes) (second_false (is_long bytes) (ltb MOST_POINTS (long_size bytes)) f.1.1.1.1.1.1.0 (long l));
      len = eqb-true (length bytes) (size_len (size_of bytes) + bytes_for count) (not-false (eqb (length bytes) (size_len (size_of bytes) + bytes_for count)) f.1.1.1.1.1.1.1.0);
      padding = λ k low high. list_any_range-false (bit_in (bits_part bytes)) count (6 * bytes_for count - count) k f.1.1.1.1.1.1.1.1.0 low (omega arith);
    }

on_long : (bytes : List ℕ) (t : Bool) → (get_or bytes 0 0 ≡ 126 → t ≡ false) → (is_long bytes && t) ≡ false
on_long bytes t f = elim (cases_Bool (is_long bytes)) [
  | inl is ↦ and_right (is_long bytes) t (f (eqb-true (get_or bytes 0 0) 126 is))
  | inr is ↦ and_left (is_long bytes) t is
]

pub none-from_body : (format : GraphFormat) (body : Part) → IsGraphBody format body.bytes → first_that_holds (graph_tests format body) ≡ None
none-from_body format body good =
    let bytes = body.bytes in
    let count = count_of format (size_of bytes) in
    let last = list_any_range-none (bit_in (bits_part bytes)) count (6 * bytes_for count - count) (λ k low high. good.padding k low (omega arith)) in
    none-from_AllFail (graph_tests format body) (
      ne_eqb (length bytes) 0 (λ e. omega (arith, good.some)),
      (
        list_any_none (λ b. not (is_graph_byte b)) bytes (All-weaker (λ b. is_graph_byte b ≡ true) (λ b. not (is_graph_byte b) ≡ false) (λ b. not_from_true (is_graph_byte b)) bytes good.printable),
        (
          ne_eqb (get_or bytes 0 0) 63 good.points,
          (
            on_long bytes (eqb (get_or bytes 1 0) 126) (λ l. ne_eqb (get_or bytes 1 0) 126 (good.medium l)),
            (
              on_long bytes (ltb (length bytes) 4) (λ l. le-ltb (length bytes) 4 (good.four l)),
              (
                on_long bytes (leb (long_size bytes) 62) (λ l. lt-leb (long_size bytes) 62 (good.form l)),
                (
                  on_long bytes (ltb MOST_POINTS (long_size bytes)) (λ l. le-ltb MOST_POINTS (long_size bytes) (good.limit l)),
                  (
                    not_from_true (eqb (length bytes) (size_len (size_of bytes) + bytes_for count)) (eq-eqb (length bytes) (size_len (size_of bytes) + bytes_for count) good.len),
                    (
                      last,
                      tt,
                    ),
                  ),
                ),
              ),
            ),
          ),
        ),
      ),
    )

pub at_byte : (bytes : List ℕ) → All (λ b. is_graph_byte b ≡ true) bytes → (k : ℕ) → k < length bytes → (63 ≤ get_or bytes k 0) × (get_or bytes k 0 ≤ 126)
at_byte bytes printable k h = from_graph_byte (get_or bytes k 0) (All-get_or (λ b. is_graph_byte b ≡ true) bytes k 0 h printable)

-- the number of points
pub record IsSize (n : ℕ) : Type 0 where
  pub least : 1 ≤ n
  pub most : n ≤ MOST_POINTS

short_size : (bytes : List ℕ) → get_or bytes 0 0 ≢ 126 → size_of bytes ≡ get_or bytes 0 0 - 63
short_size bytes h = ap (λ t. cond t (long_size bytes) (get_or bytes 0 0 - 63)) (ne_eqb (get_or bytes 0 0) 126 h)

size_of-long : (bytes : List ℕ) → get_or bytes 0 0 ≡ 126 → size_of bytes ≡ long_size bytes
size_of-long bytes h = ap (λ t. cond t (long_size bytes) (get_or bytes 0 0 - 63)) (eq-eqb (get_or bytes 0 0) 126 h)

pub IsSize-from_body : (format : GraphFormat) (bytes : List ℕ) → IsGraphBody format bytes → IsSize (size_of bytes)
IsSize-from_body format bytes good =
    let first = at_byte bytes good.printable 0 good.some in
    elim (cases_eq (get_or bytes 0 0) 126) [
      | inl long ↦ record { least = omega (arith, size_of-long bytes long, good.form long); most = omega (arith, size_of-long bytes long, good.limit long) }
      | inr short ↦ let size = short_size bytes short in let some = good.points in record { least = omega arith; most = omega arith }
    ]

size_again : (format : GraphFormat) (bytes : List ℕ) → IsGraphBody format bytes → size_bytes (size_of bytes) ++ bits_part bytes ≡ bytes
size_again format bytes good =
    let first = at_byte bytes good.printable 0 good.some in
    elim (cases_eq (get_or bytes 0 0) 126) [
      | inl long ↦
          let four = good.four long in
          let b = at_byte bytes good.printable 1 (omega arith) in
          let c = at_byte bytes good.printable 2 (omega arith) in
          let d = at_byte bytes good.printable 3 (omega arith) in
          size_bytes-size_of_long bytes four long b.0 b.1 c.0 c.1 d.0 d.1 (good.form long)
      | inr short ↦ size_bytes-size_of_short bytes good.some first.0 (omega arith)
    ]

pub HoldsBits-from_body : (format : GraphFormat) (bytes : List ℕ) → IsGraphBody format bytes → HoldsBits (count_of format (size_of bytes)) (bits_part bytes)
HoldsBits-from_body format bytes good =
    let s = size_len (size_of bytes) in
    let len : length (bits_part bytes) ≡ length bytes - s = length-drop s bytes in
    let there : (q : ℕ) → get_or (bits_part bytes) q 0 ≡ get_or bytes (s + q) 0 = λ q. get_or-drop s bytes q 0 in
    record {
      bytes_len = omega (arith, good.len);
      above = λ q h. rw (there q) (at_byte bytes good.printable (s + q) (omega arith)).0;
      below = λ q h. rw (there q) (let b = at_byte bytes good.printable (s + q) (omega arith) in omega arith);
      padding = good.padding;
    }

-- the bits of a good line
abbrev pub bits_of : GraphFormat → List ℕ → List Bool
bits_of format bytes = bits_in (count_of format (size_of bytes)) (bits_part bytes)

pub IsBitText-from_body : (format : GraphFormat) (bytes : List ℕ) → IsGraphBody format bytes → IsBitText format bytes (size_of bytes) (bits_of format bytes)
IsBitText-from_body format bytes good = record {
  text = sym (ap (λ rest. size_bytes (size_of bytes) ++ rest) (bit_bytes-bits_in (count_of format (size_of bytes)) (bits_part bytes) (HoldsBits-from_body format bytes good)) ∙ size_again format bytes good);
  pairs = length-bits_in (count_of format (size_of bytes)) (bits_part bytes);
}

bits_part-encoded : (n : ℕ) (bits : List Bool) → bits_part (size_bytes n ++ bit_bytes bits) ≡ bit_bytes bits
bits_part-encoded n bits = rw (size_of-size_bytes n (bit_bytes bits)) (drop_at (size_bytes n) (bit_bytes bits) (size_len n) (length-size_bytes n))

first_short : (n : ℕ) (rest : List ℕ) → n ≤ 62 → get_or (size_bytes n ++ rest) 0 0 ≡ n + 63
first_short n rest h = ap (λ bytes. get_or (bytes ++ rest) 0 0) (size_bytes-short n h)

first_long : (n : ℕ) (rest : List ℕ) → 62 < n → get_or (size_bytes n ++ rest) 0 0 ≡ 126
first_long n rest h = ap (λ bytes. get_or (bytes ++ rest) 0 0) (size_bytes-long n h)

second_long : (n : ℕ) (rest : List ℕ) → 62 < n → get_or (size_bytes n ++ rest) 1 0 ≡ n / 4096 + 63
second_long n rest h = ap (λ bytes. get_or (bytes ++ rest) 1 0) (size_bytes-long n h)

long_from : (n : ℕ) (rest : List ℕ) → get_or (size_bytes n ++ rest) 0 0 ≡ 126 → 62 < n
long_from n rest e = elim (cases_lt 62 n) [ inl long ↦ long | inr short ↦ let first = first_short n rest short in absurd (omega arith) ]

pub size_len-some : (n : ℕ) → 1 ≤ size_len n
size_len-some n = elim (leb n 62) as (λ b. 1 ≤ cond b 1 4) [ true ↦ omega arith | false ↦ omega arith ]

-- the encoding of a number of points and of the right number of bits is a good line
pub body-from_IsBitText : (format : GraphFormat) (bytes : List ℕ) (n : ℕ) (bits : List Bool) → IsSize n → IsBitText format bytes n bits → IsGraphBody format bytes
body-from_IsBitText format bytes n bits size encoded =
    let whole : List ℕ = size_bytes n ++ bit_bytes bits in
    let sz : size_of whole ≡ n = size_of-size_bytes n (bit_bytes bits) in
    let holds = HoldsBits-bit_bytes bits in
    let len : length whole ≡ size_len n + bytes_for (length bits) = length-append (size_bytes n) (bit_bytes bits) ∙ omega (arith, length-size_bytes n, length-bit_bytes bits) in
    let at_least : 1 ≤ size_len n = size_len-some n in
    let least = size.least in
    let most = size.most in
    subst (IsGraphBody format) (sym encoded.text) (record {
      some = omega arith;
      printable = All-append (λ b. is_graph_byte b ≡ true) (size_bytes n) (bit_bytes bits) (size_bytes-printable n size.most)
          (All-from_get_or (λ b. is_graph_byte b ≡ true) (bit_bytes bits) 0 (λ q h. graph_byte (get_or (bit_bytes bits) q 0) (holds.above q h) (let low = holds.below q h in omega arith)));
      points = λ e. elim (cases_lt 62 n) [
        | inl long ↦ let first = first_long n (bit_bytes bits) long in absurd (omega arith)
        | inr short ↦ let first = first_short n (bit_bytes bits) short in absurd (omega arith)
      ];
      medium = λ l e. let second = second_long n (bit_bytes bits) (long_from n (bit_bytes bits) l) in absurd (omega arith);
      four = λ l. let long = size_len-long n (long_from n (bit_bytes bits) l) in omega arith;
      form = λ l. let long = long_from n (bit_bytes bits) l in let same = size_of-long whole l in omega arith;
      limit = λ l. let long = long_from n (bit_bytes bits) l in let same = size_of-long whole l in omega arith;
      len = rw (sz, ← encoded.pairs) len;
      padding = rw (bits_part-encoded n bits, sz, ← encoded.pairs) holds.padding;
    })

-- the bytes of a good line, and those after its size
pub body_printable : (format : GraphFormat) (body : Part) → first_that_holds (graph_tests format body) ≡ None → All (λ b. 63 ≤ b) body.bytes
body_printable format body none =
    All-weaker (λ b. is_graph_byte b ≡ true) (λ b. 63 ≤ b) (λ b e. (from_graph_byte b e).0) body.bytes (body-from_none format body none).printable

pub bits_printable : (format : GraphFormat) (body : Part) (part : List ℕ) → first_that_holds (graph_tests format body) ≡ None → part ≡ bits_part body.bytes → All (λ b. 63 ≤ b) part
bits_printable format body part none e =
    let holds = HoldsBits-from_body format body.bytes (body-from_none format body none) in
    All-same (λ b. 63 ≤ b) part (bits_part body.bytes) e (All-from_get_or (λ b. 63 ≤ b) (bits_part body.bytes) 0 holds.above)

pub bits_enough : (format : GraphFormat) (body : Part) (part : List ℕ) → first_that_holds (graph_tests format body) ≡ None → part ≡ bits_part body.bytes → count_of format (size_of body.bytes) ≤ 6 * length part
bits_enough format body part none e =
    let holds = HoldsBits-from_body format body.bytes (body-from_none format body none) in
    let len = holds.bytes_len in
    let same = ap length e in
    omega arith
