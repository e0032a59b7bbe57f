-- Rows of numbers as lines, and back.
use Rattle.std.proofs.Common.{◌≡◌, ℕ, zero, suc, ◌+◌, ◌*◌, ◌<◌, ◌≤◌, ◌^◌, true, List, [], ◌∷◌, ◌++◌, length, take, drop, map, refl, sym, ap, ◌∙◌, arith}
use Rattle.std.specs.List.{AllByRecursion, join_with_byte, range_with_len}
use Rattle.std.proofs.Math.Seq.{take-append_seam, drop-append_seam}
use Rattle.std.proofs.lemmas.List.{ext_get_or, take-append-drop, take_all, length-drop, length-take-le, get_or-take, get_or-drop, drop-drop, drop-append-le, take-append-le, nil_from_length}
use Rattle.std.proofs.lemmas.List.FromFn.{get_or-map-range_with_len, length-map-range_with_len}
use Rattle.std.proofs.lemmas.Nat.{mul-le}
use Rattle.pair_colours.specs.Colouring.{PairColouring, IsColouring, colour_at, points}
use Rattle.pair_colours.proofs.ListLemmas.{Each-take, Each-drop}
use Rattle.text_lines.specs.Joined.{spaced}
use Rattle.text_lines.specs.LineNumbers.{between_spaces, is_row_to, are_numbers, numbers_on, value}
use Rattle.text_lines.specs.Rows.{matrix_row, matrix_lines}
use Rattle.text_lines.proofs.LineNumbers.{join_split, write_values, are_numbers-decimal, values-decimal, small_numbers, between_spaces-spaced}
use Rattle.text_lines.proofs.LineBytes.{IsPlain, row_plain}

-- a row of n numbers within a limit
pub row_good : (limit n : ℕ) (numbers : List ℕ) → limit < 2 ^ 32 → 1 ≤ n → length numbers ≡ n → AllByRecursion (λ c. c ≤ limit) numbers
    → (is_row_to limit n (spaced numbers) ≡ true) × (numbers_on (spaced numbers) ≡ numbers)
row_good limit n [] l h e a = absurd (omega (arith, h, e))
row_good limit n (c ∷ cs) l h e a =
    let cut = between_spaces-spaced c cs (small_numbers limit l (c ∷ cs) a) in (
      ap (are_numbers limit n) cut ∙ are_numbers-decimal limit n (c ∷ cs) l e a,
      ap (map value) cut ∙ values-decimal limit l (c ∷ cs) a,
    )

-- the line is the row of n numbers within the limit
pub record IsRowOf (limit n : ℕ) (line numbers : List ℕ) : Type 0 where
  pub count : length numbers ≡ n
  pub spelled : line ≡ spaced numbers
  pub small : AllByRecursion (λ c. c ≤ limit) numbers

pub row_back : (limit n : ℕ) (line : List ℕ) → is_row_to limit n line ≡ true → IsRowOf limit n line (numbers_on line)
row_back limit n line h =
    let w = write_values limit n (between_spaces line) h in
    record { count = w.count; spelled = sym (join_split line) ∙ ap (join_with_byte 32) w.spelled; small = w.small }

-- numbers as k rows of n
abbrev pub rows_of : ℕ → ℕ → List ℕ → List (List ℕ)
rows_of n zero numbers = []
rows_of n (suc k) numbers = spaced (take n numbers) ∷ rows_of n k (drop n numbers)

-- the numbers of a row
row_numbers : (C : PairColouring) (x : ℕ) → IsColouring C → x < C.size → map (λ y. colour_at C x y) (points C.size) ≡ take C.size (drop (x * C.size) C.colours)
row_numbers C x c h =
    let n = C.size in
    let low : (x + 1) * n ≤ n * n = mul-le (x + 1) n n n (omega (arith, h)) (omega arith) in
    let room : n ≤ length (drop (x * n) C.colours) = omega (arith, length-drop (x * n) C.colours, c.has_pairs, low) in
    let len : length (map (λ y. colour_at C x y) (points n)) ≡ n = length-map-range_with_len (λ y. colour_at C x y) 0 n in
    ext_get_or 0 (map (λ y. colour_at C x y) (points n)) (take n (drop (x * n) C.colours)) (len ∙ sym (length-take-le n (drop (x * n) C.colours) room))
    (λ i below. let b : i < n = omega (arith, below, len) in
    get_or-map-range_with_len (λ y. colour_at C x y) 0 n i i 0 b (omega arith) ∙ sym (get_or-take n (drop (x * n) C.colours) i 0 b ∙ get_or-drop (x * n) C.colours i 0))

rows_from : (C : PairColouring) (k x : ℕ) → IsColouring C → x + k ≤ C.size → map (matrix_row C) (range_with_len x k) ≡ rows_of C.size k (drop (x * C.size) C.colours)
rows_from C zero x c h = refl
rows_from C (suc k) x c h =
    let n = C.size in
    let next : drop n (drop (x * n) C.colours) ≡ drop ((x + 1) * n) C.colours = drop-drop n (x * n) C.colours ∙ ap (λ m. drop m C.colours) (omega arith) in
    let rest = rows_from C k (x + 1) c (omega (arith, h)) ∙ ap (rows_of n k) (sym next) in
    λ i. spaced (row_numbers C x c (omega (arith, h)) i) ∷ rest i

pub rows_shown : (C : PairColouring) → IsColouring C → matrix_lines C ≡ rows_of C.size C.size C.colours
rows_shown C c = rows_from C C.size 0 c (omega arith) ∙ ap (λ m. rows_of C.size C.size (drop m C.colours)) zero_times
  where
    zero_times : 0 * C.size ≡ 0
    zero_times = omega arith

-- a row in front of numbers
pub record IsCut (limit n k : ℕ) (numbers : List ℕ) : Type 0 where
  pub count : length (take n numbers) ≡ n
  pub small : AllByRecursion (λ c. c ≤ limit) (take n numbers)
  pub others : length (drop n numbers) ≡ k * n
  pub rest : AllByRecursion (λ c. c ≤ limit) (drop n numbers)

pub cut_row : (limit n k : ℕ) (numbers : List ℕ) → length numbers ≡ suc k * n → AllByRecursion (λ c. c ≤ limit) numbers → IsCut limit n k numbers
cut_row limit n k numbers e a =
    let all : length numbers ≡ n + k * n = omega (arith, e) in
    record {
      count = length-take-le n numbers (omega (arith, all));
      small = Each-take (λ c. c ≤ limit) n numbers a;
      others = omega (arith, length-drop n numbers, all);
      rest = Each-drop (λ c. c ≤ limit) n numbers a;
    }

-- one more row at the end
pub rows_of-push : (n x : ℕ) (xs ys : List ℕ) → length xs ≡ x * n → length ys ≡ n → rows_of n (x + 1) (xs ++ ys) ≡ rows_of n x xs ++ spaced ys ∷ []
rows_of-push n zero [] ys e f = ap (λ l. spaced l ∷ []) (take_all n ys (omega (arith, f)))
rows_of-push n zero (x ∷ xs) ys e f = absurd (omega (arith, e))
rows_of-push n (suc k) xs ys e f =
    let long : n ≤ length xs = omega (arith, e) in
    let rest = rows_of-push n k (drop n xs) ys (omega (arith, e, length-drop n xs)) f in
    let more : suc k + 1 ≡ suc (k + 1) = omega arith in
    ap (λ m. rows_of n m (xs ++ ys)) more ∙ λ i. spaced (take-append-le n xs ys long i) ∷ (ap (rows_of n (k + 1)) (drop-append-le n xs ys long) ∙ rest) i

-- rows of numbers start with the numbers of the first
pub front_of : (n : ℕ) (xs ys : List ℕ) → length xs ≡ n → take n (xs ++ ys) ≡ xs
front_of n xs ys l = ap (λ m. take m (xs ++ ys)) (sym l) ∙ take-append_seam xs ys

pub behind_of : (n : ℕ) (xs ys : List ℕ) → length xs ≡ n → drop n (xs ++ ys) ≡ ys
behind_of n xs ys l = ap (λ m. drop m (xs ++ ys)) (sym l) ∙ drop-append_seam xs ys

-- no byte of a row ends its line
pub rows_plain : (limit n k : ℕ) (numbers : List ℕ) → limit < 2 ^ 32 → 1 ≤ n → length numbers ≡ k * n → AllByRecursion (λ c. c ≤ limit) numbers → AllByRecursion IsPlain (rows_of n k numbers)
rows_plain limit n zero numbers l h e a = tt
rows_plain limit n (suc k) numbers l h e a =
    let cut = cut_row limit n k numbers e a in
    (row_plain limit (take n numbers) l (omega (arith, cut.count, h)) cut.small, rows_plain limit n k (drop n numbers) l h cut.others cut.rest)

-- rows are those of one list of numbers
pub record SameRows (xs ys : List ℕ) (us vs : List (List ℕ)) : Type 0 where
  pub numbers : xs ≡ ys
  pub rest : us ≡ vs

pub rows_same : (limit n k : ℕ) (xs ys : List ℕ) (us vs : List (List ℕ)) → limit < 2 ^ 32 → 1 ≤ n → length xs ≡ k * n → length ys ≡ k * n
    → AllByRecursion (λ c. c ≤ limit) xs → AllByRecursion (λ c. c ≤ limit) ys → rows_of n k xs ++ us ≡ rows_of n k ys ++ vs → SameRows xs ys us vs
rows_same limit n zero xs ys us vs l h ex ey a b e = record { numbers = nil_from_length xs (omega (arith, ex)) ∙ sym (nil_from_length ys (omega (arith, ey))); rest = e }
rows_same limit n (suc k) xs ys us vs l h ex ey a b e =
    let cx = cut_row limit n k xs ex a in
    let cy = cut_row limit n k ys ey b in
    let head : spaced (take n xs) ≡ spaced (take n ys) = cc in
    let tail : rows_of n k (drop n xs) ++ us ≡ rows_of n k (drop n ys) ++ vs = cc in
    let again = rows_same limit n k (drop n xs) (drop n ys) us vs l h cx.others cy.others cx.rest cy.rest tail in
    let own : take n xs ≡ take n ys =
    sym (row_good limit n (take n xs) l h cx.count cx.small).1 ∙ ap numbers_on head ∙ (row_good limit n (take n ys) l h cy.count cy.small).1 in
    record {
      numbers = sym (take-append-drop n xs) ∙ (λ i. own i ++ again.numbers i) ∙ take-append-drop n ys;
      rest = again.rest;
    }
