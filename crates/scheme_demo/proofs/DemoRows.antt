-- The relation of a number, pair by pair.
use Rattle.std.proofs.Common.{◌≡◌, ◌==◌, ℕ, ◌+◌, ◌-◌, ◌*◌, ◌%◌, ◌^◌, ◌<◌, ◌≤◌, if◌then◌else◌, true, false, List, [], ◌∷◌, length, take, get_or, flat_map, All, refl, sym, ap, ◌∙◌, arith}
use Rattle.std.proofs.lemmas.List.{length-append, length-take-le}
use Rattle.std.proofs.lemmas.List.Concat.{get_or-flat_map}
use Rattle.std.proofs.lemmas.List.Elements.{All-nil, All-append, All-map, All-weaker}
use Rattle.std.proofs.lemmas.List.FromFn.{length-range_with_len, get_or-range_with_len, length-map-range_with_len, get_or-map-range_with_len}
use Rattle.pair_colours.specs.Colouring.{IsColouring, IsRawColouring, colour_at, points}
use Rattle.pair_colours.specs.declared.coloured_pairs.TheConstants.{MOST_COLOUR}
use Rattle.scheme_demo.specs.Demonstration.{demo_size, demo_weight, demo_colour, demo_row, demo_relation_of}

-- rows of one length, one after the other
length_rows : (row : ℕ → List ℕ) (n : ℕ) → ((x : ℕ) → length (row x) ≡ n) → (xs : List ℕ) → length (flat_map row xs) ≡ length xs * n
length_rows row n each [] = omega arith
length_rows row n each (x ∷ xs) = omega (arith, length-append (row x) (flat_map row xs), each x, length_rows row n each xs)

at_row : (row : ℕ → List ℕ) (m n x y : ℕ) → ((x : ℕ) → length (row x) ≡ n) → x < m → y < n
    → get_or (flat_map row (points m)) (x * n + y) 0 ≡ get_or (row x) y 0
at_row row m n x y each hx hy =
    let here : get_or (points m) x 0 ≡ x = omega (arith, get_or-range_with_len 0 m x 0 hx) in
    let inside : x < length (points m) = omega (arith, hx, length-range_with_len 0 m) in
    let front : length (take x (points m)) ≡ x = length-take-le x (points m) (omega (arith, inside)) in
    let before : length (flat_map row (take x (points m))) ≡ x * n = length_rows row n each (take x (points m)) ∙ ap (λ k. k * n) front in
    ap (λ k. get_or (flat_map row (points m)) (k + y) 0) (sym before)
    ∙ get_or-flat_map row (points m) x y 0 0 inside (omega (arith, hy, each (get_or (points m) x 0)))
    ∙ ap (λ k. get_or (row k) y 0) here

-- what every row has, all rows have
All_rows : (P : ℕ → Type 0) (row : ℕ → List ℕ) → ((x : ℕ) → All P (row x)) → (xs : List ℕ) → All P (flat_map row xs)
All_rows P row each [] = All-nil P
All_rows P row each (x ∷ xs) = All-append P (row x) (flat_map row xs) (each x) (All_rows P row each xs)

length-demo_row : (number x : ℕ) → length (demo_row number x) ≡ demo_size number
length-demo_row number x = length-map-range_with_len (demo_colour number x) 0 (demo_size number)

pub size_is : (number : ℕ) → (demo_relation_of number).size ≡ demo_size number
unfolding demo_relation_of
size_is number = refl

pub colour_at-demo : (number x y : ℕ) → x < demo_size number → y < demo_size number → colour_at (demo_relation_of number) x y ≡ demo_colour number x y
unfolding demo_relation_of
colour_at-demo number x y hx hy =
    at_row (demo_row number) (demo_size number) (demo_size number) x y (length-demo_row number) hx hy
    ∙ get_or-map-range_with_len (demo_colour number x) 0 (demo_size number) y y 0 hy (omega arith)

-- the colours are 0 to 3
colour_below : (number x y : ℕ) → demo_colour number x y < 4
colour_below number x y =
    let d : ℕ = (y + demo_size number - x) % demo_size number in
    elim (x == y) as (λ b. (if b then 0 else demo_weight number d) < 4) [ true ↦ omega arith | false ↦ omega arith ]

colours_below : (number : ℕ) → All (λ colour. colour < 4) (demo_relation_of number).colours
unfolding demo_relation_of
colours_below number =
    All_rows (λ colour. colour < 4) (demo_row number)
    (λ x. All-map (λ colour. colour < 4) (demo_colour number x) (points (demo_size number)) (λ k d h. colour_below number x _))
    (points (demo_size number))

pub demo_relation_is_colouring : (number : ℕ) → IsColouring (demo_relation_of number)
unfolding demo_relation_of
demo_relation_is_colouring number = record {
  has_points = omega arith;
  has_pairs =
      length_rows (demo_row number) (demo_size number) (length-demo_row number) (points (demo_size number))
      ∙ ap (λ k. k * demo_size number) (length-range_with_len 0 (demo_size number));
}

pub demo_relation_is_raw : (number : ℕ) → IsRawColouring (demo_relation_of number)
demo_relation_is_raw number = record {
  fits = record {
    colouring = demo_relation_is_colouring number;
    limit = omega (arith, size_is number);
    numbers = All-weaker (λ colour. colour < 4) (λ colour. colour < 2 ^ 32) (λ colour h. omega (arith, h)) _ (colours_below number);
  };
  raw = All-weaker (λ colour. colour < 4) (λ colour. colour ≤ MOST_COLOUR) (λ colour h. omega (arith, h)) _ (colours_below number);
}
