-- Colourings of one size in which each pair has one colour are equal.
use Rattle.std.proofs.Common.{◌≡◌, ℕ, ◌+◌, ◌*◌, ◌/◌, ◌%◌, ◌<◌, ◌≤◌, length, get_or, set, replicate, sym, ap, subst, ◌∙◌, arith}
use Rattle.std.proofs.lemmas.List.{ext_get_or, get_or-replicate, length-set, length-replicate}
use Rattle.pair_colours.specs.Colouring.{PairColouring, IsColouring, colour_at}
use Rattle.pair_colours.proofs.Places.{place_below, at_place, row_below, column_below}

pub record SameColours (A B : PairColouring) : Type 0 where
  pub sizes : A.size ≡ B.size
  pub colours : (x y : ℕ) → x < A.size → y < A.size → colour_at A x y ≡ colour_at B x y

pub same_colouring : (A B : PairColouring) → IsColouring A → IsColouring B → SameColours A B → A ≡ B
same_colouring A B a b same =
    let len : length A.colours ≡ length B.colours = a.has_pairs ∙ ap (λ n. n * n) same.sizes ∙ sym b.has_pairs in
    let at : (p : ℕ) → p < length A.colours → get_or A.colours p 0 ≡ get_or B.colours p 0 = λ p h.
    let inside : p < A.size * A.size = subst (λ (n : ℕ). p < n) a.has_pairs h in
    sym (at_place A p) ∙ same.colours (p / A.size) (p % A.size) (row_below A.size p a.has_points inside) (column_below A.size p a.has_points)
    ∙ ap (λ n. colour_at B (p / n) (p % n)) same.sizes ∙ at_place B p in
    let lists : A.colours ≡ B.colours = ext_get_or 0 A.colours B.colours len at in
    both A B same.sizes lists
  where
    both : (C D : PairColouring) → C.size ≡ D.size → C.colours ≡ D.colours → C ≡ D
    both C D e f = λ i. record { size = e i; colours = f i }

-- a colouring stays one where a colour is changed, and equal colours are one
pub IsColouring-set : (A B : PairColouring) (k colour : ℕ) → IsColouring A → B.size ≡ A.size → B.colours ≡ set A.colours k colour → IsColouring B
IsColouring-set A B k colour a sizes colours = record {
  has_points = subst (λ (n : ℕ). 1 ≤ n) (sym sizes) a.has_points;
  has_pairs = ap length colours ∙ length-set A.colours k colour ∙ a.has_pairs ∙ ap (λ n. n * n) (sym sizes);
}

pub IsColouring-filled : (A : PairColouring) (n colour : ℕ) → 1 ≤ n → A.size ≡ n → A.colours ≡ replicate (n * n) colour → IsColouring A
IsColouring-filled A n colour some size colours = record {
  has_points = omega arith;
  has_pairs = ap length colours ∙ length-replicate (n * n) colour ∙ ap (λ m. m * m) (sym size);
}

pub colour_at-filled : (A : PairColouring) (n colour : ℕ) → A.size ≡ n → A.colours ≡ replicate (n * n) colour → (x y : ℕ) → x < n → y < n → colour_at A x y ≡ colour
colour_at-filled A n colour size colours x y h l =
    ap (λ m. get_or A.colours (x * m + y) 0) size ∙ ap (λ cs. get_or cs (x * n + y) 0) colours ∙ get_or-replicate (n * n) (x * n + y) colour 0 (place_below n x y h l)
