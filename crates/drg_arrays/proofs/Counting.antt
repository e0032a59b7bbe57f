-- Which points the counts count, and the steps of counting them.
use Rattle.std.proofs.Common.{◌≡◌, ◌==◌, ◌&&◌, ℕ, ◌+◌, ◌*◌, ◌<◌, Bool, true, false, cond, List, get_or, length, count_by, [], ◌∷◌, ◌++◌, below_more, ap, ◌∙◌, arith}
use Rattle.std.proofs.lemmas.Bool.{eq-eqb, ne_eqb, and_from, and_right}
use Rattle.std.proofs.lemmas.List.{get_or_append_left, get_or_push}
use Rattle.std.proofs.lemmas.List.Sums.{sum_by_push}
use Rattle.pair_colours.specs.Colouring.{points}
use Rattle.pair_colours.proofs.Counts.{points_more, unit_of}
use Rattle.drg_arrays.specs.Graph.{Graph, is_edge}

-- w is a neighbour of v at the distance just below `end` from u
abbrev pub is_counted : Graph → List ℕ → ℕ → ℕ → ℕ → ℕ → Bool
is_counted G table u v end w = is_edge G v w && (get_or table (u * G.size + w) 0 + 1 == end)

count_by-points_more : (p : ℕ → Bool) (w : ℕ) → count_by p (points (w + 1)) ≡ count_by p (points w) + cond (p w) 1 0
count_by-points_more p w = ap (count_by p) (points_more w) ∙ sum_by_push (λ z. cond (p z) 1 0) (points w) w

-- a step of a count: the point passes both tests, or fails the first, or the second
pub counted_both : (edge : ℕ → Bool) (left right : ℕ → ℕ) (w count : ℕ) → edge w ≡ true → left w ≡ right w
    → count ≡ count_by (λ z. edge z && (left z == right z)) (points w) → count + 1 ≡ count_by (λ z. edge z && (left z == right z)) (points (w + 1))
counted_both edge left right w count j e h =
    let p : ℕ → Bool = λ z. edge z && (left z == right z) in
    let t : (edge w && (left w == right w)) ≡ true = and_from (edge w) (left w == right w) j (eq-eqb (left w) (right w) e) in
    let one : unit_of (edge w && (left w == right w)) ≡ 1 = ap unit_of t in
    omega (arith, h, count_by-points_more (λ z. edge z && (left z == right z)) w, one)

pub counted_apart : (edge : ℕ → Bool) (left right : ℕ → ℕ) (w count : ℕ) → edge w ≡ false
    → count ≡ count_by (λ z. edge z && (left z == right z)) (points w) → count ≡ count_by (λ z. edge z && (left z == right z)) (points (w + 1))
counted_apart edge left right w count j h =
    let none : unit_of (edge w && (left w == right w)) ≡ 0 = ap (λ a. unit_of (a && (left w == right w))) j in
    omega (arith, h, count_by-points_more (λ z. edge z && (left z == right z)) w, none)

pub counted_unequal : (edge : ℕ → Bool) (left right : ℕ → ℕ) (w count : ℕ) → (left w ≡ right w → ⊥)
    → count ≡ count_by (λ z. edge z && (left z == right z)) (points w) → count ≡ count_by (λ z. edge z && (left z == right z)) (points (w + 1))
counted_unequal edge left right w count ne h =
    let t : (edge w && (left w == right w)) ≡ false = and_right (edge w) (left w == right w) (ne_eqb (left w) (right w) ne) in
    let none : unit_of (edge w && (left w == right w)) ≡ 0 = ap unit_of t in
    omega (arith, h, count_by-points_more (λ z. edge z && (left z == right z)) w, none)

-- one more entry of a list of the values of a function
pub values_more : (F : ℕ → ℕ) (xs new : List ℕ) (x p : ℕ) → length xs ≡ p → new ≡ xs ++ x ∷ [] → x ≡ F p
    → ((k : ℕ) → k < p → get_or xs k 0 ≡ F k) → (k : ℕ) → k < p + 1 → get_or new k 0 ≡ F k
values_more F xs new x p len e f h = below_more (λ k. get_or new k 0 ≡ F k) p
    (λ k l. ap (λ ys. get_or ys k 0) e ∙ get_or_append_left xs (x ∷ []) 0 k (omega (arith, l, len)) ∙ h k l)
    (ap (λ ys. get_or ys p 0) e ∙ get_or_push xs x 0 p len ∙ f)
