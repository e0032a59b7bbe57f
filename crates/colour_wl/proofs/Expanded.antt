-- The entries of a class, each as often as its count says, are the triangles over a pair of the class.
use Rattle.std.proofs.Common.{◌≡◌, ◌==◌, ◌&&◌, ℕ, zero, suc, ◌+◌, ◌*◌, ◌<◌, Bool, true, false, List, [], ◌∷◌, ◌++◌, length, get_or, take, replicate, flat_map, count_by, sum_by, slice_index, ⊎_elim, refl, sym, ap, subst, ◌∙◌, arith}
use Rattle.std.specs.List.{AllByRecursion}
use Rattle.std.specs.List.Sorted.{IsPermutation}
use Rattle.std.proofs.lemmas.Bool.{eqb-true, eq-eqb, and_parts, and_from, false_from_ne_true}
use Rattle.std.proofs.lemmas.List.{take_more, replicate-append-replicate, append_assoc}
use Rattle.std.proofs.lemmas.List.Concat.{flat_map-append}
use Rattle.std.proofs.lemmas.List.Elements.{recursion_from_All}
use Rattle.std.proofs.lemmas.List.Sums.{sum_by-cons, sum_by-append}
use Rattle.pair_colours.specs.Colouring.{PairColouring, colour_at, points, triangles}
use Rattle.pair_colours.specs.SideCodes.{code_of_pair, side_code, side_codes}
use Rattle.pair_colours.proofs.Counts.{unit_of, count_by-cons, count_by-map, count_by_points, IsPermutation-from_counts, sum_by_add, sum_by_points_agree, counted}
use Rattle.pair_colours.proofs.Measure.{sum_by_points_more}
use Rattle.triangle_count.specs.declared.rows.Entry.{Entry}
use Rattle.triangle_count.specs.Row.{Precedes, IsRowAt}
use Rattle.struct_consts.specs.ClassData.{IsConfiguration}
use Rattle.colour_wl.specs.Fusions.{merge}
use Rattle.pair_colours.proofs.SortedLists.{In, In_from_Contains, Ordered, Ordered_from_pairs, each_in}
use Rattle.colour_wl.proofs.Sums.{sum_by_agree, sum_by_zero, sum_by_times_right}
use Rattle.colour_wl.proofs.Merged.{colour_at-merge}

sum_by_agree_each : {X : Type 0} (f g : X → ℕ) (xs : List X) → AllByRecursion (λ x. f x ≡ g x) xs → sum_by f xs ≡ sum_by g xs
sum_by_agree_each f g [] a = refl
sum_by_agree_each f g (x ∷ xs) a = sum_by-cons f x xs ∙ (λ i. a.0 i + sum_by_agree_each f g xs a.1 i) ∙ sym (sum_by-cons g x xs)

-- sums over a list and over points, in either order
sum_swap : {X : Type 0} (h : X → ℕ → ℕ) (xs : List X) (n : ℕ) → sum_by (λ x. sum_by (h x) (points n)) xs ≡ sum_by (λ z. sum_by (λ x. h x z) xs) (points n)
sum_swap h xs zero = sum_by_zero xs
sum_swap h xs (suc n) =
    sum_by_agree (λ x. sum_by (h x) (points (suc n))) (λ x. sum_by (h x) (points n) + h x n) (λ x. sum_by_points_more (h x) n) xs
    ∙ sum_by_add (λ x. sum_by (h x) (points n)) (λ x. h x n) xs
    ∙ ap (λ s. s + sum_by (λ x. h x n) xs) (sum_swap h xs n)
    ∙ sym (sum_by_points_more (λ z. sum_by (λ x. h x z) xs) n)

-- whether an entry is that of two colours
abbrev is_at : ℕ → ℕ → Entry → Bool
is_at i j e = (i == e.left) && (j == e.right)

not_at : (i j : ℕ) (e : Entry) → ((e.left ≡ i) → (e.right ≡ j) → ⊥) → is_at i j e ≡ false
not_at i j e h = false_from_ne_true (is_at i j e) (λ t. let p = and_parts (i == e.left) (j == e.right) t in h (sym (eqb-true i e.left p.0)) (sym (eqb-true j e.right p.1)))

no_hits : (i j : ℕ) (w : Entry → ℕ) (es : List Entry) → AllByRecursion (λ e. (e.left ≡ i) → (e.right ≡ j) → ⊥) es → sum_by (λ e. unit_of (is_at i j e) * w e) es ≡ 0
no_hits i j w [] a = refl
no_hits i j w (e ∷ es) a =
    sum_by-cons (λ f. unit_of (is_at i j f) * w f) e es
    ∙ (λ k. unit_of (not_at i j e a.0 k) * w e + no_hits i j w es a.1 k)
    ∙ omega arith

apart : (e f : Entry) → Precedes e f → e.left ≡ f.left → e.right ≡ f.right → ⊥
apart e f p l r = ⊎_elim (λ (a : e.left < f.left). absurd (omega (arith, a, l))) (λ b. absurd (omega (arith, b.1, r))) p

-- one entry of a row is that of two colours
one_hit : (i j : ℕ) (w : Entry → ℕ) (es : List Entry) → Ordered Precedes es → (e : Entry) → In e es → e.left ≡ i → e.right ≡ j → sum_by (λ f. unit_of (is_at i j f) * w f) es ≡ w e
one_hit i j w [] o e h l r = absurd h
one_hit i j w (y ∷ es) o e h l r = ⊎_elim
    (λ (s : e ≡ y).
    let rest = no_hits i j w es (later es o.0 (λ f p a b. apart y f p (ap (λ (z : Entry). z.left) (sym s) ∙ l ∙ sym a) (ap (λ (z : Entry). z.right) (sym s) ∙ r ∙ sym b))) in
    let own : is_at i j y ≡ true = subst (λ z. is_at i j z ≡ true) s (and_from (i == e.left) (j == e.right) (eq-eqb i e.left (sym l)) (eq-eqb j e.right (sym r))) in
    sum_by-cons (λ f. unit_of (is_at i j f) * w f) y es ∙ (λ k. unit_of (own k) * w (sym s k) + rest k) ∙ omega arith)
    (λ i'.
    let p : Precedes y e = each_in (Precedes y) es o.0 e i' in
    let none : is_at i j y ≡ false = not_at i j y (λ a b. apart y e p (a ∙ sym l) (b ∙ sym r)) in
    sum_by-cons (λ f. unit_of (is_at i j f) * w f) y es ∙ (λ k. unit_of (none k) * w y + one_hit i j w es o.1 e i' l r k) ∙ omega arith)
    h
  where
    later : (fs : List Entry) → AllByRecursion (Precedes y) fs → ((f : Entry) → Precedes y f → (f.left ≡ i) → (f.right ≡ j) → ⊥) → AllByRecursion (λ f. (f.left ≡ i) → (f.right ≡ j) → ⊥) fs
    later [] a h = tt
    later (f ∷ fs) a h = (h f a.0, later fs a.1 h)

-- what is counted over the points is a sum over the entries
pub row_sum : (K : PairColouring) (x y : ℕ) (entries : List Entry) → IsRowAt K x y entries → (t : ℕ → ℕ → Bool)
    → count_by (λ z. t (colour_at K x z) (colour_at K z y)) (points K.size) ≡ sum_by (λ e. e.count * unit_of (t e.left e.right)) entries
row_sum K x y entries r t =
    let w : Entry → ℕ = λ e. unit_of (t e.left e.right) in
    let f : ℕ → ℕ = λ z. colour_at K x z in
    let g : ℕ → ℕ = λ z. colour_at K z y in
    sum_by_points_agree (λ z. unit_of (t (f z) (g z))) (λ z. sum_by (λ e. unit_of (is_at (f z) (g z) e) * w e) entries) K.size
    (λ z hz.
    let here = counted (λ v. (f v == f z) && (g v == g z)) K.size z hz (and_from (f z == f z) (g z == g z) (eq-eqb (f z) (f z) refl) (eq-eqb (g z) (g z) refl)) in
    let a = r.complete (f z) (g z) here in
    sym (one_hit (f z) (g z) w entries (Ordered_from_pairs Precedes entries r.rises) a.1 (In_from_Contains entries a.1 (a.0, a.2, a.3)) a.4.0 a.4.1
    ∙ (λ i. unit_of (t (a.4.0 i) (a.4.1 i)))))
    ∙ sym (sum_swap (λ e z. unit_of (is_at (f z) (g z) e) * w e) entries K.size)
    ∙ sum_by_agree (λ e. sum_by (λ z. unit_of (is_at (f z) (g z) e) * w e) (points K.size)) (λ e. triangles K x y e.left e.right * w e)
    (λ e. sum_by_times_right (w e) (λ z. unit_of (is_at (f z) (g z) e)) (points K.size)) entries
    ∙ sum_by_agree_each (λ e. triangles K x y e.left e.right * w e) (λ e. e.count * w e) entries
    (each_count entries (recursion_from_All (λ e. e.count ≡ triangles K x y e.left e.right) entries r.counts))
  where
    each_count : (es : List Entry) → AllByRecursion (λ e. e.count ≡ triangles K x y e.left e.right) es → AllByRecursion (λ e. triangles K x y e.left e.right * unit_of (t e.left e.right) ≡ e.count * unit_of (t e.left e.right)) es
    each_count [] a = tt
    each_count (e ∷ es) a = (ap (λ n. n * unit_of (t e.left e.right)) (sym a.0), each_count es a.1)

-- the code of an entry by the numbers of a string, and all codes
abbrev pub number_code : List ℕ → Entry → ℕ
number_code a e = code_of_pair (slice_index a e.left) (slice_index a e.right)

abbrev pub expanded : List ℕ → List Entry → List ℕ
expanded a entries = flat_map (λ e. replicate e.count (number_code a e)) entries

count_by-replicate : (p : ℕ → Bool) (n c : ℕ) → count_by p (replicate n c) ≡ n * unit_of (p c)
count_by-replicate p zero c = omega arith
count_by-replicate p (suc n) c = count_by-cons p c (replicate n c) ∙ ap (λ s. unit_of (p c) + s) (count_by-replicate p n c) ∙ omega arith

count_by-expanded : (p : ℕ → Bool) (a : List ℕ) (entries : List Entry) → count_by p (expanded a entries) ≡ sum_by (λ e. e.count * unit_of (p (number_code a e))) entries
count_by-expanded p a [] = refl
count_by-expanded p a (e ∷ es) =
    sum_by-append (λ c. unit_of (p c)) (replicate e.count (number_code a e)) (expanded a es)
    ∙ (λ i. count_by-replicate p e.count (number_code a e) i + count_by-expanded p a es i)
    ∙ sym (sum_by-cons (λ f. f.count * unit_of (p (number_code a f))) e es)

-- the codes are those of the sides in the merged colouring
pub IsPermutation-expanded : (K : PairColouring) → IsConfiguration K → (a : List ℕ) (x y : ℕ) → x < K.size → y < K.size → (entries : List Entry) → IsRowAt K x y entries
    → IsPermutation (side_codes (merge K a) x y) (expanded a entries)
IsPermutation-expanded K h a x y hx hy entries r =
    IsPermutation-from_counts (λ c d. c == d) eqb-true (λ c. eq-eqb c c refl) (side_codes (merge K a) x y) (expanded a entries)
    (λ w.
    count_by-map (λ c. w == c) (side_code (merge K a) x y) (points K.size)
    ∙ count_by_points (λ z. w == side_code (merge K a) x y z) (λ z. w == code_of_pair (slice_index a (colour_at K x z)) (slice_index a (colour_at K z y))) K.size
    (λ z hz i. w == code_of_pair (colour_at-merge K h.colouring a x z hx hz i) (colour_at-merge K h.colouring a z y hz hy i))
    ∙ row_sum K x y entries r (λ i j. w == code_of_pair (slice_index a i) (slice_index a j))
    ∙ sym (count_by-expanded (λ c. w == c) a entries))

-- the steps of the loops
pub expanded_more : (a : List ℕ) (entries : List Entry) (i : ℕ) (d : Entry) → i < length entries
    → expanded a (take (i + 1) entries) ≡ expanded a (take i entries) ++ replicate (get_or entries i d).count (number_code a (get_or entries i d))
expanded_more a entries i d l =
    ap (expanded a) (take_more entries i d l)
    ∙ flat_map-append (λ e. replicate e.count (number_code a e)) (take i entries) (get_or entries i d ∷ [])
    ∙ ap (λ l. expanded a (take i entries) ++ l) (nil_right (replicate (get_or entries i d).count (number_code a (get_or entries i d))))
  where
    nil_right : (xs : List ℕ) → xs ++ [] ≡ xs
    nil_right [] = refl
    nil_right (x ∷ xs) = ap (λ l. x ∷ l) (nil_right xs)

pub replicate_more : (front : List ℕ) (j c : ℕ) → (front ++ replicate j c) ++ c ∷ [] ≡ front ++ replicate (j + 1) c
replicate_more front j c = append_assoc front (replicate j c) (c ∷ []) ∙ ap (λ l. front ++ l) (replicate-append-replicate j 1 c)
