use Rattle.std.proofs.Common.{◌≡◌, ◌==◌, ◌&&◌, ◌||◌, ℕ, ◌+◌, ◌*◌, ◌/◌, ◌%◌, ◌<◌, Bool, true, false, not, cond, List, [], ◌∷◌, length, get_or, map, filter, ⊎_elim, refl, sym, ap, subst, ◌∙◌, arith}
use Rattle.std.specs.List.{AllByRecursion, list_any, flat_map, position_or_len}
use Rattle.std.proofs.lemmas.Bool.{cases_eq, eqb-true, eq-eqb, ne_eqb, or_left, or_right, and_from, not_from_false}
use Rattle.std.proofs.lemmas.Bool.Decides.{Decides-eqb, Decides-like, same_from_decides}
use Rattle.std.proofs.lemmas.List.{length-map, get_or-map}
use Rattle.std.proofs.lemmas.List.Elements.{recursion_from_All, All-from_get_or}
use Rattle.std.proofs.lemmas.List.Folds.{list_any-append}
use Rattle.std.proofs.lemmas.Grind.{same_number_lists}
use Rattle.std.proofs.lemmas.Map.Views.{any-filter_same}
use Rattle.pair_colours.specs.Colouring.{PairColouring, IsColouring, IsColour, Refines, colour_at, points}
use Rattle.pair_colours.specs.Naming.{row_of, walk, first_met, colours_met, name_of, named_of}
use Rattle.pair_colours.proofs.ListLemmas.{Each-append, Each-map, Each-flat_map, Each-filter, Each-weaker, Each-points, map_agree, map-map, list_any-map, list_any-flat_map, list_any-filter, list_any-points}
use Rattle.pair_colours.proofs.NamePlaces.{name_of-position}
use Rattle.pair_colours.proofs.Places.{row_below, column_below, at_place, over, over_at}

-- each number of a list is met
pub met_all : (xs : List ℕ) (c : ℕ) → list_any (λ y. c == y) xs ≡ true → list_any (λ y. c == y) (first_met xs) ≡ true
met_all [] c h = h
met_all (x ∷ xs) c h =
    let again = met_all xs c in
    ⊎_elim
    (λ same. or_left (c == x) _ (eq-eqb c x same))
    (λ ne.
    let no : (c == x) ≡ false = ne_eqb c x ne in
    let rest : list_any (λ y. c == y) xs ≡ true = sym (ap (λ b. b || list_any (λ y. c == y) xs) no) ∙ h in
    let kept : (k : ℕ) → (c == k) ≡ true → not (x == k) ≡ true = λ k e.
    not_from_false (x == k) (ne_eqb x k (λ s. ne (eqb-true c k e ∙ sym s))) in
    or_right (c == x) _ (any-filter_same (λ y. c == y) (λ y. not (x == y)) true kept (first_met xs) ∙ again rest))
    (cases_eq c x)

pub Each-first_met : (P : ℕ → Type 0) (xs : List ℕ) → AllByRecursion P xs → AllByRecursion P (first_met xs)
Each-first_met P [] a = tt
Each-first_met P (x ∷ xs) a = (a.0, Each-filter P (λ y. not (x == y)) (first_met xs) (Each-first_met P xs a.1))

-- a renaming that keeps the numbers of D apart
module _ (f : ℕ → ℕ) (D : ℕ → Type 0) (apart : (a b : ℕ) → D a → D b → f a ≡ f b → a ≡ b) where
  same_test : (a b : ℕ) → D a → D b → (f a == f b) ≡ (a == b)
  same_test a b da db = same_from_decides _ _ (Decides-eqb (f a) (f b)) (Decides-like _ (ap f) (apart a b da db) (Decides-eqb a b))

  filter-renamed : (x : ℕ) → D x → (ks : List ℕ) → AllByRecursion D ks → filter (λ y. not (f x == y)) (map f ks) ≡ map f (filter (λ y. not (x == y)) ks)
  filter-renamed x dx [] a = refl
  filter-renamed x dx (k ∷ ks) a =
      let again = filter-renamed x dx ks a.1 in
      (λ i. cond (not (same_test x k dx a.0 i)) (f k ∷ again i) (again i)) ∙ by (x == k)
    where
      by : (b : Bool) → cond (not b) (f k ∷ map f (filter (λ y. not (x == y)) ks)) (map f (filter (λ y. not (x == y)) ks)) ≡ map f (cond (not b) (k ∷ filter (λ y. not (x == y)) ks) (filter (λ y. not (x == y)) ks))
      by true = refl
      by false = refl

  pub first_met-renamed : (xs : List ℕ) → AllByRecursion D xs → first_met (map f xs) ≡ map f (first_met xs)
  first_met-renamed [] a = refl
  first_met-renamed (x ∷ xs) a =
      ap (λ ks. f x ∷ ks) (ap (filter (λ y. not (f x == y))) (first_met-renamed xs a.1) ∙ filter-renamed x a.0 (first_met xs) (Each-first_met D xs a.1))

  pub position-renamed : (c : ℕ) → D c → (ks : List ℕ) → AllByRecursion D ks → position_or_len (λ y. f c == y) (map f ks) ≡ position_or_len (λ y. c == y) ks
  position-renamed c dc [] a = refl
  position-renamed c dc (k ∷ ks) a =
      let again = position-renamed c dc ks a.1 in
      λ i. cond (not (same_test c k dc a.0 i)) (1 + again i) 0

-- the pairs of the walk are pairs of points, and each pair of points is among them
abbrev pub InSquare : ℕ → ℕ × ℕ → Type 0
InSquare n p = (p.0 < n) × (p.1 < n)

pub Each-walk : (n : ℕ) → AllByRecursion (InSquare n) (walk n)
Each-walk n =
    Each-append (InSquare n) (map (λ x. (x, x)) (points n)) (flat_map (row_of n) (points n))
    (Each-map (InSquare n) (λ x. (x, x)) (points n) (Each-weaker (λ z. z < n) (λ z. (z < n) × (z < n)) (λ z l. (l, l)) (points n) (Each-points n)))
    (Each-flat_map (InSquare n) (row_of n) (points n)
    (Each-weaker (λ z. z < n) (λ x. AllByRecursion (InSquare n) (row_of n x))
    (λ x l. Each-map (InSquare n) (λ y. (x, y)) (filter (λ y. not (x == y)) (points n))
    (Each-filter (λ y. (x < n) × (y < n)) (λ y. not (x == y)) (points n)
    (Each-weaker (λ z. z < n) (λ y. (x < n) × (y < n)) (λ y m. (l, m)) (points n) (Each-points n))))
    (points n) (Each-points n)))

pub list_any-walk : (t : ℕ × ℕ → Bool) (n x y : ℕ) → x < n → y < n → t (x, y) ≡ true → list_any t (walk n) ≡ true
list_any-walk t n x y hx hy h =
    list_any-append t (map (λ z. (z, z)) (points n)) (flat_map (row_of n) (points n))
    ∙ ⊎_elim
    (λ same. or_left _ _
    (list_any-map t (λ z. (z, z)) (points n) ∙ list_any-points (λ z. t (z, z)) n x hx (ap (λ z. t (x, z)) same ∙ h)))
    (λ ne. or_right _ _
    (list_any-flat_map t (row_of n) (points n)
    ∙ list_any-points (λ z. list_any t (row_of n z)) n x hx
    (list_any-map t (λ z. (x, z)) (filter (λ z. not (x == z)) (points n))
    ∙ list_any-filter (λ z. t (x, z)) (λ z. not (x == z)) (points n)
    ∙ list_any-points (λ z. not (x == z) && t (x, z)) n y hy (and_from _ _ (not_from_false (x == y) (ne_eqb x y ne)) h))))
    (cases_eq x y)

pub Each-colours : (A : PairColouring) → IsColouring A → AllByRecursion (IsColour A) A.colours
Each-colours A h =
    recursion_from_All (IsColour A) A.colours
    (All-from_get_or (IsColour A) A.colours 0
    (λ p l. let q = subst (λ m. p < m) h.has_pairs l in
    record { x = p / A.size; y = p % A.size; row = row_below A.size p h.has_points q; column = column_below A.size p h.has_points; is = at_place A p }))

-- the colours along the walk
abbrev pub along : PairColouring → List ℕ
along A = map (λ p. colour_at A p.0 p.1) (walk A.size)

pub Each-along : (A : PairColouring) → AllByRecursion (IsColour A) (along A)
Each-along A =
    Each-map (IsColour A) (λ p. colour_at A p.0 p.1) (walk A.size)
    (Each-weaker (InSquare A.size) (λ p. IsColour A (colour_at A p.0 p.1)) (λ p l. record { x = p.0; y = p.1; row = l.0; column = l.1; is = refl }) (walk A.size) (Each-walk A.size))

-- colourings that refine each other have one naming
pub named_of-same : (A B : PairColouring) → IsColouring A → IsColouring B → Refines A B → Refines B A → named_of A ≡ named_of B
named_of-same A B a b r s = λ i. record { size = r.sizes i; colours = colours i }
  where
    at : (c : ℕ) (u : IsColour A c) → over A B c ≡ colour_at B u.x u.y
    at c u = ap (over A B) (sym u.is) ∙ over_at A B a r u.x u.y u.row u.column

    apart : (c d : ℕ) → IsColour A c → IsColour A d → over A B c ≡ over A B d → c ≡ d
    apart c d u v e =
        sym u.is
        ∙ s.classes u.x u.y v.x v.y (omega (arith, u.row, r.sizes)) (omega (arith, u.column, r.sizes)) (omega (arith, v.row, r.sizes)) (omega (arith, v.column, r.sizes)) (sym (at c u) ∙ e ∙ at d v)
        ∙ v.is

    along-same : along B ≡ map (over A B) (along A)
    along-same =
        ap (λ n. map (λ p. colour_at B p.0 p.1) (walk n)) (sym r.sizes)
        ∙ map_agree (λ p. colour_at B p.0 p.1) (λ p. over A B (colour_at A p.0 p.1)) (walk A.size)
        (Each-weaker (InSquare A.size) (λ p. colour_at B p.0 p.1 ≡ over A B (colour_at A p.0 p.1)) (λ p l. sym (over_at A B a r p.0 p.1 l.0 l.1)) (walk A.size) (Each-walk A.size))
        ∙ sym (map-map (over A B) (λ p. colour_at A p.0 p.1) (walk A.size))

    met : colours_met B ≡ map (over A B) (colours_met A)
    met = ap first_met along-same ∙ first_met-renamed (over A B) (IsColour A) apart (along A) (Each-along A)

    name : (c : ℕ) → IsColour A c → name_of A c ≡ name_of B (over A B c)
    name c u =
        name_of-position A c
        ∙ sym (position-renamed (over A B) (IsColour A) apart c u (colours_met A) (Each-first_met (IsColour A) (along A) (Each-along A)))
        ∙ ap (position_or_len (λ y. over A B c == y)) (sym met)
        ∙ sym (name_of-position B (over A B c))

    size_same : length B.colours ≡ length A.colours
    size_same = b.has_pairs ∙ ap (λ n. n * n) (sym r.sizes) ∙ sym a.has_pairs

    renamed : map (over A B) A.colours ≡ B.colours
    renamed =
        same_number_lists (map (over A B) A.colours) B.colours (length-map A.colours (over A B) ∙ sym size_same)
        (λ k l.
        let m : k < length A.colours = omega (arith, l, length-map A.colours (over A B)) in
        let q = subst (λ z. k < z) a.has_pairs m in
        let there : colour_at B (k / A.size) (k % A.size) ≡ get_or B.colours k 0 = ap (λ n. colour_at B (k / n) (k % n)) r.sizes ∙ at_place B k in
        get_or-map (over A B) A.colours k 0 0 m
        ∙ ap (over A B) (sym (at_place A k))
        ∙ over_at A B a r (k / A.size) (k % A.size) (row_below A.size k a.has_points q) (column_below A.size k a.has_points)
        ∙ there)

    colours : map (name_of A) A.colours ≡ map (name_of B) B.colours
    colours =
        map_agree (name_of A) (λ c. name_of B (over A B c)) A.colours (Each-weaker (IsColour A) (λ c. name_of A c ≡ name_of B (over A B c)) name A.colours (Each-colours A a))
        ∙ sym (map-map (name_of B) (over A B) A.colours)
        ∙ ap (map (name_of B)) renamed
