-- Sets of colours: membership and the test that computes it, and that each set is an edge set or not.
use Rattle.std.proofs.Common.{◌≡◌, ◌==◌, ℕ, ◌+◌, ◌*◌, ◌<◌, ◌≤◌, ◌⊎◌, Bool, true, false, nat_eq, List, length, get_or, refl, sym, subst, ◌∙◌, arith, ⊎_elim, inl, inr}
use Rattle.std.specs.List.{list_any}
use Rattle.std.proofs.lemmas.Bool.{eq-eqb, ne_eqb, eqb-true, both_ways, cases_Bool, cases_eq}
use Rattle.std.proofs.lemmas.List.{get_or_default}
use Rattle.std.proofs.lemmas.List.Elements.{All-from_get_or}
use Rattle.std.proofs.lemmas.List.Folds.{list_any_at, Any-from_list_any}
use Rattle.pair_colours.specs.Colouring.{PairColouring, IsColouring, IsColour, colour_at}
use Rattle.pair_colours.specs.ColourSets.{is_in, IsColourSet, ColourSetOrNot, EdgeSetOrNot}
use Rattle.pair_colours.proofs.Places.{place_below}
use Rattle.pair_colours.proofs.ListReads.{IsColour-at}
use Rattle.pair_colours.proofs.Reaching.{all_below}

eq_swap : (a b : ℕ) → (a == b) ≡ (b == a)
eq_swap a b = ⊎_elim
    (λ (e : a ≡ b). eq-eqb a b e ∙ sym (eq-eqb b a (sym e)))
    (λ (ne : a ≡ b → ⊥). ne_eqb a b ne ∙ sym (ne_eqb b a (λ e. ne (sym e))))
    (cases_eq a b)

-- an index set compares the other way round
pub is_in-contains : (keys : List ℕ) (c : ℕ) → is_in keys c ≡ list_any (nat_eq c) keys
is_in-contains keys c = λ i. list_any (λ member. eq_swap member c i) keys

-- the colours of pairs are those of the list
pub is_in-colour : (A : PairColouring) → IsColouring A → (c : ℕ) → IsColour A c → is_in A.colours c ≡ true
is_in-colour A h c u =
    let p = u.x * A.size + u.y in
    let l : p < length A.colours = subst (λ m. p < m) (sym h.has_pairs) (place_below A.size u.x u.y u.row u.column) in
    list_any_at (λ member. member == c) A.colours p 0 l (eq-eqb (get_or A.colours p 0) c u.is)

pub IsColour-is_in : (A : PairColouring) → IsColouring A → (c : ℕ) → is_in A.colours c ≡ true → IsColour A c
IsColour-is_in A h c m =
    let a = Any-from_list_any (λ member. member == c) A.colours m in
    let at : get_or A.colours a.0 0 ≡ c = get_or_default A.colours a.0 0 a.1 a.2 ∙ a.3 ∙ eqb-true a.1 c a.4 in
    subst (IsColour A) at (IsColour-at A h a.0 a.2)

-- what holds of each place of a set holds of its numbers
pub IsColourSet-each : (A : PairColouring) (set : List ℕ) (n : ℕ) → length set ≤ n → ((k : ℕ) → k < n → IsColour A (get_or set k 0)) → IsColourSet A set
IsColourSet-each A set n end all = All-from_get_or (IsColour A) set 0 (λ k l. all k (omega (arith, l, end)))

-- the two tests of the pairs of a set
abbrev pub IsLoopless : PairColouring → (ℕ → Bool) → Type 0
IsLoopless C test = (x : ℕ) → x < C.size → test (colour_at C x x) ≡ false

abbrev pub IsSymmetric : PairColouring → (ℕ → Bool) → Type 0
IsSymmetric C test = (x y : ℕ) → x < C.size → y < C.size → test (colour_at C x y) ≡ true → test (colour_at C y x) ≡ true

-- a number is a colour or not, and a set of numbers is a set of colours, an edge set, or not
colour_or_not : (C : PairColouring) → IsColouring C → (c : ℕ) → IsColour C c ⊎ ¬ IsColour C c
colour_or_not C h c = ⊎_elim
    (λ t. inl (IsColour-is_in C h c t))
    (λ f. inr (λ u. both_ways (is_in C.colours c) f (is_in-colour C h c u)))
    (cases_Bool (is_in C.colours c))

pub colour_set_or_not : ColourSetOrNot
colour_set_or_not C h set = ⊎_elim
    (λ all. inl (All-from_get_or (IsColour C) set 0 all))
    (λ not. inr (λ all. not (λ k l. all k 0 l)))
    (all_below (λ k. IsColour C (get_or set k 0)) (length set) (λ k l. colour_or_not C h (get_or set k 0)))

false_or_not : (b : Bool) → (b ≡ false) ⊎ ¬ (b ≡ false)
false_or_not true = inr (λ e. cc)
false_or_not false = inl refl

pub implies_or_not : (a b : Bool) → (a ≡ true → b ≡ true) ⊎ ¬ (a ≡ true → b ≡ true)
implies_or_not true true = inl (λ e. refl)
implies_or_not true false = inr (λ h. let e : false ≡ true = h refl in cc)
implies_or_not false b = inl (λ e. absurd cc)

pub symmetric_or_not : (C : PairColouring) (test : ℕ → Bool) → IsSymmetric C test ⊎ ¬ IsSymmetric C test
symmetric_or_not C test =
    ⊎_elim
    (λ symmetric. inl (λ x y hx hy e. symmetric x hx y hy e))
    (λ no. inr (λ symmetric. no (λ x hx y hy e. symmetric x y hx hy e)))
    (all_below (λ x. (y : ℕ) → y < C.size → test (colour_at C x y) ≡ true → test (colour_at C y x) ≡ true) C.size
    (λ x _. all_below (λ y. test (colour_at C x y) ≡ true → test (colour_at C y x) ≡ true) C.size
    (λ y _. implies_or_not (test (colour_at C x y)) (test (colour_at C y x)))))

pub edge_set_or_not : EdgeSetOrNot
edge_set_or_not C is set =
    ⊎_elim
    (λ colours. ⊎_elim
    (λ loopless. ⊎_elim
    (λ symmetric. inl (record { colours = colours; loopless = loopless; symmetric = symmetric }))
    (λ no. inr (λ edges. no edges.symmetric))
    (symmetric_or_not C (is_in set)))
    (λ no. inr (λ edges. no edges.loopless))
    (all_below (λ x. is_in set (colour_at C x x) ≡ false) C.size (λ x _. false_or_not (is_in set (colour_at C x x)))))
    (λ no. inr (λ edges. no edges.colours))
    (colour_set_or_not C is set)
