-- What the tests of strings and of fibres say.
use Rattle.std.proofs.Common.{◌≡◌, ◌==◌, ℕ, ◌<◌, ◌&&◌, ◌↔◌, Bool, true, false, not, cond, nat_lt, List, length, take, get_or, slice_index, Some, None, refl, sym, ap, subst, ◌∙◌, arith}
use Rattle.std.specs.List.{list_all}
use Rattle.std.proofs.lemmas.Bool.{and_parts, and_from, not-true, not_from_false, ltb-false, le-ltb, eqb-true, eq-eqb}
use Rattle.std.proofs.lemmas.List.FromFn.{get_or-range_with_len, length-range_with_len}
use Rattle.std.proofs.lemmas.List.Sums.{AllPass-from_list_all, list_all-from_AllPass}
use Rattle.pair_colours.specs.Colouring.{PairColouring, IsColouring, colour_at, points}
use Rattle.pair_colours.specs.Naming.{rank_of}
use Rattle.pair_colours.specs.Tests.{first_that_holds}
use Rattle.pair_colours.specs.Fibres.{HasOneFibre}
use Rattle.colour_wl.specs.GrowthStrings.{next_number, IsGrowth}
use Rattle.recolour_bench.specs.declared.edits.EditFault.TheVariants.{NotGrowth, NotHomogeneous}
use Rattle.recolour_bench.specs.Steps.{grows, one_fibre, string_tests, fibre_tests}
use Rattle.recolour_bench.specs.Law.{GrowthIsTested, FibresAreTested}

-- a test of the numbers below n, number by number
below_pass : (p : ℕ → Bool) (n : ℕ) → list_all p (points n) ≡ true → (i : ℕ) → i < n → p i ≡ true
below_pass p n h i l =
    let at : get_or (points n) i 0 ≡ i = omega (arith, get_or-range_with_len 0 n i 0 l) in
    ap p (sym at) ∙ AllPass-from_list_all p (points n) h i 0 (omega (arith, l, length-range_with_len 0 n))

pass_below : (p : ℕ → Bool) (n : ℕ) → ((i : ℕ) → i < n → p i ≡ true) → list_all p (points n) ≡ true
pass_below p n each =
    list_all-from_AllPass p (points n)
    (λ i d l. let below : i < n = omega (arith, l, length-range_with_len 0 n) in
    let at : get_or (points n) i d ≡ i = omega (arith, get_or-range_with_len 0 n i d below) in
    ap p at ∙ each i below)

-- the numbers of a string that passes are low, and those of a growth string pass
pub grows-true : (r : ℕ) (a : List ℕ) → grows r a ≡ true → IsGrowth r a
unfolding grows
grows-true r a h =
    let parts = and_parts (length a == r) (list_all (λ i. not (nat_lt (next_number (take i a)) (slice_index a i))) (points r)) h in
    record {
      len = eqb-true (length a) r parts.0;
      grows = λ i l.
          let low = below_pass (λ j. not (nat_lt (next_number (take j a)) (slice_index a j))) r parts.1 i l in
          ltb-false (next_number (take i a)) (slice_index a i) (not-true (nat_lt (next_number (take i a)) (slice_index a i)) low);
    }

pub true-grows : (r : ℕ) (a : List ℕ) → IsGrowth r a → grows r a ≡ true
unfolding grows
true-grows r a g =
    and_from (length a == r) (list_all (λ i. not (nat_lt (next_number (take i a)) (slice_index a i))) (points r)) (eq-eqb (length a) r g.len)
    (pass_below (λ i. not (nat_lt (next_number (take i a)) (slice_index a i))) r
    (λ i l. not_from_false (nat_lt (next_number (take i a)) (slice_index a i)) (le-ltb (next_number (take i a)) (slice_index a i) (g.grows i l))))

pub growth_is_tested : GrowthIsTested
growth_is_tested r a = (grows-true r a, true-grows r a)

-- all diagonal pairs have the colour of the first
pub one_fibre-true : (K : PairColouring) → one_fibre K ≡ true → HasOneFibre K
unfolding one_fibre
one_fibre-true K h =
    let first : (x : ℕ) → x < K.size → colour_at K x x ≡ colour_at K 0 0 = λ x l. eqb-true (colour_at K x x) (colour_at K 0 0) (below_pass (λ z. colour_at K z z == colour_at K 0 0) K.size h x l) in
    record { one_fibre = λ x y hx hy. first x hx ∙ sym (first y hy) }

pub true-one_fibre : (K : PairColouring) → IsColouring K → HasOneFibre K → one_fibre K ≡ true
unfolding one_fibre
true-one_fibre K k f =
    pass_below (λ x. colour_at K x x == colour_at K 0 0) K.size (λ x l. eq-eqb (colour_at K x x) (colour_at K 0 0) (f.one_fibre x 0 l (omega (arith, k.has_points))))

pub fibres_are_tested : FibresAreTested
fibres_are_tested K k = (one_fibre-true K, true-one_fibre K k)

-- two tests of one thing answer alike
same_test : (b t : Bool) (P : Type 0) → ((b ≡ true) ↔ P) → ((t ≡ true) ↔ P) → b ≡ t
same_test true true P f g = refl
same_test true false P f g = sym (g.1 (f.0 refl))
same_test false true P f g = f.1 (g.0 refl)
same_test false false P f g = refl

-- the refusals, by what the program finds of a string and of two factors
pub string_refusal_is : (K : PairColouring) (string : List ℕ) (rank : ℕ) (b : Bool) → rank ≡ rank_of K → ((b ≡ true) ↔ IsGrowth rank string)
    → first_that_holds (string_tests K string) ≡ cond b None (Some NotGrowth)
string_refusal_is K string rank b e f = ap (λ t. cond (not t) (Some NotGrowth) None) (sym same) ∙ turned b
  where
    same : b ≡ grows (rank_of K) string
    same = same_test b (grows (rank_of K) string) (IsGrowth (rank_of K) string) (subst (λ r. (b ≡ true) ↔ IsGrowth r string) e f) (growth_is_tested (rank_of K) string)

    turned : (t : Bool) → cond (not t) (Some NotGrowth) None ≡ cond t None (Some NotGrowth)
    turned true = refl
    turned false = refl

pub one_fibre_is : (K : PairColouring) (b : Bool) → IsColouring K → ((b ≡ true) ↔ HasOneFibre K) → one_fibre K ≡ b
one_fibre_is K b k f = sym (same_test b (one_fibre K) (HasOneFibre K) f (fibres_are_tested K k))

pub fibre_refusal_is : (K L : PairColouring) (s t : Bool) → one_fibre K ≡ s → one_fibre L ≡ t → first_that_holds (fibre_tests K L) ≡ cond (not (s && t)) (Some NotHomogeneous) None
fibre_refusal_is K L s t e f = λ i. cond (not (e i && f i)) (Some NotHomogeneous) None
