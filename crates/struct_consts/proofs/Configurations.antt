-- In a named colouring the colours are the numbers below the rank, and each has its first pair.
use Rattle.std.proofs.Common.{◌≡◌, ◌==◌, ℕ, suc, zero, ◌+◌, ◌<◌, Bool, true, false, not, cond, List, [], ◌∷◌, length, get_or, filter, find, Option, Some, None, unwrap_or, refl, sym, ap, subst, ◌∙◌, arith}
use Rattle.std.specs.List.{AllByRecursion, position_or_len}
use Rattle.std.proofs.lemmas.Bool.{eq-eqb, eqb-true, ne_eqb}
use Rattle.std.proofs.lemmas.List.Elements.{All-from_recursion}
use Rattle.pair_colours.specs.Colouring.{PairColouring, IsColour, colour_at}
use Rattle.pair_colours.specs.Naming.{walk, first_met, colours_met, name_of, rank_of, first_pair_of}
use Rattle.pair_colours.specs.IntersectionNumber.{pair_of_class}
use Rattle.pair_colours.proofs.ListLemmas.{Each-filter}
use Rattle.pair_colours.proofs.NamePlaces.{name_of-position}
use Rattle.pair_colours.proofs.Names.{InSquare, Each-walk, Each-first_met, Each-along, along}
use Rattle.pair_colours.proofs.Closures.{met_at, colour_at-named_of}
use Rattle.pair_colours.proofs.FirstPair.{no_colour}
use Rattle.struct_consts.specs.ClassData.{IsConfiguration, IsPairOf}

-- a colour is its own name
pub name_of_colour : (K : PairColouring) → IsConfiguration K → (c : ℕ) → IsColour K c → name_of K c ≡ c
name_of_colour K h c u =
    ap (name_of K) (sym u.is)
    ∙ sym (colour_at-named_of K h.colouring u.x u.y u.row u.column)
    ∙ ap (λ (A : PairColouring). colour_at A u.x u.y) h.named
    ∙ u.is

pub colour_below : (K : PairColouring) → IsConfiguration K → (c : ℕ) → IsColour K c → c < rank_of K
colour_below K h c u = subst (λ n. n < rank_of K) (name_of_colour K h c u) (met_at K c u).0

pub colour_at-below : (K : PairColouring) → IsConfiguration K → (x y : ℕ) → x < K.size → y < K.size → colour_at K x y < rank_of K
colour_at-below K h x y hx hy = colour_below K h (colour_at K x y) (record { x = x; y = y; row = hx; column = hy; is = refl })

-- no number of the list stands in it again
abbrev Apart : List ℕ → Type 0
Apart [] = Unit {0}
Apart (k ∷ ks) = AllByRecursion (λ y. k ≡ y → ⊥) ks × Apart ks

Apart-filter : (q : ℕ → Bool) (ks : List ℕ) → Apart ks → Apart (filter q ks)
Apart-filter q [] a = tt
Apart-filter q (k ∷ ks) a = by (q k) (Apart-filter q ks a.1)
  where
    by : (b : Bool) → Apart (filter q ks) → Apart (cond b (k ∷ filter q ks) (filter q ks))
    by true r = (Each-filter (λ y. k ≡ y → ⊥) q ks a.0, r)
    by false r = r

differs : (x : ℕ) (ks : List ℕ) → AllByRecursion (λ y. x ≡ y → ⊥) (filter (λ y. not (x == y)) ks)
differs x [] = tt
differs x (k ∷ ks) = by (x == k) refl (differs x ks)
  where
    by : (b : Bool) → (x == k) ≡ b → AllByRecursion (λ y. x ≡ y → ⊥) (filter (λ y. not (x == y)) ks)
        → AllByRecursion (λ y. x ≡ y → ⊥) (filter (λ y. not (x == y)) (k ∷ ks))
    by true e r = subst (λ b. AllByRecursion (λ y. x ≡ y → ⊥) (cond (not b) (k ∷ filter (λ y. not (x == y)) ks) (filter (λ y. not (x == y)) ks))) (sym e) r
    by false e r = subst (λ b. AllByRecursion (λ y. x ≡ y → ⊥) (cond (not b) (k ∷ filter (λ y. not (x == y)) ks) (filter (λ y. not (x == y)) ks))) (sym e)
        ((λ s. let z : true ≡ false = sym (eq-eqb x k s) ∙ e in cc), r)

Apart-first_met : (xs : List ℕ) → Apart (first_met xs)
Apart-first_met [] = tt
Apart-first_met (x ∷ xs) = (differs x (first_met xs), Apart-filter (λ y. not (x == y)) (first_met xs) (Apart-first_met xs))

each_at : (P : ℕ → Type 0) (ks : List ℕ) → AllByRecursion P ks → (k : ℕ) → k < length ks → P (get_or ks k 0)
each_at P ks a k l = All-from_recursion P ks a k 0 l

-- so each stands at its first place
position-apart : (ks : List ℕ) → Apart ks → (k : ℕ) → k < length ks → position_or_len (λ y. get_or ks k 0 == y) ks ≡ k
position-apart [] a k l = absurd (omega (arith, l))
position-apart (x ∷ ks) a zero l = ap (λ b. cond (not b) (1 + position_or_len (λ y. x == y) ks) 0) (eq-eqb x x refl)
position-apart (x ∷ ks) a (suc k) l =
    let m : k < length ks = omega (arith, l) in
    let ne = each_at (λ y. x ≡ y → ⊥) ks a.0 k m in
    let again = position-apart ks a.1 k m in
    let step : position_or_len (λ y. get_or ks k 0 == y) (x ∷ ks) ≡ 1 + position_or_len (λ y. get_or ks k 0 == y) ks =
    ap (λ b. cond (not b) (1 + position_or_len (λ y. get_or ks k 0 == y) ks) 0) (ne_eqb (get_or ks k 0) x (λ e. ne (sym e))) in
    omega (arith, step, again)

-- each number below the rank is a colour
pub class_is_colour : (K : PairColouring) → IsConfiguration K → (k : ℕ) → k < rank_of K → IsColour K k
class_is_colour K h k l =
    let c : ℕ = get_or (colours_met K) k 0 in
    let u : IsColour K c = each_at (IsColour K) (colours_met K) (Each-first_met (IsColour K) (along K) (Each-along K)) k l in
    let place : position_or_len (λ y. c == y) (colours_met K) ≡ k = position-apart (colours_met K) (Apart-first_met (along K)) k l in
    let name : c ≡ k = sym (name_of_colour K h c u) ∙ name_of-position K c ∙ place in
    subst (IsColour K) name u

find_holds : {X : Type 0} (P : X → Type 0) (p : X → Bool) (xs : List X) (x : X) → AllByRecursion P xs → find p xs ≡ Some x → P x × (p x ≡ true)
find_holds P p [] x a h = cc
find_holds {X} P p (y ∷ ys) x a h = by (p y) refl (find_holds P p ys x a.1)
  where
    by : (b : Bool) → p y ≡ b → (find p ys ≡ Some x → P x × (p x ≡ true)) → P x × (p x ≡ true)
    by true e again =
        let same : y ≡ x = let z : Some y ≡ Some x = sym (ap (λ b. cond b (Some y) (find p ys)) e) ∙ h in cc in
        (subst P same a.0, subst (λ w. p w ≡ true) same e)
    by false e again = again (sym (ap (λ b. cond b (Some y) (find p ys)) e) ∙ h)

-- the first pair of a class is a pair of that class
pub first_pair_holds : (K : PairColouring) (k : ℕ) (p : ℕ × ℕ) → first_pair_of K k ≡ Some p → IsPairOf K k p
first_pair_holds K k p e =
    let f = find_holds (InSquare K.size) (λ q. colour_at K q.0 q.1 == k) (walk K.size) p (Each-walk K.size) e in
    record { row = f.0.0; column = f.0.1; colour = eqb-true _ k f.1 }

-- a class has a first pair
pub first_pair_some : (K : PairColouring) → IsConfiguration K → (k : ℕ) → k < rank_of K → first_pair_of K k ≡ Some (pair_of_class K k)
first_pair_some K h k l = by (first_pair_of K k) refl
  where
    by : (o : Option (ℕ × ℕ)) → first_pair_of K k ≡ o → first_pair_of K k ≡ Some (pair_of_class K k)
    by None e = absurd (no_colour K k e (class_is_colour K h k l))
    by (Some p) e = e ∙ ap Some (sym (ap (λ o. unwrap_or o (0, 0)) e))

pub pair_of_class-holds : (K : PairColouring) → IsConfiguration K → (k : ℕ) → k < rank_of K → IsPairOf K k (pair_of_class K k)
pair_of_class-holds K h k l = first_pair_holds K k (pair_of_class K k) (first_pair_some K h k l)

-- what is known of a first pair is known of the pair of its class
pub pair_of_class-is : (K : PairColouring) (k : ℕ) (p : ℕ × ℕ) → first_pair_of K k ≡ Some p → pair_of_class K k ≡ p
pair_of_class-is K k p e = ap (λ o. unwrap_or o (0, 0)) e
