-- What an allowed edit makes is within the limits.
use Rattle.std.proofs.Common.{◌≡◌, ◌==◌, ℕ, ◌+◌, ◌*◌, ◌/◌, ◌%◌, ◌^◌, ◌<◌, ◌≤◌, ◌++◌, ◌||◌, ◌&&◌, Bool, true, false, not, cond, nat_lt, List, [], ◌∷◌, length, get_or, slice_index, Some, None, refl, sym, ap, subst, ◌∙◌, All, ⊎_elim, arith}
use Rattle.std.proofs.lemmas.Bool.{and_parts, not-false, ltb-false, cases_lt}
use Rattle.std.proofs.lemmas.List.{get_or_past}
use Rattle.std.proofs.lemmas.List.Elements.{All-map}
use Rattle.std.proofs.lemmas.List.FromFn.{get_or-range_with_len, length-range_with_len, length-map-range_with_len}
use Rattle.std.proofs.lemmas.List.Sums.{prefix_len-le-length}
use Rattle.std.proofs.lemmas.Nat.{mul-le}
use Rattle.pair_colours.specs.declared.coloured_pairs.TheConstants.{MOST_COLOUR, MOST_POINTS}
use Rattle.pair_colours.specs.Colouring.{PairColouring, colour_at, points, IsColouring, IsRawColouring}
use Rattle.pair_colours.specs.Closure.{IsClosureOf}
use Rattle.pair_colours.specs.Naming.{named_of, colours_met, name_of, rank_of}
use Rattle.pair_colours.specs.Tests.{first_that_holds}
use Rattle.pair_colours.proofs.Few.{colours_met-le}
use Rattle.pair_colours.proofs.NamePlaces.{name_of-position}
use Rattle.pair_colours.proofs.Places.{place_below, row_below, column_below}
use Rattle.pair_colours.proofs.LawProofs.{closure_is_raw}
use Rattle.struct_consts.specs.ClassData.{IsConfiguration}
use Rattle.pair_colours.specs.Fibres.{HasOneFibre}
use Rattle.products.proofs.LawProofs.{direct_exists, direct_is_unique, wreath_exists, wreath_is_unique}
use Rattle.colour_wl.specs.GrowthStrings.{IsGrowth}
use Rattle.colour_wl.specs.Fusions.{merge}
use Rattle.colour_wl.proofs.ColourRounds.{growth_low, FitsColouring-merge}
use Rattle.recolour_bench.specs.declared.edits.EditFault.TheVariants.{PointRange, ColourRange, ColourAbsent, NotGrowth, NotHomogeneous, TooManyPoints, HistoryFull}
use Rattle.recolour_bench.specs.declared.history.TheConstants.{MOST_POSITION}
use Rattle.recolour_bench.specs.Edits.{Edit, Set, Both, Fix, Join, Adopt, Fuse, Direct, Wreath, IsRawEdit, factor_of}
use Rattle.recolour_bench.specs.Recolouring.{has_colour, is_pair, least_unused, recoloured, IsEdited}
use Rattle.recolour_bench.specs.Steps.{pair_tests, colour_tests, string_tests, product_tests, fibre_tests, edit_tests, grows, one_fibre, Makes}
use Rattle.recolour_bench.proofs.OwnClosures.{closure_is_one}
use Rattle.recolour_bench.proofs.EditTests.{grows-true, one_fibre-true}
use Rattle.recolour_bench.proofs.Unused.{least_unused-le}

-- where no test of a list holds, the first does not, and no later one
pub first_that_holds-none : {X : Type 0} (holds : Bool) (fault : X) (tests : List (Bool × X)) → first_that_holds ((holds, fault) ∷ tests) ≡ None
    → (holds ≡ false) × (first_that_holds tests ≡ None)
first_that_holds-none true fault tests h = cc
first_that_holds-none false fault tests h = (refl, h)

pub first_that_holds-append : {X : Type 0} (tests more : List (Bool × X)) → first_that_holds (tests ++ more) ≡ None → (first_that_holds tests ≡ None) × (first_that_holds more ≡ None)
first_that_holds-append [] more h = (refl, h)
first_that_holds-append (test ∷ tests) more h =
    let parts = first_that_holds-none test.0 test.1 (tests ++ more) h in
    let again = first_that_holds-append tests more parts.1 in
    (ap (λ b. cond b (Some test.1) (first_that_holds tests)) parts.0 ∙ again.0, again.1)

-- the first that holds of two lists is that of the first list, and where there is none that of the second
pub first_that_holds-some : {X : Type 0} (tests more : List (Bool × X)) (fault : X) → first_that_holds tests ≡ Some fault → first_that_holds (tests ++ more) ≡ Some fault
first_that_holds-some [] more fault h = cc
first_that_holds-some (test ∷ tests) more fault h = by test.0 h (first_that_holds-some tests more fault)
  where
    by : (b : Bool) → cond b (Some test.1) (first_that_holds tests) ≡ Some fault → (first_that_holds tests ≡ Some fault → first_that_holds (tests ++ more) ≡ Some fault)
        → cond b (Some test.1) (first_that_holds (tests ++ more)) ≡ Some fault
    by true h again = h
    by false h again = again h

pub first_that_holds-after : {X : Type 0} (tests more : List (Bool × X)) → first_that_holds tests ≡ None → first_that_holds (tests ++ more) ≡ first_that_holds more
first_that_holds-after [] more h = refl
first_that_holds-after (test ∷ tests) more h =
    let parts = first_that_holds-none test.0 test.1 tests h in
    ap (λ b. cond b (Some test.1) (first_that_holds (tests ++ more))) parts.0 ∙ first_that_holds-after tests more parts.1

-- a colouring with colours of raw size on the same points
pub IsRawColouring-recoloured : (C : PairColouring) (f : ℕ → ℕ → ℕ) → IsRawColouring C → ((u v : ℕ) → u < C.size → v < C.size → f u v ≤ MOST_COLOUR)
    → IsRawColouring (recoloured C f)
IsRawColouring-recoloured C f c small = record {
  fits = record {
    colouring = record { has_points = c.fits.colouring.has_points; has_pairs = length-map-range_with_len (λ p. f (p / C.size) (p % C.size)) 0 (C.size * C.size) };
    limit = c.fits.limit;
    numbers = All-map (λ colour. colour < 2 ^ 32) (λ p. f (p / C.size) (p % C.size)) (points (C.size * C.size)) (λ k d l. omega (arith, at k d l));
  };
  raw = All-map (λ colour. colour ≤ MOST_COLOUR) (λ p. f (p / C.size) (p % C.size)) (points (C.size * C.size)) at;
}
  where
    at : (k d : ℕ) → k < length (points (C.size * C.size)) → f (get_or (points (C.size * C.size)) k d / C.size) (get_or (points (C.size * C.size)) k d % C.size) ≤ MOST_COLOUR
    at k d l =
        let below : k < C.size * C.size = omega (arith, l, length-range_with_len 0 (C.size * C.size)) in
        let is : get_or (points (C.size * C.size)) k d < C.size * C.size = omega (arith, below, get_or-range_with_len 0 (C.size * C.size) k d below) in
        let p = get_or (points (C.size * C.size)) k d in
        small (p / C.size) (p % C.size) (row_below C.size p c.fits.colouring.has_points is) (column_below C.size p c.fits.colouring.has_points)

colour_at-raw : (C : PairColouring) → IsRawColouring C → (u v : ℕ) → u < C.size → v < C.size → colour_at C u v ≤ MOST_COLOUR
colour_at-raw C c u v hu hv = c.raw (u * C.size + v) 0 (omega (arith, place_below C.size u v hu hv, c.fits.colouring.has_pairs))

either-raw : (b : Bool) (m n : ℕ) → m ≤ MOST_COLOUR → n ≤ MOST_COLOUR → cond b m n ≤ MOST_COLOUR
either-raw true m n l r = l
either-raw false m n l r = r

-- a colour that passed its tests is a raw colour
pair_colour : (C : PairColouring) (x y colour : ℕ) → first_that_holds (pair_tests C x y colour) ≡ None → colour ≤ MOST_COLOUR
pair_colour C x y colour allowed =
    let row = first_that_holds-none (not (nat_lt x C.size)) PointRange ((not (nat_lt y C.size), PointRange) ∷ (nat_lt MOST_COLOUR colour, ColourRange) ∷ []) allowed in
    let column = first_that_holds-none (not (nat_lt y C.size)) PointRange ((nat_lt MOST_COLOUR colour, ColourRange) ∷ []) row.1 in
    ltb-false MOST_COLOUR colour (first_that_holds-none (nat_lt MOST_COLOUR colour) ColourRange [] column.1).0

join_colour : (C : PairColouring) (colour : ℕ) → first_that_holds (colour_tests C colour) ≡ None → colour ≤ MOST_COLOUR
join_colour C colour allowed =
    ltb-false MOST_COLOUR colour (first_that_holds-none (nat_lt MOST_COLOUR colour) ColourRange ((not (has_colour C colour), ColourAbsent) ∷ []) allowed).0

-- a named colouring has fewer names than raw colours
pub IsRawColouring-named : (K : PairColouring) → IsColouring K → K.size ≤ MOST_POINTS → named_of K ≡ K → IsRawColouring K
IsRawColouring-named K k limit named = record {
  fits = record { colouring = k; limit = limit; numbers = λ i d l. omega (arith, names i d l) };
  raw = names;
}
  where
    name : (colour : ℕ) → name_of K colour ≤ MOST_COLOUR
    name colour =
        omega (arith, colours_met-le K, limit, mul-le K.size K.size MOST_POINTS MOST_POINTS limit limit, name_of-position K colour, prefix_len-le-length (λ y. not (colour == y)) (colours_met K))

    names : All (λ colour. colour ≤ MOST_COLOUR) K.colours
    names = subst (λ (A : PairColouring). All (λ colour. colour ≤ MOST_COLOUR) A.colours) named (All-map (λ colour. colour ≤ MOST_COLOUR) (name_of K) K.colours (λ i d l. name (get_or K.colours i d)))

-- a product that passed its test has few points
pub product_fits : (C K L other : PairColouring) → IsClosureOf K C → IsClosureOf L other → first_that_holds (product_tests C other) ≡ None → K.size * L.size ≤ MOST_POINTS
product_fits C K L other k l allowed =
    let few = first_that_holds-none (nat_lt MOST_POINTS (C.size * other.size)) TooManyPoints [] allowed in
    subst (λ n. n ≤ MOST_POINTS) (λ i. sym k.closure.refines.sizes i * sym l.closure.refines.sizes i) (ltb-false MOST_POINTS (C.size * other.size) few.0)

-- factors that passed their test have one fibre each
pub factors_have_one : (K L : PairColouring) → first_that_holds (fibre_tests K L) ≡ None → HasOneFibre K × HasOneFibre L
factors_have_one K L allowed =
    let none = first_that_holds-none (not (one_fibre K && one_fibre L)) NotHomogeneous [] allowed in
    let both = and_parts (one_fibre K) (one_fibre L) (not-false (one_fibre K && one_fibre L) none.0) in
    (one_fibre-true K both.0, one_fibre-true L both.1)

-- a string that passed its test is a growth string
pub string_grows : (K : PairColouring) (string : List ℕ) → first_that_holds (string_tests K string) ≡ None → IsGrowth (rank_of K) string
string_grows K string allowed =
    let none = first_that_holds-none (not (grows (rank_of K) string)) NotGrowth [] allowed in
    grows-true (rank_of K) string (not-false (grows (rank_of K) string) none.0)

-- a named closure is a configuration
pub IsConfiguration-closure : (C K : PairColouring) → IsClosureOf K C → IsConfiguration K
IsConfiguration-closure C K k = record { colouring = k.closure.colouring; coherent = k.closure.coherent; named = k.named }

-- merging by a growth string gives no greater colours
IsRawColouring-merge : (C K : PairColouring) (string : List ℕ) → IsRawColouring C → IsClosureOf K C → IsGrowth (rank_of K) string → IsRawColouring (merge K string)
IsRawColouring-merge C K string c k g = record {
  fits = FitsColouring-merge K (closure_is_raw C K c k).fits (IsConfiguration-closure C K k) string g;
  raw = All-map (λ colour. colour ≤ MOST_COLOUR) (slice_index string) K.colours (λ i d l. low (get_or K.colours i d) ((closure_is_raw C K c k).raw i d l));
}
  where
    low : (colour : ℕ) → colour ≤ MOST_COLOUR → slice_index string colour ≤ MOST_COLOUR
    low colour small =
        ⊎_elim
        (λ l. omega (arith, small, growth_low (rank_of K) string g colour l))
        (λ m. omega (arith, get_or_past string colour 0 (omega (arith, m, g.len))))
        (cases_lt colour (rank_of K))

-- what an allowed edit makes is within the limits
pub IsRawColouring-edited : (C K L : PairColouring) (e : Edit) (D : PairColouring) → IsRawColouring C → IsClosureOf K C → IsClosureOf L (factor_of C e) → first_that_holds (edit_tests C K L e) ≡ None
    → IsEdited C K L e D → IsRawColouring D
IsRawColouring-edited C K L (Set x y colour) D c k l allowed d =
    subst IsRawColouring (sym d)
    (IsRawColouring-recoloured C (λ u v. cond (is_pair x y u v) colour (colour_at C u v)) c
    (λ u v hu hv. either-raw (is_pair x y u v) colour (colour_at C u v) (pair_colour C x y colour allowed) (colour_at-raw C c u v hu hv)))
IsRawColouring-edited C K L (Both x y colour) D c k l allowed d =
    subst IsRawColouring (sym d)
    (IsRawColouring-recoloured C (λ u v. cond (is_pair x y u v || is_pair y x u v) colour (colour_at C u v)) c
    (λ u v hu hv. either-raw (is_pair x y u v || is_pair y x u v) colour (colour_at C u v) (pair_colour C x y colour allowed) (colour_at-raw C c u v hu hv)))
IsRawColouring-edited C K L (Fix x) D c k l allowed d =
    let small : least_unused C ≤ MOST_COLOUR = omega (arith, least_unused-le C c.fits.colouring, mul-le C.size C.size MOST_POINTS MOST_POINTS c.fits.limit c.fits.limit) in
    subst IsRawColouring (sym d)
    (IsRawColouring-recoloured C (λ u v. cond (is_pair x x u v) (least_unused C) (colour_at C u v)) c
    (λ u v hu hv. either-raw (is_pair x x u v) (least_unused C) (colour_at C u v) small (colour_at-raw C c u v hu hv)))
IsRawColouring-edited C K L (Join keep gone) D c k l allowed d =
    let small = join_colour C keep (first_that_holds-append (colour_tests C keep) (colour_tests C gone) allowed).0 in
    subst IsRawColouring (sym d)
    (IsRawColouring-recoloured C (λ u v. cond (colour_at C u v == gone) keep (colour_at C u v)) c
    (λ u v hu hv. either-raw (colour_at C u v == gone) keep (colour_at C u v) small (colour_at-raw C c u v hu hv)))
IsRawColouring-edited C K L Adopt D c k l allowed d = subst IsRawColouring (sym d) (closure_is_raw C K c k)
IsRawColouring-edited C K L (Fuse string) D c k l allowed d = subst IsRawColouring (sym d) (IsRawColouring-merge C K string c k (string_grows K string allowed))
IsRawColouring-edited C K L (Direct other) D c k l allowed d = IsRawColouring-named D d.colouring (subst (λ n. n ≤ MOST_POINTS) (sym d.size) (product_fits C K L other k l allowed)) d.named
IsRawColouring-edited C K L (Wreath other) D c k l allowed d =
    let few = (first_that_holds-append (product_tests C other) (fibre_tests K L) allowed).0 in
    IsRawColouring-named D d.colouring (subst (λ n. n ≤ MOST_POINTS) (sym d.size) (product_fits C K L other k l few)) d.named

-- so what is made is
pub IsRawColouring-made : (C : PairColouring) (position : ℕ) (e : Edit) (D : PairColouring) → IsRawColouring C → Makes C position e D → IsRawColouring D
IsRawColouring-made C position e D c m =
    IsRawColouring-edited C m.closure m.factor e D c m.is_closure m.is_factor
    (first_that_holds-append (edit_tests C m.closure m.factor e) ((position == MOST_POSITION, HistoryFull) ∷ []) m.allowed).0 m.edited

-- an edit makes something
pub edited_exists : (C K L : PairColouring) (e : Edit) → IsColouring K → IsColouring L → (D : PairColouring) × IsEdited C K L e D
edited_exists C K L (Set x y colour) k l = (recoloured C (λ u v. cond (is_pair x y u v) colour (colour_at C u v)), refl)
edited_exists C K L (Both x y colour) k l = (recoloured C (λ u v. cond (is_pair x y u v || is_pair y x u v) colour (colour_at C u v)), refl)
edited_exists C K L (Fix x) k l = (recoloured C (λ u v. cond (is_pair x x u v) (least_unused C) (colour_at C u v)), refl)
edited_exists C K L (Join keep gone) k l = (recoloured C (λ u v. cond (colour_at C u v == gone) keep (colour_at C u v)), refl)
edited_exists C K L Adopt k l = (K, refl)
edited_exists C K L (Fuse string) k l = (merge K string, refl)
edited_exists C K L (Direct other) k l = direct_exists K L k l
edited_exists C K L (Wreath other) k l = wreath_exists K L k l

-- and one thing alone
edited_is_unique : (C K L : PairColouring) (e : Edit) (D E : PairColouring) → IsEdited C K L e D → IsEdited C K L e E → D ≡ E
edited_is_unique C K L (Set x y colour) D E d f = d ∙ sym f
edited_is_unique C K L (Both x y colour) D E d f = d ∙ sym f
edited_is_unique C K L (Fix x) D E d f = d ∙ sym f
edited_is_unique C K L (Join keep gone) D E d f = d ∙ sym f
edited_is_unique C K L Adopt D E d f = d ∙ sym f
edited_is_unique C K L (Fuse string) D E d f = d ∙ sym f
edited_is_unique C K L (Direct other) D E d f = direct_is_unique K L D E d f
edited_is_unique C K L (Wreath other) D E d f = wreath_is_unique K L D E d f

-- the second factor is a colouring
pub factor_is_colouring : (C : PairColouring) (e : Edit) → IsColouring C → IsRawEdit e → IsColouring (factor_of C e)
factor_is_colouring C (Set x y colour) c r = c
factor_is_colouring C (Both x y colour) c r = c
factor_is_colouring C (Fix x) c r = c
factor_is_colouring C (Join keep gone) c r = c
factor_is_colouring C Adopt c r = c
factor_is_colouring C (Fuse string) c r = c
factor_is_colouring C (Direct other) c r = r.fits.colouring
factor_is_colouring C (Wreath other) c r = r.fits.colouring

-- an edit of a colouring makes one thing
pub made_is_unique : (C : PairColouring) (position : ℕ) (e : Edit) (D E : PairColouring) → Makes C position e D → Makes C position e E → D ≡ E
made_is_unique C position e D E m n =
    let own : m.closure ≡ n.closure = closure_is_one C m.closure n.closure m.is_closure n.is_closure in
    let other : m.factor ≡ n.factor = closure_is_one (factor_of C e) m.factor n.factor m.is_factor n.is_factor in
    edited_is_unique C m.closure m.factor e D E m.edited (subst (λ K. IsEdited C K m.factor e E) (sym own) (subst (λ L. IsEdited C n.closure L e E) (sym other) n.edited))
