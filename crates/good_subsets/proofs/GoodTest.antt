-- A set is good exactly where the closure of 'in the set or not' keeps its colours together.
use Rattle.std.proofs.Common.{◌≡◌, ℕ, zero, ◌-◌, ◌<◌, ◌≤◌, Bool, true, false, cond, not, List, length, get_or, take, map, slice_index, ⊎_elim, refl, sym, ap, subst, ◌∙◌, arith}
use Rattle.std.specs.Int.{from_bool}
use Rattle.std.proofs.lemmas.Bool.{cases_eq, cases_lt}
use Rattle.std.proofs.lemmas.List.{length-take-le}
use Rattle.std.proofs.lemmas.List.FromFn.{length-map-range_with_len, get_or-map-range_with_len}
use Rattle.std.proofs.lemmas.List.Elements.{All-contains, Contains-get_or}
use Rattle.pair_colours.specs.Colouring.{PairColouring, Refines, colour_at, points}
use Rattle.pair_colours.specs.ColourSets.{is_in}
use Rattle.pair_colours.specs.Closure.{IsClosure, IsClosureOf}
use Rattle.pair_colours.specs.Naming.{rank_of}
use Rattle.pair_colours.specs.IntersectionNumber.{pair_of_class}
use Rattle.pair_colours.proofs.Places.{Refines-trans}
use Rattle.struct_consts.specs.ClassData.{IsConfiguration}
use Rattle.colour_wl.proofs.Classes.{colour_at-below, pair_of_class-holds}
use Rattle.colour_wl.specs.GrowthStrings.{IsGrowth}
use Rattle.colour_wl.specs.Fusions.{merge}
use Rattle.pair_colours.specs.Subsets.{IsSetBelow}
use Rattle.good_subsets.specs.GoodSets.{IsGood, in_or_not}
use Rattle.good_subsets.specs.Marked.{IsMarked}
use Rattle.pair_colours.proofs.SortedLists.{In, In_from_Contains, Contains_from_In}
use Rattle.colour_wl.proofs.Growth.{next_above}
use Rattle.pair_colours.proofs.SubsetLemmas.{Decides-is_in}
use Rattle.good_subsets.proofs.BlockPlaces.{In-places_of, Contains_at}
use Rattle.colour_wl.proofs.Merged.{colour_at-merge}
use Rattle.good_subsets.proofs.ByClosure.{colour_at-in_or_not, class_from_good, good_from_class, one_from_unit}

module _ (K : PairColouring) (h : IsConfiguration K) (set s b : List ℕ) (below : IsSetBelow (rank_of K) set) (marks : IsMarked (rank_of K) set s) (c : IsClosureOf (merge K b) (merge K s)) where
  at : (a : List ℕ) (x y : ℕ) → x < K.size → y < K.size → colour_at (merge K a) x y ≡ slice_index a (colour_at K x y)
  at a x y hx hy = colour_at-merge K h.colouring a x y hx hy

  low : (x y : ℕ) → x < K.size → y < K.size → colour_at K x y < rank_of K
  low = colour_at-below K h

  to_set : Refines (merge K s) (in_or_not K set)
  to_set = record {
    sizes = refl;
    classes = λ x y u v hx hy hu hv e.
        colour_at-in_or_not K h.colouring set x y hx hy
        ∙ ap (λ t. cond t 1 0) (marks.apart _ _ (low x y hx hy) (low u v hu hv) (sym (at s x y hx hy) ∙ e ∙ at s u v hu hv))
        ∙ sym (colour_at-in_or_not K h.colouring set u v hu hv);
  }

  same_unit : (p q : Bool) → cond p 1 zero ≡ cond q 1 zero → p ≡ q
  same_unit true true e = refl
  same_unit true false e = absurd (omega (arith, e))
  same_unit false true e = absurd (omega (arith, e))
  same_unit false false e = refl

  from_set : Refines (in_or_not K set) (merge K s)
  from_set = record {
    sizes = refl;
    classes = λ x y u v hx hy hu hv e.
        at s x y hx hy
        ∙ marks.together _ _ (low x y hx hy) (low u v hu hv)
        (same_unit (is_in set (colour_at K x y)) (is_in set (colour_at K u v)) (sym (colour_at-in_or_not K h.colouring set x y hx hy) ∙ e ∙ colour_at-in_or_not K h.colouring set u v hu hv))
        ∙ sym (at s u v hu hv);
  }

  closure : IsClosure (merge K b) (in_or_not K set)
  closure = record {
    colouring = c.closure.colouring;
    coherent = c.closure.coherent;
    refines = Refines-trans (merge K b) (merge K s) (in_or_not K set) c.closure.refines to_set;
    coarsest = λ Q q co r. c.closure.coarsest Q q co (Refines-trans Q (in_or_not K set) (merge K s) r from_set);
  }

  member_low : (d : ℕ) → In d set → d < rank_of K
  member_low d i = All-contains (λ d. d < rank_of K) set d below.below (Contains_from_In set d i)

  -- where all members have the number of one of them, the set is good
  pub good_from_same : (d : ℕ) → In d set → ((e : ℕ) → In e set → slice_index b e ≡ slice_index b d) → IsGood K set
  good_from_same d i same =
      let p = pair_of_class-holds K h d (member_low d i) in
      let x : ℕ = (pair_of_class K d).0 in
      let y : ℕ = (pair_of_class K d).1 in
      let own : is_in set (colour_at K x y) ≡ true = ap (is_in set) p.colour ∙ (Decides-is_in set d).1 i in
      good_from_class K h set below (merge K b) closure (record {
        x = x;
        y = y;
        row = p.row;
        column = p.column;
        is = λ u v hu hv. (
          λ e. at b u v hu hv ∙ same (colour_at K u v) ((Decides-is_in set (colour_at K u v)).0 e) ∙ ap (slice_index b) (sym p.colour) ∙ sym (at b x y p.row p.column),
          λ e. one_from_unit (is_in set (colour_at K u v))
              (sym (colour_at-in_or_not K h.colouring set u v hu hv)
              ∙ closure.refines.classes u v x y hu hv p.row p.column e
              ∙ colour_at-in_or_not K h.colouring set x y p.row p.column
              ∙ ap (λ t. cond t 1 0) own),
        );
      })

  -- and in a good set they have
  pub same_from_good : IsGood K set → (d e : ℕ) → In d set → In e set → slice_index b d ≡ slice_index b e
  same_from_good g d e i j =
      let one = class_from_good K h set (merge K b) closure g in
      let to : (f : ℕ) → In f set → slice_index b f ≡ colour_at (merge K b) one.x one.y = λ f k.
      let p = pair_of_class-holds K h f (member_low f k) in
      ap (slice_index b) (sym p.colour) ∙ sym (at b _ _ p.row p.column) ∙ (one.is _ _ p.row p.column).0 (ap (is_in set) p.colour ∙ (Decides-is_in set f).1 k) in
      to d i ∙ sym (to e j)

  pub good_has : IsGood K set → (d : ℕ) × In d set
  good_has g =
      let one = class_from_good K h set (merge K b) closure g in
      (colour_at K one.x one.y, (Decides-is_in set (colour_at K one.x one.y)).0 ((one.is one.x one.y one.row one.column).1 refl))

-- the string that the program writes
abbrev pub mark : List ℕ → ℕ → ℕ → ℕ
mark set inside c = cond (is_in set c) inside (1 - inside)

mark_small : (set : List ℕ) (inside c : ℕ) → inside ≤ 1 → mark set inside c ≤ 1
mark_small set inside c l = by (is_in set c)
  where
    by : (t : Bool) → cond t inside (1 - inside) ≤ 1
    by true = l
    by false = omega arith

first_mark : (t : Bool) (inside : ℕ) → inside ≡ from_bool (not t) → cond t inside (1 - inside) ≡ 0
first_mark true inside e = e
first_mark false inside e = let one : inside ≡ 1 = e in omega (arith, one)

same_mark : (p q : Bool) (inside : ℕ) → inside ≤ 1 → cond p inside (1 - inside) ≡ cond q inside (1 - inside) → p ≡ q
same_mark true true inside l e = refl
same_mark true false inside l e = let f : inside ≡ 1 - inside = e in absurd (omega (arith, l, f))
same_mark false true inside l e = let f : 1 - inside ≡ inside = e in absurd (omega (arith, l, f))
same_mark false false inside l e = refl

inside_small : (t : Bool) (inside : ℕ) → inside ≡ from_bool (not t) → inside ≤ 1
inside_small true inside e = let z : inside ≡ 0 = e in omega (arith, z)
inside_small false inside e = let one : inside ≡ 1 = e in omega (arith, one)

pub IsMarked-made : (n inside : ℕ) (set string : List ℕ) → string ≡ map (mark set inside) (points n) → inside ≡ from_bool (not (is_in set 0)) → IsGrowth n string × IsMarked n set string
IsMarked-made n inside set string e f = (
  record {
    len = ap length e ∙ length-map-range_with_len (mark set inside) 0 n;
    grows = λ i l. ⊎_elim
        (λ (z : i ≡ 0). omega (arith, is i l, ap (mark set inside) z, first_mark (is_in set 0) inside f))
        (λ nz.
        let zero_low : 0 < n = omega (arith, l) in
        let one : 0 < i = positive i nz in
        let len : length string ≡ n = ap length e ∙ length-map-range_with_len (mark set inside) 0 n in
        omega (arith, is i l, mark_small set inside i small, next_above (take i string) 0 (omega (arith, one, length-take-le i string (omega (arith, l, len))))))
        (cases_eq i 0);
  },
  record {
    together = λ i j li lj s. is i li ∙ ap (λ t. cond t inside (1 - inside)) s ∙ sym (is j lj);
    apart = λ i j li lj s. same_mark (is_in set i) (is_in set j) inside small (sym (is i li) ∙ s ∙ is j lj);
  },
)
  where
    small : inside ≤ 1
    small = inside_small (is_in set 0) inside f

    is : (i : ℕ) → i < n → slice_index string i ≡ mark set inside i
    is i l = ap (λ s. slice_index s i) e ∙ get_or-map-range_with_len (mark set inside) 0 n i i 0 l (omega arith)

    positive : (i : ℕ) → (i ≡ 0 → ⊥) → 0 < i
    positive i nz = ⊎_elim (λ m. m) (λ (m : i ≤ 0). absurd (nz (omega (arith, m)))) (cases_lt 0 i)

-- a good set is not empty
pub good_not_empty : (K : PairColouring) (set : List ℕ) → IsGood K set → (c : ℕ) × In c set
good_not_empty K set g =
    let at = Contains_at g.fusion g.block.number g.block.used in
    (at.0, subst (In at.0) (sym g.block.places) (In-places_of g.fusion g.block.number at.0 at.1 at.2))

pub member_at : (set : List ℕ) (i : ℕ) → i < length set → In (slice_index set i) set
member_at set i l = In_from_Contains set (get_or set i 0) (Contains-get_or set i 0 l)

pub good_exactly : (K : PairColouring) → IsConfiguration K → (set s b : List ℕ) → IsSetBelow (rank_of K) set → IsMarked (rank_of K) set s → IsClosureOf (merge K b) (merge K s) → 0 < length set
    → (((i : ℕ) → i < length set → slice_index b (slice_index set i) ≡ slice_index b (slice_index set 0)) → IsGood K set)
    × (IsGood K set → (i : ℕ) → i < length set → slice_index b (slice_index set i) ≡ slice_index b (slice_index set 0))
good_exactly K h set s b below marks c some = (
  λ same. good_from_same K h set s b below marks c (slice_index set 0) (member_at set 0 some)
      (λ e i. let at = Contains_at set e (Contains_from_In set e i) in ap (slice_index b) (sym at.2) ∙ same at.0 at.1),
  λ g i l. same_from_good K h set s b below marks c g (slice_index set i) (slice_index set 0) (member_at set i l) (member_at set 0 some),
)
