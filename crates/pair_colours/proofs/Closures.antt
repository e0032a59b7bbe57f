use Rattle.std.proofs.Common.{◌≡◌, ◌==◌, ℕ, ◌+◌, ◌*◌, ◌<◌, true, length, get_or, refl, sym, ap, subst, ◌∙◌, arith}
use Rattle.std.specs.List.{list_any}
use Rattle.std.proofs.lemmas.Bool.{eq-eqb, eqb-true}
use Rattle.std.proofs.lemmas.List.{length-map, get_or-map, get_or_default}
use Rattle.std.proofs.lemmas.List.Folds.{Any-from_list_any}
use Rattle.pair_colours.specs.Colouring.{PairColouring, IsColouring, IsColour, Refines, colour_at}
use Rattle.pair_colours.specs.Closure.{Coherent, IsClosure, IsClosureOf, ClosureIsUnique, NamedClosureExists, NamedClosureIsUnique}
use Rattle.pair_colours.specs.Naming.{walk, colours_met, name_of, named_of}
use Rattle.pair_colours.specs.Rounds.{Alike}
use Rattle.pair_colours.proofs.ListLemmas.{list_any-map}
use Rattle.pair_colours.proofs.NamePlaces.{name_of-position}
use Rattle.pair_colours.proofs.Places.{place_below, first_place, Refines-trans}
use Rattle.pair_colours.proofs.Exists.{closure_exists}
use Rattle.pair_colours.proofs.Rounds.{alike_in}
use Rattle.pair_colours.proofs.Names.{along, met_all, list_any-walk, named_of-same}

-- a colour in use is met on the walk, at the place that is its name
pub met_at : (A : PairColouring) (c : ℕ) → IsColour A c → (name_of A c < length (colours_met A)) × (get_or (colours_met A) (name_of A c) 0 ≡ c)
met_at A c u =
    let walked : list_any (λ y. c == y) (along A) ≡ true =
    list_any-map (λ y. c == y) (λ p. colour_at A p.0 p.1) (walk A.size)
    ∙ list_any-walk (λ p. c == colour_at A p.0 p.1) A.size u.x u.y u.row u.column (eq-eqb c _ (sym u.is)) in
    let here = Any-from_list_any (λ y. c == y) (colours_met A) (met_all (along A) c walked) in
    subst (λ k. (k < length (colours_met A)) × (get_or (colours_met A) k 0 ≡ c)) (sym (name_of-position A c))
    (first_place (colours_met A) here.0 c here.2
    (get_or_default (colours_met A) here.0 0 here.1 here.2 ∙ here.3 ∙ sym (eqb-true c here.1 here.4)))

pub name_of-apart : (A : PairColouring) (c d : ℕ) → IsColour A c → IsColour A d → name_of A c ≡ name_of A d → c ≡ d
name_of-apart A c d u v e = sym (met_at A c u).1 ∙ ap (λ k. get_or (colours_met A) k 0) e ∙ (met_at A d v).1

pub colour_at-named_of : (A : PairColouring) → IsColouring A → (x y : ℕ) → x < A.size → y < A.size → colour_at (named_of A) x y ≡ name_of A (colour_at A x y)
colour_at-named_of A a x y hx hy =
    get_or-map (name_of A) A.colours (x * A.size + y) 0 0 (subst (λ m. x * A.size + y < m) (sym a.has_pairs) (place_below A.size x y hx hy))

pub IsColouring-named_of : (A : PairColouring) → IsColouring A → IsColouring (named_of A)
IsColouring-named_of A a = record { has_points = a.has_points; has_pairs = length-map A.colours (name_of A) ∙ a.has_pairs }

-- the naming has the same classes
pub named_of-refines : (A : PairColouring) → IsColouring A → Refines (named_of A) A
named_of-refines A a = record {
  sizes = refl;
  classes = λ x y u v hx hy hu hv e.
      name_of-apart A (colour_at A x y) (colour_at A u v)
      (record { x = x; y = y; row = hx; column = hy; is = refl }) (record { x = u; y = v; row = hu; column = hv; is = refl })
      (sym (colour_at-named_of A a x y hx hy) ∙ e ∙ colour_at-named_of A a u v hu hv);
}

pub refines-named_of : (A : PairColouring) → IsColouring A → Refines A (named_of A)
refines-named_of A a = record {
  sizes = refl;
  classes = λ x y u v hx hy hu hv e.
      colour_at-named_of A a x y hx hy ∙ ap (name_of A) e ∙ sym (colour_at-named_of A a u v hu hv);
}

pub named_of-named_of : (A : PairColouring) → IsColouring A → named_of (named_of A) ≡ named_of A
named_of-named_of A a = named_of-same (named_of A) A (IsColouring-named_of A a) a (named_of-refines A a) (refines-named_of A a)

-- coherence is a property of the classes
pub Coherent-same : (A B : PairColouring) → IsColouring A → Coherent A → Refines A B → Refines B A → Coherent B
Coherent-same A B a h r s = record {
  splits_diagonal = λ x u v hx hu hv e. h.splits_diagonal x u v (to x hx) (to u hu) (to v hv) (s.classes x x u v hx hx hu hv e);
  closed_under_transpose = λ x y u v hx hy hu hv e. (both x y u v hx hy hu hv e).turned;
  constant_triangles = λ x y u v hx hy hu hv e. (both x y u v hx hy hu hv e).counts;
}
  where
    to : (z : ℕ) → z < B.size → z < A.size
    to z l = omega (arith, l, r.sizes)

    both : (x y u v : ℕ) → x < B.size → y < B.size → u < B.size → v < B.size → colour_at B x y ≡ colour_at B u v → Alike B x y u v
    both x y u v hx hy hu hv e = alike_in A B a h r x y u v (to x hx) (to y hy) (to u hu) (to v hv) (s.classes x y u v hx hy hu hv e)

-- so is to be a closure
pub IsClosure-same : (K L C : PairColouring) → IsClosure K C → IsColouring L → Refines K L → Refines L K → IsClosure L C
IsClosure-same K L C k l r s = record {
  colouring = l;
  coherent = Coherent-same K L k.colouring k.coherent r s;
  refines = Refines-trans L K C s k.refines;
  coarsest = λ Q q h t. Refines-trans Q K L (k.coarsest Q q h t) r;
}

-- the naming of a closure is a named closure
pub IsClosureOf-named_of : (K C : PairColouring) → IsClosure K C → IsClosureOf (named_of K) C
IsClosureOf-named_of K C k = record {
  closure = IsClosure-same K (named_of K) C k (IsColouring-named_of K k.colouring) (refines-named_of K k.colouring) (named_of-refines K k.colouring);
  named = named_of-named_of K k.colouring;
}

-- two closures have one naming
pub closure_is_unique : ClosureIsUnique
closure_is_unique C K L _ k l =
    named_of-same K L k.colouring l.colouring (l.coarsest K k.colouring k.coherent k.refines) (k.coarsest L l.colouring l.coherent l.refines)

pub named_closure_exists : NamedClosureExists
named_closure_exists C c = let k = closure_exists C c in (named_of k.0, IsClosureOf-named_of k.0 C k.1)

-- and the closure is one
pub named_closure_is_unique : NamedClosureIsUnique
named_closure_is_unique C K L c k l = sym k.named ∙ closure_is_unique C K L c k.closure l.closure ∙ l.named
