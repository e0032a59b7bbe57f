-- A colouring by a function of the pairs.
use Rattle.std.proofs.Common.{◌≡◌, ◌≢◌, ◌==◌, ◌&&◌, ◌||◌, ℕ, ◌+◌, ◌*◌, ◌/◌, ◌%◌, ◌<◌, Bool, true, false, cond, length, get_or, set, map, refl, sym, ap, ◌∙◌, arith, ⊎_elim}
use Rattle.std.proofs.lemmas.Bool.{cases_eq, eq-eqb, ne_eqb}
use Rattle.std.proofs.lemmas.List.{length-set}
use Rattle.std.proofs.lemmas.List.FromFn.{fill_by_all}
use Rattle.pair_colours.specs.Colouring.{PairColouring, IsColouring, colour_at, points}
use Rattle.pair_colours.proofs.Places.{row_below, column_below, at_place}
use Rattle.recolour_bench.specs.Recolouring.{is_pair, recoloured}

-- a list of as many colours that agrees with the function at each pair is the recoloured one
pub recoloured_is : (C N : PairColouring) (f : ℕ → ℕ → ℕ) → IsColouring C → N.size ≡ C.size → length N.colours ≡ length C.colours
    → ((u v : ℕ) → u < C.size → v < C.size → colour_at N u v ≡ f u v) → N ≡ recoloured C f
recoloured_is C N f c sizes lengths same = λ i. record { size = sizes i; colours = colours i }
  where
    len : length N.colours ≡ C.size * C.size
    len = lengths ∙ c.has_pairs

    here : (p : ℕ) → p < C.size * C.size → get_or N.colours p 0 ≡ f (p / C.size) (p % C.size)
    here p l =
        sym (at_place N p) ∙ ap (λ n. colour_at N (p / n) (p % n)) sizes
        ∙ same (p / C.size) (p % C.size) (row_below C.size p c.has_points l) (column_below C.size p c.has_points)

    colours : N.colours ≡ map (λ place. f (place / C.size) (place % C.size)) (points (C.size * C.size))
    colours = fill_by_all (λ place. f (place / C.size) (place % C.size)) N.colours (C.size * C.size) 0 len here

-- a number that is one thing at the pair (x, y), and another elsewhere
by_pair : (x y u v n other rest : ℕ) → (u ≡ x → v ≡ y → n ≡ other) → ((u ≡ x → v ≢ y) → n ≡ rest) → n ≡ cond (is_pair x y u v) other rest
by_pair x y u v n other rest here there =
    ⊎_elim
    (λ e. ⊎_elim
    (λ d. here e d ∙ sym (λ i. cond (eq-eqb u x e i && eq-eqb v y d i) other rest))
    (λ nd. there (λ _ d. nd d) ∙ sym (λ i. cond (eq-eqb u x e i && ne_eqb v y nd i) other rest))
    (cases_eq v y))
    (λ ne. there (λ e _. ne e) ∙ sym (λ i. cond (ne_eqb u x ne i && (v == y)) other rest))
    (cases_eq u x)

-- a write of one pair in a copy
pub recoloured-pair : (C D N : PairColouring) (x y colour : ℕ) → IsColouring C → D ≡ C → N.size ≡ D.size → N.colours ≡ set D.colours (x * D.size + y) colour
    → colour_at N x y ≡ colour → ((u v : ℕ) → u < D.size → v < D.size → (u ≡ x → v ≢ y) → colour_at N u v ≡ colour_at D u v)
    → N ≡ recoloured C (λ u v. cond (is_pair x y u v) colour (colour_at C u v))
recoloured-pair C D N x y colour c copied sizes changed pair others =
    recoloured_is C N (λ u v. cond (is_pair x y u v) colour (colour_at C u v)) c (sizes ∙ ap (λ (A : PairColouring). A.size) copied)
    (ap length changed ∙ length-set D.colours (x * D.size + y) colour ∙ ap (λ (A : PairColouring). length A.colours) copied) at
  where
    kept : (u v : ℕ) → u < C.size → v < C.size → (u ≡ x → v ≢ y) → colour_at N u v ≡ colour_at C u v
    kept u v hu hv ne =
        let same : D.size ≡ C.size = ap (λ (A : PairColouring). A.size) copied in
        others u v (omega (arith, hu, same)) (omega (arith, hv, same)) ne ∙ ap (λ A. colour_at A u v) copied

    at : (u v : ℕ) → u < C.size → v < C.size → colour_at N u v ≡ cond (is_pair x y u v) colour (colour_at C u v)
    at u v hu hv = by_pair x y u v _ colour (colour_at C u v) (λ e d. (λ i. colour_at N (e i) (d i)) ∙ pair) (kept u v hu hv)

-- writes of a pair and of its transpose in a copy
pub recoloured-both : (C D M N : PairColouring) (x y colour : ℕ) → IsColouring C → D ≡ C → M.size ≡ D.size → M.colours ≡ set D.colours (x * D.size + y) colour
    → ((u v : ℕ) → u < D.size → v < D.size → (u ≡ x → v ≢ y) → colour_at M u v ≡ colour_at D u v) → colour_at M x y ≡ colour
    → N.size ≡ M.size → N.colours ≡ set M.colours (y * M.size + x) colour
    → colour_at N y x ≡ colour → ((u v : ℕ) → u < M.size → v < M.size → (u ≡ y → v ≢ x) → colour_at N u v ≡ colour_at M u v)
    → N ≡ recoloured C (λ u v. cond (is_pair x y u v || is_pair y x u v) colour (colour_at C u v))
recoloured-both C D M N x y colour c copied sizes changed others pair sizes2 changed2 pair2 others2 =
    recoloured_is C N (λ u v. cond (is_pair x y u v || is_pair y x u v) colour (colour_at C u v)) c (sizes2 ∙ sizes ∙ same)
    (ap length changed2 ∙ length-set M.colours (y * M.size + x) colour ∙ ap length changed ∙ length-set D.colours (x * D.size + y) colour ∙ ap (λ (A : PairColouring). length A.colours) copied)
    at
  where
    same : D.size ≡ C.size
    same = ap (λ (A : PairColouring). A.size) copied

    once : (u v : ℕ) → u < C.size → v < C.size → colour_at M u v ≡ cond (is_pair x y u v) colour (colour_at C u v)
    once u v hu hv =
        by_pair x y u v _ colour (colour_at C u v)
        (λ e d. (λ i. colour_at M (e i) (d i)) ∙ pair)
        (λ ne. others u v (omega (arith, hu, same)) (omega (arith, hv, same)) ne ∙ ap (λ A. colour_at A u v) copied)

    joined : (a b : Bool) (k l : ℕ) → cond b k (cond a k l) ≡ cond (a || b) k l
    joined true true k l = refl
    joined true false k l = refl
    joined false true k l = refl
    joined false false k l = refl

    at : (u v : ℕ) → u < C.size → v < C.size → colour_at N u v ≡ cond (is_pair x y u v || is_pair y x u v) colour (colour_at C u v)
    at u v hu hv =
        by_pair y x u v _ colour (cond (is_pair x y u v) colour (colour_at C u v))
        (λ e d. (λ i. colour_at N (e i) (d i)) ∙ pair2)
        (λ ne. others2 u v (omega (arith, hu, same, sizes)) (omega (arith, hv, same, sizes)) ne ∙ once u v hu hv)
        ∙ joined (is_pair x y u v) (is_pair y x u v) colour (colour_at C u v)
