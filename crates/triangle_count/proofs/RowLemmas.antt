-- The entries of the codes over all points are the triangle numbers.
use Rattle.std.proofs.Common.{◌≡◌, ◌==◌, ◌&&◌, ℕ, ◌+◌, ◌*◌, ◌^◌, ◌<◌, ◌≤◌, List, get_or, count_by, Any, inl, inr, ⊎_elim, subst, ◌∙◌, arith}
use Rattle.std.specs.List.Sorted.{IsPermutation}
use Rattle.std.proofs.lemmas.Bool.{cases_lt}
use Rattle.std.proofs.lemmas.Bool.Decides.{Decides-eqb, Decides-and, Decides-like, same_from_decides}
use Rattle.std.proofs.lemmas.Nat.{same_from_place}
use Rattle.std.proofs.lemmas.List.FromFn.{get_or-map-range_with_len}
use Rattle.std.proofs.lemmas.List.Sorted.{IsPermutation-sym, sum_by-IsPermutation, All-permutation}
use Rattle.pair_colours.specs.Colouring.{PairColouring, FitsColouring, colour_at, points, triangles}
use Rattle.pair_colours.specs.SideCodes.{side_code, side_codes}
use Rattle.pair_colours.proofs.Counts.{triangle_point, count_by-map, count_by_points, unit_of}
use Rattle.pair_colours.proofs.SideCodes.{colour_small, length-side_codes}
use Rattle.triangle_count.specs.declared.rows.Entry.{Entry}
use Rattle.triangle_count.specs.Row.{Precedes, IsRowAt}
use Rattle.triangle_count.specs.Runs.{code_of, IsTally}

-- the tally of all codes, in any order, is the row
pub IsRowAt-from_tally : (C : PairColouring) (x y : ℕ) (codes : List ℕ) (entries : List Entry) → FitsColouring C → x < C.size → y < C.size
    → IsPermutation (side_codes C x y) codes → IsTally codes entries → IsRowAt C x y entries
IsRowAt-from_tally C x y codes entries fits hx hy p t = record {
  rises = λ i j d a b. precedes (get_or entries i d) (get_or entries j d) (t.small j d b) (t.rises i j d a b);
  nonzero = t.nonzero;
  counts = λ k d l. t.counts k d l ∙ counted (get_or entries k d) (t.small k d l);
  complete = λ i j h. all i j h;
}
  where
    precedes : (e f : Entry) → f.right < 2 ^ 32 → code_of e < code_of f → Precedes e f
    precedes e f small h = ⊎_elim
        (λ (q : e.left < f.left). inl q)
        (λ (q : f.left ≤ e.left). inr (let same : e.left ≡ f.left = omega arith in (same, omega arith)))
        (cases_lt e.left f.left)

    tests : (e : Entry) → e.right < 2 ^ 32 → (z : ℕ) → z < C.size → (side_code C x y z == code_of e) ≡ ((colour_at C x z == e.left) && (colour_at C z y == e.right))
    tests e small z hz =
        let low = colour_small C fits z y hz hy in
        same_from_decides _ _ (Decides-eqb (side_code C x y z) (code_of e))
        (Decides-like _
        (λ b. (λ i. b.0 i * 2 ^ 32 + b.1 i))
        (λ q. same_from_place (colour_at C x z) (colour_at C z y) e.left e.right (2 ^ 32) low small q)
        (Decides-and _ _ (Decides-eqb (colour_at C x z) e.left) (Decides-eqb (colour_at C z y) e.right)))

    counted : (e : Entry) → e.right < 2 ^ 32 → count_by (λ code. code == code_of e) codes ≡ triangles C x y e.left e.right
    counted e small =
        sum_by-IsPermutation (λ code. unit_of (code == code_of e)) (side_codes C x y) codes p
        ∙ count_by-map (λ code. code == code_of e) (side_code C x y) (points C.size)
        ∙ count_by_points (λ z. side_code C x y z == code_of e) (λ z. (colour_at C x z == e.left) && (colour_at C z y == e.right)) C.size (tests e small)

    all : (i j : ℕ) → 0 < triangles C x y i j → Any (λ e. (e.left ≡ i) × (e.right ≡ j)) entries
    all i j h =
        let z = triangle_point C x y i j h in
        let is : get_or (side_codes C x y) z.0 0 ≡ side_code C x y z.0 = get_or-map-range_with_len (side_code C x y) 0 C.size z.0 z.0 0 z.1 (omega arith) in
        let each = All-permutation (λ code. Any (λ e. code_of e ≡ code) entries) codes (side_codes C x y) (IsPermutation-sym (side_codes C x y) codes p) t.complete in
        let a = each z.0 0 (omega (arith, z.1, length-side_codes C x y)) in
        let d : Entry = a.1 in
        let small = t.small a.0 d a.2 in
        let same : d.right < 2 ^ 32 = subst (λ (e : Entry). e.right < 2 ^ 32) a.3 small in
        let both = same_from_place d.left d.right (colour_at C x z.0) (colour_at C z.0 y) (2 ^ 32) same (colour_small C fits z.0 y z.1 hy) (a.4 ∙ is) in
        (a.0, d, a.2, a.3, (both.0 ∙ z.2, both.1 ∙ z.3))
