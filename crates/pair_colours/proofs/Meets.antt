use Rattle.std.proofs.Common.{◌≡◌, ℕ, ◌+◌, ◌*◌, ◌/◌, ◌%◌, ◌^◌, ◌<◌, ◌≤◌, List, length, get_or, sym, ap, subst, ◌∙◌, arith}
use Rattle.std.proofs.lemmas.Nat.{div-mul-add, mod-mul-add}
use Rattle.pair_colours.specs.Colouring.{PairColouring, IsColouring, FitsColouring, Refines, colour_at}
use Rattle.pair_colours.specs.Lists.{Determines, IsPaired}
use Rattle.pair_colours.specs.Naming.{named_of, IsNamedMeet}
use Rattle.pair_colours.proofs.Places.{place_below, Refines-trans}
use Rattle.pair_colours.proofs.ListReads.{Refines-from_lists}
use Rattle.pair_colours.proofs.Closures.{IsColouring-named_of, named_of-refines, refines-named_of, named_of-named_of}
use Rattle.pair_colours.proofs.Names.{named_of-same}

-- what refines both refines the meet
pub meet_below : (Q A B M : PairColouring) → IsNamedMeet A B M → Refines Q A → Refines Q B → Refines Q M
meet_below Q A B M m r s = record {
  sizes = r.sizes ∙ sym m.first.sizes;
  classes = λ x y u v hx hy hu hv e.
      m.together x y u v (to x hx) (to y hy) (to u hu) (to v hv) (r.classes x y u v hx hy hu hv e) (s.classes x y u v hx hy hu hv e);
}
  where
    to : (z : ℕ) → z < Q.size → z < M.size
    to z l = omega (arith, l, r.sizes, m.first.sizes)

-- there is one named meet
pub IsNamedMeet-unique : (A B M N : PairColouring) → IsNamedMeet A B M → IsNamedMeet A B N → M ≡ N
IsNamedMeet-unique A B M N m n =
    sym m.named ∙ named_of-same M N m.colouring n.colouring (meet_below M A B N n m.first m.second) (meet_below N A B M m n.first n.second) ∙ n.named

-- numbers for the pairs of colours give the meet, once they are named
pub IsNamedMeet-numbered : (A B M : PairColouring) (codes : List ℕ) → FitsColouring A → FitsColouring B → A.size ≡ B.size → M.size ≡ A.size
    → length M.colours ≡ length A.colours → length codes ≡ length A.colours → IsPaired A.colours B.colours codes
    → Determines M.colours codes → Determines codes M.colours → IsNamedMeet A B (named_of M)
IsNamedMeet-numbered A B M codes a b e f l lc p apart together = record {
  colouring = IsColouring-named_of M m;
  first = Refines-trans (named_of M) M A (named_of-refines M m) refines_a;
  second = Refines-trans (named_of M) M B (named_of-refines M m) refines_b;
  together = λ x y u v hx hy hu hv ea eb. (refines-named_of M m).classes x y u v hx hy hu hv (joined x y u v hx hy hu hv ea eb);
  named = named_of-named_of M m;
}
  where
    m : IsColouring M
    m = record { has_points = subst (λ n. 1 ≤ n) (sym f) a.colouring.has_points; has_pairs = l ∙ a.colouring.has_pairs ∙ ap (λ n. n * n) (sym f) }

    same_length : length B.colours ≡ length A.colours
    same_length = b.colouring.has_pairs ∙ ap (λ n. n * n) (sym e) ∙ sym a.colouring.has_pairs

    small : (k : ℕ) → k < length A.colours → get_or B.colours k 0 < 2 ^ 32
    small k h = b.numbers k 0 (omega (arith, h, same_length))

    row : (k : ℕ) → k < length A.colours → get_or codes k 0 / 2 ^ 32 ≡ get_or A.colours k 0
    row k h = ap (λ c. c / 2 ^ 32) (p.is k h) ∙ div-mul-add (get_or A.colours k 0) (2 ^ 32) (get_or B.colours k 0) (small k h)

    column : (k : ℕ) → k < length A.colours → get_or codes k 0 % 2 ^ 32 ≡ get_or B.colours k 0
    column k h = ap (λ c. c % 2 ^ 32) (p.is k h) ∙ mod-mul-add (get_or A.colours k 0) (2 ^ 32) (get_or B.colours k 0) (small k h)

    short : (k : ℕ) → k < length M.colours → k < length A.colours
    short k h = omega (arith, h, l)

    refines_a : Refines M A
    refines_a = Refines-from_lists M A m f (record { holds = λ j k hj hk q. sym (row j (short j hj)) ∙ ap (λ c. c / 2 ^ 32) (apart.holds j k hj hk q) ∙ row k (short k hk) })

    refines_b : Refines M B
    refines_b = Refines-from_lists M B m (f ∙ e) (record { holds = λ j k hj hk q. sym (column j (short j hj)) ∙ ap (λ c. c % 2 ^ 32) (apart.holds j k hj hk q) ∙ column k (short k hk) })

    joined : (x y u v : ℕ) → x < M.size → y < M.size → u < M.size → v < M.size
        → colour_at A x y ≡ colour_at A u v → colour_at B x y ≡ colour_at B u v → colour_at M x y ≡ colour_at M u v
    joined x y u v hx hy hu hv ea eb =
        let i : ℕ = x * M.size + y in
        let j : ℕ = u * M.size + v in
        let li : i < length M.colours = subst (λ n. x * M.size + y < n) (sym m.has_pairs) (place_below M.size x y hx hy) in
        let lj : j < length M.colours = subst (λ n. u * M.size + v < n) (sym m.has_pairs) (place_below M.size u v hu hv) in
        let at : get_or A.colours i 0 ≡ get_or A.colours j 0 = ap (λ n. get_or A.colours (x * n + y) 0) f ∙ ea ∙ ap (λ n. get_or A.colours (u * n + v) 0) (sym f) in
        let bt : get_or B.colours i 0 ≡ get_or B.colours j 0 = ap (λ n. get_or B.colours (x * n + y) 0) (f ∙ e) ∙ eb ∙ ap (λ n. get_or B.colours (u * n + v) 0) (sym (f ∙ e)) in
        let code : get_or codes i 0 ≡ get_or codes j 0 = p.is i (short i li) ∙ (λ t. at t * 2 ^ 32 + bt t) ∙ sym (p.is j (short j lj)) in
        together.holds i j (omega (arith, li, l, lc)) (omega (arith, lj, l, lc)) code
