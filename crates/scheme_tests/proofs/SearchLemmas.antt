-- The steps of the search for the points that a class reaches from point 0.
use Rattle.std.proofs.Common.{◌≡◌, ℕ, suc, zero, ◌+◌, ◌<◌, ◌≤◌, Bool, true, false, not, cond, List, [], ◌∷◌, ◌++◌, length, get_or, set, count_by, Contains, ◌⊎◌, inl, inr, ⊎_elim, sym, ap, subst, ◌∙◌, arith}
use Rattle.std.proofs.lemmas.Bool.{cases_lt, cases_eq}
use Rattle.std.proofs.lemmas.List.{length-set, get_or-set_same, get_or-set_other, get_or_append_left, length_push}
use Rattle.std.proofs.lemmas.List.Sums.{sum_by-set}
use Rattle.std.proofs.lemmas.List.Elements.{All-push, Contains-append_left, Contains-push, Contains-push_cases, All-contains}
use Rattle.pair_colours.specs.Colouring.{PairColouring}
use Rattle.scheme_tests.specs.Steps.{Step, Path, Joined, mark_at, MarksReached, IsSearch, IsSpread, IsSpreadTo, work_left}
use Rattle.scheme_tests.proofs.Paths.{Joined-step}

-- a mark that is set, and the others
mark_here : (marks : List Bool) (y : ℕ) → y < length marks → mark_at (set marks y true) y ≡ true
mark_here marks y l = get_or-set_same marks y true false l

mark_other : (marks : List Bool) (y a : ℕ) → (a ≡ y → ⊥) → mark_at (set marks y true) a ≡ mark_at marks a
mark_other marks y a ne = get_or-set_other marks y a true false ne

mark_kept : (marks : List Bool) (y a : ℕ) → y < length marks → mark_at marks a ≡ true → mark_at (set marks y true) a ≡ true
mark_kept marks y a l m = ⊎_elim
    (λ e. ap (mark_at (set marks y true)) e ∙ mark_here marks y l)
    (λ ne. mark_other marks y a ne ∙ m)
    (cases_eq a y)

-- a new point is marked, and waits
IsSearch-mark : (K : PairColouring) (c x y : ℕ) (marks : List Bool) (waiting : List ℕ) → x < K.size → y < K.size → mark_at marks x ≡ true → Step K c x y
    → IsSearch K c marks waiting → IsSearch K c (set marks y true) (waiting ++ y ∷ [])
IsSearch-mark K c x y marks waiting hx hy m s h = record {
  len = length-set marks y true ∙ h.len;
  start = mark_kept marks y 0 low h.start;
  sound = λ a ha t. ⊎_elim
      (λ e. subst (Joined K c 0) (sym e) (Joined-step K c 0 x y hx (h.sound x hx m) s))
      (λ ne. h.sound a ha (sym (mark_other marks y a ne) ∙ t))
      (cases_eq a y);
  wait = All-push (λ a. (a < K.size) × (mark_at (set marks y true) a ≡ true)) waiting y (λ k d l. let w = h.wait k d l in (w.0, mark_kept marks y _ low w.1)) (hy, mark_here marks y low);
}
  where
    low : y < length marks
    low = omega (arith, hy, h.len)

pub spread_mark : (K : PairColouring) (c x y : ℕ) (marks new : List Bool) (waiting more : List ℕ) → y < K.size → Step K c x y
    → new ≡ set marks y true → more ≡ waiting ++ y ∷ [] → IsSpreadTo K c x y marks waiting → IsSpreadTo K c x (y + 1) new more
spread_mark K c x y marks new waiting more hy s e f h =
    subst (λ ms. IsSpreadTo K c x (y + 1) ms more) (sym e) (subst (λ ws. IsSpreadTo K c x (y + 1) (set marks y true) ws) (sym f) (record {
      search = IsSearch-mark K c x y marks waiting h.point hy h.marked s h.search;
      point = h.point;
      marked = mark_kept marks y x low h.marked;
      onward = λ a b ha hb t q. ⊎_elim (new_point a b) (λ ne. old_point a b ha hb ne t q) (cases_eq a y);
    }))
  where
    low : y < length marks
    low = omega (arith, hy, h.search.len)

    new_point : (a b : ℕ) → a ≡ y → (mark_at (set marks y true) b ≡ true) ⊎ (Contains (waiting ++ y ∷ []) a ⊎ ((a ≡ x) × (y + 1 ≤ b)))
    new_point a b e = inr (inl (subst (Contains (waiting ++ y ∷ [])) (sym e) (Contains-push waiting y)))

    old_point : (a b : ℕ) → a < K.size → b < K.size → (a ≡ y → ⊥) → mark_at (set marks y true) a ≡ true → Step K c a b
        → (mark_at (set marks y true) b ≡ true) ⊎ (Contains (waiting ++ y ∷ []) a ⊎ ((a ≡ x) × (y + 1 ≤ b)))
    old_point a b ha hb ne t q = ⊎_elim
        (λ m. inl (mark_kept marks y b low m))
        (λ o. ⊎_elim
        (λ w. inr (inl (Contains-append_left waiting (y ∷ []) a w)))
        (λ r. ⊎_elim (λ (l : y < b). inr (inr (r.0, omega (arith, l)))) (λ (l : b ≤ y). let e' : b ≡ y = omega (arith, l, r.1) in inl (ap (mark_at (set marks y true)) e' ∙ mark_here marks y low)) (cases_lt y b))
        o)
        (h.onward a b ha hb (sym (mark_other marks y a ne) ∙ t) q)

pub spread_skip : (K : PairColouring) (c x y : ℕ) (marks : List Bool) (waiting : List ℕ) → (mark_at marks y ≡ true) ⊎ (Step K c x y → ⊥)
    → IsSpreadTo K c x y marks waiting → IsSpreadTo K c x (y + 1) marks waiting
spread_skip K c x y marks waiting known h = record {
  search = h.search;
  point = h.point;
  marked = h.marked;
  onward = λ a b ha hb t q. ⊎_elim
      (λ m. inl m)
      (λ o. ⊎_elim (λ w. inr (inl w)) (λ r. later a b q r) o)
      (h.onward a b ha hb t q);
}
  where
    here : (a b : ℕ) → Step K c a b → a ≡ x → b ≡ y → mark_at marks b ≡ true
    here a b q ea eb = ⊎_elim
        (λ m. ap (mark_at marks) eb ∙ m)
        (λ none. absurd (none (subst (Step K c x) eb (subst (λ z. Step K c z b) ea q))))
        known

    later : (a b : ℕ) → Step K c a b → (a ≡ x) × (y ≤ b) → (mark_at marks b ≡ true) ⊎ (Contains waiting a ⊎ ((a ≡ x) × (y + 1 ≤ b)))
    later a b q r = ⊎_elim (λ (l : y < b). inr (inr (r.0, omega (arith, l)))) (λ (l : b ≤ y). inl (here a b q r.0 (omega (arith, l, r.1)))) (cases_lt y b)

pub spread_end : (K : PairColouring) (c x y : ℕ) (marks : List Bool) (waiting : List ℕ) → y ≡ K.size → IsSpreadTo K c x y marks waiting → IsSpread K c marks waiting
spread_end K c x y marks waiting e h = record {
  search = h.search;
  onward = λ a b ha hb t q. ⊎_elim (λ m. inl m) (λ o. ⊎_elim (λ w. inr w) (λ r. absurd (omega (arith, r.1, hb, e))) o) (h.onward a b ha hb t q);
}

-- the work that marks a point is as much as it takes away
pub work_mark : (marks new : List Bool) (waiting more : List ℕ) (y : ℕ) → y < length marks → mark_at marks y ≡ false → new ≡ set marks y true → more ≡ waiting ++ y ∷ []
    → work_left new more ≡ work_left marks waiting
work_mark marks new waiting more y l m e f =
    let s = sum_by-set (λ b. cond (not b) 1 0) marks y true false l in
    let one : ℕ = 1 in
    let off : cond (not (get_or marks y false)) 1 0 ≡ one = ap (λ b. cond (not b) 1 0) m in
    omega (arith, ap (count_by not) e, s, off, ap length f, length_push waiting y)

-- one of the waiting points is taken
pub spread_start : (K : PairColouring) (c x : ℕ) (marks : List Bool) (old waiting : List ℕ) → old ≡ waiting ++ x ∷ [] → IsSpread K c marks old → IsSpreadTo K c x 0 marks waiting
spread_start K c x marks old waiting e h = record {
  search = record {
    len = h.search.len;
    start = h.search.start;
    sound = h.search.sound;
    wait = λ k d l. subst (λ a. (a < K.size) × (mark_at marks a ≡ true)) (get_or_append_left waiting (x ∷ []) d k l)
        (subst (λ ws. (get_or ws k d < K.size) × (mark_at marks (get_or ws k d) ≡ true)) e (h.search.wait k d (omega (arith, l, ap length e, length_push waiting x))));
  };
  point = last.0;
  marked = last.1;
  onward = λ a b ha hb t q. ⊎_elim
      (λ m. inl m)
      (λ w. ⊎_elim (λ v. inr (inl v)) (λ (same : x ≡ a). inr (inr (sym same, omega arith))) (Contains-push_cases waiting x a (subst (λ ws. Contains ws a) e w)))
      (h.onward a b ha hb t q);
}
  where
    last : (x < K.size) × (mark_at marks x ≡ true)
    last = All-contains (λ a. (a < K.size) × (mark_at marks a ≡ true)) old x h.search.wait (subst (λ ws. Contains ws x) (sym e) (Contains-push waiting x))

-- at the end no point waits, and all that are joined to point 0 are marked
pub search_end : (K : PairColouring) (c : ℕ) (marks : List Bool) (waiting : List ℕ) → waiting ≡ [] → IsSpread K c marks waiting → MarksReached K c marks
search_end K c marks waiting e h = record {
  len = h.search.len;
  sound = h.search.sound;
  complete = λ y hy j. along j.0 y hy j.1;
}
  where
    along : (m y : ℕ) → y < K.size → Path K c m 0 y → mark_at marks y ≡ true
    along zero y hy p = subst (λ z. mark_at marks z ≡ true) p h.search.start
    along (suc m) y hy p = ⊎_elim
        (λ t. t)
        (λ w. let v = subst (λ ws. Contains ws p.0) e w in absurd (omega (arith, v.1)))
        (h.onward p.0 y p.1 hy (along m p.0 p.1 p.2) p.3)
