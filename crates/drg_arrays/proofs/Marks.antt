-- The steps of the search: a point whose neighbours are marked, and a level of them.
use Rattle.std.proofs.Common.{◌≡◌, ◌==◌, ◌&&◌, ℕ, ◌+◌, ◌<◌, ◌≤◌, Bool, true, false, cond, List, length, get_or, set, refl, sym, ap, subst, ◌∙◌, arith, ⊎_elim, inl, inr, ◌⊎◌, IsTrue, get_or-set_other, get_or-set_same}
use Rattle.std.proofs.lemmas.Bool.{cases_lt, cases_eq, cases_Bool, eq-eqb, ne_eqb}
use Rattle.std.proofs.lemmas.List.Sums.{sum_by-set}
use Rattle.pair_colours.proofs.Counts.{unit_of}
use Rattle.drg_arrays.specs.declared.levels.TheConstants.{UNREACHED}
use Rattle.drg_arrays.specs.Graph.{Graph, is_edge}
use Rattle.drg_arrays.specs.Tables.{IsMarked, IsNextLevel, unreached_count}

-- what the neighbours of w become
abbrev pub marked_level : Graph → ℕ → ℕ → List ℕ → ℕ → ℕ
marked_level G w level old y = cond ((get_or old y 0 == UNREACHED) && is_edge G w y) level (get_or old y 0)

-- the neighbours of w below y are marked, and the rest is as it was
pub record IsMarking (G : Graph) (w level : ℕ) (old new : List ℕ) (grew : Bool) (y : ℕ) : Type 0 where
  pub marked : (k : ℕ) → k < y → get_or new k 0 ≡ marked_level G w level old k
  pub later : (k : ℕ) → y ≤ k → get_or new k 0 ≡ get_or old k 0
  pub fewer : unreached_count new + cond grew 1 0 ≤ unreached_count old
  pub same : IsTrue grew ⊎ (new ≡ old)

-- a write of a level over none
unreached_count-set : (levels : List ℕ) (y level : ℕ) → y < length levels → get_or levels y 0 ≡ UNREACHED → level < UNREACHED
    → unreached_count (set levels y level) + 1 ≡ unreached_count levels
unreached_count-set levels y level l e small =
    let s = sum_by-set (λ n. cond (n == UNREACHED) 1 0) levels y level 0 l in
    let one : unit_of (get_or levels y 0 == UNREACHED) ≡ 1 = ap unit_of (eq-eqb (get_or levels y 0) UNREACHED e) in
    let none : unit_of (level == UNREACHED) ≡ 0 = ap unit_of (ne_eqb level UNREACHED (λ q. omega (arith, q, small))) in
    omega (arith, s, one, none)

pub IsMarking-yes : (G : Graph) (w level : ℕ) (old now : List ℕ) (grew : Bool) (y : ℕ) → y < length now → level < UNREACHED
    → get_or now y 0 ≡ UNREACHED → is_edge G w y ≡ true → IsMarking G w level old now grew y → IsMarking G w level old (set now y level) true (y + 1)
IsMarking-yes G w level old now grew y l small none joined h = record {
  marked = λ k b. ⊎_elim (λ (e : k ≡ y). here k e) (λ (ne : k ≡ y → ⊥). get_or-set_other now y k level 0 ne ∙ h.marked k (omega (arith, b, ne))) (cases_eq k y);
  later = λ k b. get_or-set_other now y k level 0 (λ e. omega (arith, e, b)) ∙ h.later k (omega (arith, b));
  fewer = omega (arith, unreached_count-set now y level l none small, h.fewer);
  same = inl refl;
}
  where
    here : (k : ℕ) → k ≡ y → get_or (set now y level) k 0 ≡ marked_level G w level old k
    here k e =
        let t : (get_or old k 0 == UNREACHED) ≡ true = eq-eqb (get_or old k 0) UNREACHED (ap (λ j. get_or old j 0) e ∙ sym (h.later y (omega arith)) ∙ none) in
        let j : is_edge G w k ≡ true = ap (is_edge G w) e ∙ joined in
        ap (λ i. get_or (set now y level) i 0) e ∙ get_or-set_same now y level 0 l ∙ sym (λ i. cond (t i && j i) level (get_or old k 0))

pub IsMarking-no : (G : Graph) (w level : ℕ) (old now : List ℕ) (grew : Bool) (y : ℕ)
    → (get_or now y 0 ≡ UNREACHED → is_edge G w y ≡ false) → IsMarking G w level old now grew y → IsMarking G w level old now grew (y + 1)
IsMarking-no G w level old now grew y not h = record {
  marked = λ k b. ⊎_elim (λ (e : k ≡ y). here k e) (λ (ne : k ≡ y → ⊥). h.marked k (omega (arith, b, ne))) (cases_eq k y);
  later = λ k b. h.later k (omega (arith, b));
  fewer = h.fewer;
  same = h.same;
}
  where
    here : (k : ℕ) → k ≡ y → get_or now k 0 ≡ marked_level G w level old k
    here k e =
        let o : get_or now k 0 ≡ get_or old k 0 = h.later k (omega (arith, e)) in
        ⊎_elim
        (λ (u : get_or old k 0 ≡ UNREACHED).
        let j : is_edge G w k ≡ false = ap (is_edge G w) e ∙ not (sym (ap (λ i. get_or now i 0) e) ∙ o ∙ u) in
        let t : (get_or old k 0 == UNREACHED) ≡ true = eq-eqb (get_or old k 0) UNREACHED u in
        o ∙ sym (λ i. cond (t i && j i) level (get_or old k 0)))
        (λ (u : get_or old k 0 ≡ UNREACHED → ⊥).
        let t : (get_or old k 0 == UNREACHED) ≡ false = ne_eqb (get_or old k 0) UNREACHED u in
        o ∙ sym (ap (λ b. cond (b && is_edge G w k) level (get_or old k 0)) t))
        (cases_eq (get_or old k 0) UNREACHED)

-- what marking does at a point: nothing where it has a level or is no neighbour
hit : (G : Graph) (w level : ℕ) (old : List ℕ) (y : ℕ) → get_or old y 0 ≡ UNREACHED → is_edge G w y ≡ true → marked_level G w level old y ≡ level
hit G w level old y u j =
    let t : (get_or old y 0 == UNREACHED) ≡ true = eq-eqb (get_or old y 0) UNREACHED u in λ i. cond (t i && j i) level (get_or old y 0)

missed : (G : Graph) (w level : ℕ) (old : List ℕ) (y : ℕ) → get_or old y 0 ≡ UNREACHED → is_edge G w y ≡ false → marked_level G w level old y ≡ get_or old y 0
missed G w level old y u j =
    let t : (get_or old y 0 == UNREACHED) ≡ true = eq-eqb (get_or old y 0) UNREACHED u in λ i. cond (t i && j i) level (get_or old y 0)

kept : (G : Graph) (w level : ℕ) (old : List ℕ) (y : ℕ) → (get_or old y 0 ≡ UNREACHED → ⊥) → marked_level G w level old y ≡ get_or old y 0
kept G w level old y u = ap (λ b. cond (b && is_edge G w y) level (get_or old y 0)) (ne_eqb (get_or old y 0) UNREACHED u)

-- a point that is not at the level adds nothing
pub IsNextLevel-skip : (G : Graph) (old now : List ℕ) (level w : ℕ) → level + 1 < UNREACHED → (get_or now w 0 ≡ level → ⊥)
    → IsNextLevel G old now level w → IsNextLevel G old now level (w + 1)
IsNextLevel-skip G old now level w small ne h = record {
  kept = h.kept;
  left = h.left;
  marked = λ v y l hv hy e j. ⊎_elim (λ (b : v < w). h.marked v y b hv hy e j)
      (λ (b : w ≤ v).
      let same : v ≡ w = omega (arith, b, l) in
      absurd (ne (sym (ap (λ i. get_or now i 0) same) ∙ h.kept v hv (λ u. omega (arith, u, e, small)) ∙ e)))
      (cases_lt v w);
}

-- a point at the level marks its neighbours
pub IsNextLevel-more : (G : Graph) (old now new : List ℕ) (level w : ℕ) → level + 1 < UNREACHED → w < G.size → get_or now w 0 ≡ level
    → ((y : ℕ) → y < G.size → get_or new y 0 ≡ marked_level G w (level + 1) now y)
    → IsNextLevel G old now level w → IsNextLevel G old new level (w + 1)
IsNextLevel-more G old now new level w small hw at p h = record {
  kept = λ y hy u. p y hy ∙ kept G w (level + 1) now y (λ e. u (sym (h.kept y hy u) ∙ e)) ∙ h.kept y hy u;
  left = λ y hy u. ⊎_elim (λ (v : get_or now y 0 ≡ UNREACHED). ⊎_elim (λ (j : is_edge G w y ≡ true). inr (fresh y hy v j))
      (λ (j : is_edge G w y ≡ false). inl (p y hy ∙ missed G w (level + 1) now y v j ∙ v)) (cases_Bool (is_edge G w y)))
      (λ (m : IsMarked G old now level y). inr (again y hy m)) (h.left y hy u);
  marked = λ v y l hv hy e j. ⊎_elim (λ (b : v < w). stays y hy (h.marked v y b hv hy e j))
      (λ (b : w ≤ v). reached y hy (let same : v ≡ w = omega (arith, b, l) in sym (ap (λ i. is_edge G i y) same) ∙ j)) (cases_lt v w);
}
  where
    from_level : get_or old w 0 ≡ level
    from_level = ⊎_elim
        (λ (u : get_or old w 0 ≡ UNREACHED). ⊎_elim (λ (v : get_or now w 0 ≡ UNREACHED). absurd (omega (arith, v, at, small))) (λ (m : IsMarked G old now level w). absurd (omega (arith, m.is, at))) (h.left w hw u))
        (λ (u : get_or old w 0 ≡ UNREACHED → ⊥). sym (h.kept w hw u) ∙ at) (cases_eq (get_or old w 0) UNREACHED)

    fresh : (y : ℕ) → y < G.size → get_or now y 0 ≡ UNREACHED → is_edge G w y ≡ true → IsMarked G old new level y
    fresh y hy v j = record { w = w; row = hw; from_level = from_level; joined = j; is = p y hy ∙ hit G w (level + 1) now y v j }

    stays : (y : ℕ) → y < G.size → (get_or now y 0 ≡ UNREACHED → ⊥) → get_or new y 0 ≡ UNREACHED → ⊥
    stays y hy u e = u (sym (p y hy ∙ kept G w (level + 1) now y u) ∙ e)

    again : (y : ℕ) → y < G.size → IsMarked G old now level y → IsMarked G old new level y
    again y hy m = record {
      w = m.w;
      row = m.row;
      from_level = m.from_level;
      joined = m.joined;
      is = p y hy ∙ kept G w (level + 1) now y (λ e. omega (arith, e, m.is, small)) ∙ m.is;
    }

    reached : (y : ℕ) → y < G.size → is_edge G w y ≡ true → get_or new y 0 ≡ UNREACHED → ⊥
    reached y hy j e = ⊎_elim
        (λ (v : get_or now y 0 ≡ UNREACHED). omega (arith, p y hy ∙ hit G w (level + 1) now y v j, e, small))
        (λ (v : get_or now y 0 ≡ UNREACHED → ⊥). stays y hy v e) (cases_eq (get_or now y 0) UNREACHED)

-- the points below w at a level have marked their neighbours
pub record IsAdvance (G : Graph) (old new : List ℕ) (level : ℕ) (grew : Bool) (w : ℕ) : Type 0 where
  pub next : IsNextLevel G old new level w
  pub fewer : unreached_count new + cond grew 1 0 ≤ unreached_count old
  pub same : IsTrue grew ⊎ (new ≡ old)

pub IsAdvance-skip : (G : Graph) (old now : List ℕ) (level : ℕ) (grew : Bool) (w : ℕ) → level + 1 < UNREACHED → (get_or now w 0 ≡ level → ⊥)
    → IsAdvance G old now level grew w → IsAdvance G old now level grew (w + 1)
IsAdvance-skip G old now level grew w small ne h = record { next = IsNextLevel-skip G old now level w small ne h.next; fewer = h.fewer; same = h.same }

-- a point that marks something
pub IsAdvance-more : (G : Graph) (old now new : List ℕ) (level : ℕ) (grew more : Bool) (w : ℕ) → level + 1 < UNREACHED → w < G.size → get_or now w 0 ≡ level
    → ((y : ℕ) → y < G.size → get_or new y 0 ≡ marked_level G w (level + 1) now y) → unreached_count new + cond more 1 0 ≤ unreached_count now → more ≡ true
    → IsAdvance G old now level grew w → IsAdvance G old new level true (w + 1)
IsAdvance-more G old now new level grew more w small hw at p fewer e h = record {
  next = IsNextLevel-more G old now new level w small hw at p h.next;
  fewer = let one : unit_of more ≡ 1 = ap unit_of e in omega (arith, h.fewer, fewer, one);
  same = inl refl;
}

-- where nothing is marked, the levels stay
pub still : (now new : List ℕ) (more : Bool) → more ≡ false → IsTrue more ⊎ (new ≡ now) → new ≡ now
still now new more e s = ⊎_elim (λ (t : more ≡ true). absurd (let z : false ≡ true = sym e ∙ t in cc)) (λ (q : new ≡ now). q) s

-- a point that marks nothing
pub IsAdvance-still : (G : Graph) (old now new : List ℕ) (level : ℕ) (grew more : Bool) (w : ℕ) → level + 1 < UNREACHED → w < G.size → get_or now w 0 ≡ level
    → ((y : ℕ) → y < G.size → get_or new y 0 ≡ marked_level G w (level + 1) now y) → IsTrue more ⊎ (new ≡ now) → more ≡ false
    → IsAdvance G old now level grew w → IsAdvance G old new level grew (w + 1)
IsAdvance-still G old now new level grew more w small hw at p s e h =
    let same : new ≡ now = still now new more e s in record {
      next = IsNextLevel-more G old now new level w small hw at p h.next;
      fewer = subst (λ xs. unreached_count xs + cond grew 1 0 ≤ unreached_count old) (sym same) h.fewer;
      same = subst (λ xs. IsTrue grew ⊎ (xs ≡ old)) (sym same) h.same;
    }
