-- The parts of a class, one after the other.
use Rattle.std.proofs.Common.{◌≡◌, ◌≢◌, ◌==◌, ◌||◌, ◌&&◌, nat_lt, eqb, ℕ, ◌+◌, ◌-◌, ◌*◌, ◌/◌, ◌%◌, ◌<◌, ◌≤◌, Bool, true, false, cond, not, if◌then◌else◌, List, [], ◌∷◌, length, get_or, map, filter, count_by, ⊎_elim, refl, sym, ap, ◌∙◌, arith}
use Rattle.std.specs.List.{AllByRecursion, list_any}
use Rattle.std.proofs.lemmas.Bool.{cases_eq, cases_lt, eq-eqb, eqb-true, ne_eqb, lt-ltb, le-ltb}
use Rattle.std.proofs.lemmas.List.{ext_get_or}
use Rattle.std.proofs.lemmas.List.Folds.{list_any_at}
use Rattle.std.proofs.lemmas.Nat.{div-add-mod'}
use Rattle.std.proofs.lemmas.Map.Steps.{le-length_from_below}
use Rattle.pair_colours.specs.Naming.{walk, first_met}
use Rattle.pair_colours.proofs.Counts.{unit_of, count_by-cons}
use Rattle.pair_colours.proofs.ListLemmas.{Each-map, Each-weaker, list_any-map, list_any-filter, Each-passed}
use Rattle.pair_colours.proofs.Names.{InSquare, Each-first_met, Each-walk, list_any-walk}
use Rattle.pair_colours.proofs.Places.{place_below, row_below, column_below}
use Rattle.split_cells.specs.Counts.{Counts, IsTally}
use Rattle.split_cells.specs.Grids.{IsUsed, HasMember}
use Rattle.split_cells.specs.Keys.{IsKey, IsLeastKey, IsNext, counts_in}
use Rattle.split_cells.specs.Parts.{IsParted, part_from, smaller_counts}
use Rattle.split_cells.proofs.GatherLemmas.{some_size}
use Rattle.split_cells.proofs.KeyLemmas.{touched_at}

-- the members with this key among the first a that are touched have moved
pub record IsMovedTo (class0 counts touched : List ℕ) (bound key new a : ℕ) (class : List ℕ) : Type 0 where
  pub done : (b : ℕ) → b < a → get_or counts (get_or touched b 0) 0 ≡ key → get_or class (get_or touched b 0) 0 ≡ new
  pub still : (p : ℕ) → p < bound → ((b : ℕ) → b < a → get_or touched b 0 ≢ p) → get_or class p 0 ≡ get_or class0 p 0
  pub others : (p : ℕ) → p < bound → get_or counts p 0 ≢ key → get_or class p 0 ≡ get_or class0 p 0

pub IsMovedTo-hit : (class0 class class' : List ℕ) (t : Counts) (bound key new a p : ℕ) → IsTally t → a < length t.touched → p ≡ get_or t.touched a 0 → get_or t.counts p 0 ≡ key
    → get_or class' p 0 ≡ new → ((q : ℕ) → q ≢ p → get_or class' q 0 ≡ get_or class q 0)
    → IsMovedTo class0 t.counts t.touched bound key new a class → IsMovedTo class0 t.counts t.touched bound key new (a + 1) class'
IsMovedTo-hit class0 class class' t bound key new a p h l is k moved stayed m = record {
  done = λ b x e. ⊎_elim
      (λ f. ap (λ z. get_or class' (get_or t.touched z 0) 0) f ∙ ap (λ z. get_or class' z 0) (sym is) ∙ moved)
      (λ (n : b ≢ a).
      let lt : b < a = omega (arith, x, n) in
      stayed (get_or t.touched b 0) (λ z. h.distinct b a lt l (z ∙ is)) ∙ m.done b lt e)
      (cases_eq b a);
  still = λ q x ne. stayed q (λ z. ne a (omega arith) (sym is ∙ sym z)) ∙ m.still q x (λ b y. ne b (omega (arith, y)));
  others = λ q x ne. stayed q (λ z. ne (ap (λ w. get_or t.counts w 0) z ∙ k)) ∙ m.others q x ne;
}

pub IsMovedTo-miss : (class0 class : List ℕ) (t : Counts) (bound key new a p : ℕ) → p ≡ get_or t.touched a 0 → get_or t.counts p 0 ≢ key
    → IsMovedTo class0 t.counts t.touched bound key new a class → IsMovedTo class0 t.counts t.touched bound key new (a + 1) class
IsMovedTo-miss class0 class t bound key new a p is ne m = record {
  done = λ b x e. ⊎_elim
      (λ f. absurd (ne (ap (λ w. get_or t.counts w 0) (is ∙ ap (λ z. get_or t.touched z 0) (sym f)) ∙ e)))
      (λ (n : b ≢ a). m.done b (omega (arith, x, n)) e)
      (cases_eq b a);
  still = λ q x o. m.still q x (λ b y. o b (omega (arith, y)));
  others = m.others;
}

pub IsMovedTo-start : (class0 : List ℕ) (t : Counts) (bound key new : ℕ) → IsMovedTo class0 t.counts t.touched bound key new 0 class0
IsMovedTo-start class0 t bound key new = record {
  done = λ b x e. absurd (omega (arith, x));
  still = λ q x o. refl;
  others = λ q x o. refl;
}

-- the next one is where it was
pub not_moved : (class0 class : List ℕ) (t : Counts) (bound key new a p : ℕ) → IsTally t → a < length t.touched → p ≡ get_or t.touched a 0 → p < bound
    → IsMovedTo class0 t.counts t.touched bound key new a class → get_or class p 0 ≡ get_or class0 p 0
not_moved class0 class t bound key new a p h l is inside m = m.still p inside (λ b x e. h.distinct b a x l (e ∙ is))

pub all_moved : (class0 class : List ℕ) (t : Counts) (bound key new a : ℕ) → IsTally t → length t.touched ≤ a → 0 < key → IsMovedTo class0 t.counts t.touched bound key new a class
    → (p : ℕ) → get_or t.counts p 0 ≡ key → get_or class p 0 ≡ new
all_moved class0 class t bound key new a h e some m p k =
    let b = touched_at t h p (omega (arith, k, some)) in
    ap (λ z. get_or class z 0) (sym b.2) ∙ m.done b.0 (omega (arith, b.1, e)) (ap (λ z. get_or t.counts z 0) b.2 ∙ k)

-- counts over a list, by what holds of each element
count_sum : (p q r : ℕ → Bool) (ws : List ℕ) → AllByRecursion (λ w. unit_of (r w) ≡ unit_of (p w) + unit_of (q w)) ws → count_by r ws ≡ count_by p ws + count_by q ws
count_sum p q r [] a = refl
count_sum p q r (w ∷ ws) a = omega (arith, a.0, count_sum p q r ws a.1, count_by-cons p w ws, count_by-cons q w ws, count_by-cons r w ws)

count_zero : (p : ℕ → Bool) (ws : List ℕ) → AllByRecursion (λ w. p w ≡ false) ws → count_by p ws ≡ 0
count_zero p [] a = refl
count_zero p (w ∷ ws) a = omega (arith, count_zero p ws a.1, count_by-cons p w ws, ap unit_of a.0)

count_all : (p : ℕ → Bool) (ws : List ℕ) → AllByRecursion (λ w. p w ≡ true) ws → count_by p ws ≡ length ws
count_all p [] a = refl
count_all p (w ∷ ws) a = omega (arith, count_all p ws a.1, count_by-cons p w ws, ap unit_of a.0)

pub count_apart : (p q : ℕ → Bool) (ws : List ℕ) → AllByRecursion (λ w. unit_of (p w) + unit_of (q w) ≤ 1) ws → count_by p ws + count_by q ws ≤ length ws
count_apart p q [] a = omega arith
count_apart p q (w ∷ ws) a = omega (arith, a.0, count_apart p q ws a.1, count_by-cons p w ws, count_by-cons q w ws)

pub each : (P : ℕ → Type 0) → ((w : ℕ) → P w) → (ws : List ℕ) → AllByRecursion P ws
each P h [] = tt
each P h (w ∷ ws) = (h w, each P h ws)

count_filter_none : (p q : ℕ → Bool) → ((y : ℕ) → q y ≡ true → p y ≡ false) → (ys : List ℕ) → count_by p (filter q ys) ≡ 0
count_filter_none p q h [] = refl
count_filter_none p q h (y ∷ ys) = by (q y) refl (count_filter_none p q h ys)
  where
    by : (b : Bool) → q y ≡ b → count_by p (filter q ys) ≡ 0 → count_by p (cond b (y ∷ filter q ys) (filter q ys)) ≡ 0
    by true e again = omega (arith, again, count_by-cons p y (filter q ys), ap unit_of (h y e))
    by false e again = again

count_filter_same : (p q : ℕ → Bool) → ((y : ℕ) → q y ≡ false → p y ≡ false) → (ys : List ℕ) → count_by p (filter q ys) ≡ count_by p ys
count_filter_same p q h [] = refl
count_filter_same p q h (y ∷ ys) = by (q y) refl (count_filter_same p q h ys)
  where
    by : (b : Bool) → q y ≡ b → count_by p (filter q ys) ≡ count_by p ys → count_by p (cond b (y ∷ filter q ys) (filter q ys)) ≡ count_by p (y ∷ ys)
    by true e again = omega (arith, again, count_by-cons p y (filter q ys), count_by-cons p y ys)
    by false e again = omega (arith, again, count_by-cons p y ys, ap unit_of (h y e))

-- what is met is met once
pub met_once : (xs : List ℕ) (c : ℕ) → list_any (λ y. c == y) xs ≡ true → count_by (λ w. w == c) (first_met xs) ≡ 1
met_once [] c h = cc
met_once (x ∷ xs) c h = ⊎_elim here (there (met_once xs c)) (cases_eq x c)
  where
    here : x ≡ c → count_by (λ w. w == c) (first_met (x ∷ xs)) ≡ 1
    here e =
        let none = count_filter_none (λ w. w == c) (λ y. not (x == y)) (λ y q. ne_eqb y c (λ f. let z : not (x == y) ≡ false = ap not (eq-eqb x y (e ∙ sym f)) in cc)) (first_met xs) in
        omega (arith, none, count_by-cons (λ w. w == c) x (filter (λ y. not (x == y)) (first_met xs)), ap unit_of (eq-eqb x c e))

    there : (list_any (λ y. c == y) xs ≡ true → count_by (λ w. w == c) (first_met xs) ≡ 1) → x ≢ c → count_by (λ w. w == c) (first_met (x ∷ xs)) ≡ 1
    there again ne =
        let rest : list_any (λ y. c == y) xs ≡ true = sym (ap (λ b. b || list_any (λ y. c == y) xs) (ne_eqb c x (λ f. ne (sym f)))) ∙ h in
        let same = count_filter_same (λ w. w == c) (λ y. not (x == y)) (λ y q. ne_eqb y c (λ f. let z : not (x == y) ≡ true = ap not (ne_eqb x y (λ g. ne (g ∙ f))) in cc)) (first_met xs) in
        omega (arith, same, again rest, count_by-cons (λ w. w == c) x (filter (λ y. not (x == y)) (first_met xs)), ap unit_of (ne_eqb x c ne))

-- the keys of class k are met once each, and no others are met
module _ (n : ℕ) (class : List ℕ) (size : length class ≡ n * n) (counts : List ℕ) (k : ℕ) where
  abbrev pub keys : List ℕ
  keys = counts_in n class counts k

  -- how many keys are smaller
  abbrev pub below : ℕ → ℕ
  below c = smaller_counts n class counts k c

  -- the pairs of the class, and their counts
  abbrev in_class : ℕ × ℕ → Bool
  in_class p = get_or class (p.0 * n + p.1) 0 == k

  abbrev count_at : ℕ × ℕ → ℕ
  count_at p = get_or counts (p.0 * n + p.1) 0

  pub key_once : (c : ℕ) → IsKey class counts k c → count_by (λ w. w == c) keys ≡ 1
  key_once c h =
      let inside : h.number < n * n = omega (arith, h.inside, size) in
      let some = some_size n h.number inside in
      let back : h.number / n * n + h.number % n ≡ h.number = div-add-mod' h.number n in
      met_once (map count_at (filter in_class (walk n))) c
      (list_any-map (λ y. c == y) count_at (filter in_class (walk n))
      ∙ list_any-filter (λ p. c == count_at p) in_class (walk n)
      ∙ list_any-walk (λ p. in_class p && (c == count_at p)) n (h.number / n) (h.number % n) (row_below n h.number some inside) (column_below n h.number some)
      (λ i. eq-eqb _ k (ap (λ q. get_or class q 0) back ∙ h.member) i && eq-eqb c _ (sym h.is ∙ ap (λ q. get_or counts q 0) (sym back)) i))

  pub each_is_key : AllByRecursion (λ c. IsKey class counts k c) keys
  each_is_key =
      Each-first_met (λ c. IsKey class counts k c) (map count_at (filter in_class (walk n)))
      (Each-map (λ c. IsKey class counts k c) count_at (filter in_class (walk n))
      (Each-weaker (λ p. InSquare n p × (in_class p ≡ true)) (λ p. IsKey class counts k (count_at p))
      (λ p h. record { number = p.0 * n + p.1; inside = omega (arith, size, place_below n p.0 p.1 h.0.0 h.0.1); member = eqb-true _ k h.1; is = refl })
      (filter in_class (walk n))
      (Each-passed (InSquare n) in_class (walk n) (Each-walk n))))

  pub each_key : (P : ℕ → Type 0) → ((c : ℕ) → IsKey class counts k c → P c) → AllByRecursion P keys
  each_key P h = Each-weaker (λ c. IsKey class counts k c) P h keys each_is_key

  pub below_least : (c : ℕ) → IsLeastKey class counts k c → below c ≡ 0
  below_least c h = count_zero (λ w. nat_lt w c) keys (each_key (λ w. nat_lt w c ≡ false) (λ w q. le-ltb w c (omega (arith, h.least q.number q.inside q.member, q.is))))

  pub below_next : (c next : ℕ) → IsKey class counts k c → IsNext counts c next → below next ≡ below c + 1
  below_next c next h n =
      let sum = count_sum (λ w. nat_lt w c) (λ w. w == c) (λ w. nat_lt w next) keys (each_key (λ w. unit_of (nat_lt w next) ≡ unit_of (nat_lt w c) + unit_of (w == c)) (λ w q.
      ⊎_elim
      (λ l. let above = n.above in omega (arith, ap unit_of (lt-ltb w c l), ap unit_of (ne_eqb w c (λ e. omega (arith, e, l))), ap unit_of (lt-ltb w next (omega (arith, l, above)))))
      (λ l. ⊎_elim
      (λ e. let above = n.above in omega (arith, ap unit_of (le-ltb w c l), ap unit_of (eq-eqb w c e), ap unit_of (lt-ltb w next (omega (arith, e, above)))))
      (λ (ne : w ≢ c).
      let far = n.least q.number (omega (arith, q.is, l, ne)) in
      omega (arith, ap unit_of (le-ltb w c l), ap unit_of (ne_eqb w c ne), ap unit_of (le-ltb w next (omega (arith, far, q.is)))))
      (cases_eq w c))
      (cases_lt w c))) in
      omega (arith, sum, key_once c h)

  -- whether there are two
  pub two_keys : (c : ℕ) → IsKey class counts k c → 0 < below c → 2 ≤ length keys
  two_keys c h some =
      let apart = count_apart (λ w. nat_lt w c) (λ w. w == c) keys (each (λ w. unit_of (nat_lt w c) + unit_of (w == c) ≤ 1) (λ w.
      ⊎_elim
      (λ l. omega (arith, ap unit_of (lt-ltb w c l), ap unit_of (ne_eqb w c (λ e. omega (arith, e, l)))))
      (λ l. ⊎_elim (λ e. omega (arith, ap unit_of (le-ltb w c l), ap unit_of (eq-eqb w c e))) (λ ne. omega (arith, ap unit_of (le-ltb w c l), ap unit_of (ne_eqb w c ne))) (cases_eq w c))
      (cases_lt w c)) keys) in
      omega (arith, apart, key_once c h, some)

  pub below_idle : (c : ℕ) → IsKey class counts k c → length keys < 2 → below c ≡ 0
  below_idle c h few = ⊎_elim (λ some. let two = two_keys c h some in absurd (omega (arith, two, few))) (λ none. omega (arith, none)) (cases_lt 0 (below c))

  pub one_key : (c : ℕ) → IsKey class counts k c → below c ≡ 0 → ((p : ℕ) → get_or counts p 0 ≤ c) → length keys < 2
  one_key c h none top =
      let sum = count_sum (λ w. nat_lt w c) (λ w. w == c) (λ w. true) keys (each_key (λ w. unit_of true ≡ unit_of (nat_lt w c) + unit_of (w == c)) (λ w q.
      ⊎_elim
      (λ l. omega (arith, ap unit_of (lt-ltb w c l), ap unit_of (ne_eqb w c (λ e. omega (arith, e, l)))))
      (λ l. let low = top q.number in omega (arith, ap unit_of (le-ltb w c l), ap unit_of (eq-eqb w c (omega (arith, l, low, q.is)))))
      (cases_lt w c))) in
      omega (arith, sum, count_all (λ w. true) keys (each (λ w. true ≡ true) (λ w. refl) keys), key_once c h, none)

-- the parts with keys up to `key` are made
pub record IsPartedTo (n : ℕ) (class0 counts : List ℕ) (k rank0 key : ℕ) (class : List ℕ) (rank : ℕ) : Type 0 where
  pub len : length class ≡ length class0
  pub others : (p : ℕ) → p < length class0 → get_or class0 p 0 ≢ k → get_or class p 0 ≡ get_or class0 p 0
  pub parts : (p : ℕ) → p < length class0 → get_or class0 p 0 ≡ k → get_or counts p 0 ≤ key → get_or class p 0 ≡ part_from rank0 k (smaller_counts n class0 counts k (get_or counts p 0))
  pub rest : (p : ℕ) → p < length class0 → get_or class0 p 0 ≡ k → key < get_or counts p 0 → get_or class p 0 ≡ k
  pub rank_is : rank ≡ rank0 + smaller_counts n class0 counts k key
  pub is_key : IsKey class0 counts k key
  pub first : HasMember class0 k
  pub first_low : get_or counts first.number 0 ≤ key
  pub first_least : smaller_counts n class0 counts k (get_or counts first.number 0) ≡ 0

module _ (n : ℕ) (class0 : List ℕ) (size0 : length class0 ≡ n * n) (counts : List ℕ) (k rank0 : ℕ) where
  part_zero : (m : ℕ) → m ≡ 0 → part_from rank0 k m ≡ k
  part_zero m e = ap (λ b. if b then k else rank0 + (m - 1)) (eq-eqb m 0 e)

  part_more : (m : ℕ) → part_from rank0 k (m + 1) ≡ rank0 + m
  part_more m =
      let none : (m + 1 == 0) ≡ false = ne_eqb (m + 1) 0 (λ e. omega (arith, e)) in
      let same : rank0 + (m + 1 - 1) ≡ rank0 + m = omega arith in
      ap (λ b. if b then k else rank0 + (m + 1 - 1)) none ∙ same

  pub IsPartedTo-start : (key : ℕ) → IsLeastKey class0 counts k key → IsPartedTo n class0 counts k rank0 key class0 rank0
  IsPartedTo-start key h = record {
    len = refl;
    others = λ p l ne. refl;
    parts = λ p l e low.
        let same : get_or counts p 0 ≡ key = omega (arith, low, h.least p l e) in
        e ∙ sym (part_zero (below n class0 size0 counts k (get_or counts p 0)) (ap (below n class0 size0 counts k) same ∙ below_least n class0 size0 counts k key h));
    rest = λ p l e high. e;
    rank_is = omega (arith, below_least n class0 size0 counts k key h);
    is_key = h.attained;
    first = record { number = h.attained.number; inside = h.attained.inside; member = h.attained.member };
    first_low = omega (arith, h.attained.is);
    first_least = ap (below n class0 size0 counts k) h.attained.is ∙ below_least n class0 size0 counts k key h;
  }

  module _ (outside : (p : ℕ) → p < length class0 → get_or class0 p 0 ≢ k → get_or counts p 0 ≡ 0) (size : length counts ≡ length class0) where
    -- a count that is not 0 is one of class k
    pub counted_in : (p : ℕ) → p < length class0 → 0 < get_or counts p 0 → get_or class0 p 0 ≡ k
    counted_in p l some = ⊎_elim (λ e. e) (λ ne. let z = outside p l ne in absurd (omega (arith, z, some))) (cases_eq (get_or class0 p 0) k)

    pub waits : (key next rank : ℕ) (class : List ℕ) → IsPartedTo n class0 counts k rank0 key class rank → IsNext counts key next → (p : ℕ) → p < length class0 → get_or counts p 0 ≡ next → get_or class p 0 ≡ k
    waits key next rank class h next_is p l e =
        let above = next_is.above in
        h.rest p l (counted_in p l (omega (arith, e, above))) (omega (arith, e, above))

    module _ (key next rank : ℕ) (class class' : List ℕ) (h : IsPartedTo n class0 counts k rank0 key class rank) (next_is : IsNext counts key next) (len' : length class' ≡ length class0)
        (moved : (p : ℕ) → p < length class0 → get_or counts p 0 ≡ next → get_or class' p 0 ≡ rank)
        (stayed : (p : ℕ) → p < length class0 → get_or counts p 0 ≢ next → get_or class' p 0 ≡ get_or class p 0) where
      pub IsPartedTo-more : IsPartedTo n class0 counts k rank0 next class' (rank + 1)
      IsPartedTo-more = record {
        len = len';
        others = λ p l ne. let z = outside p l ne in let above = next_is.above in stayed p l (λ e. omega (arith, e, z, above)) ∙ h.others p l ne;
        parts = λ p l is low. ⊎_elim
            (λ e. moved p l e ∙ h.rank_is ∙ sym (part_more (below n class0 size0 counts k key)) ∙ ap (part_from rank0 k) (sym (ap (below n class0 size0 counts k) e ∙ more)))
            (λ ne. stayed p l ne ∙ h.parts p l is (near p low ne))
            (cases_eq (get_or counts p 0) next);
        rest = λ p l is high. let above = next_is.above in stayed p l (λ e. omega (arith, e, high)) ∙ h.rest p l is (omega (arith, high, above));
        rank_is = omega (arith, h.rank_is, more);
        is_key = record { number = next_is.number; inside = n_in; member = counted_in next_is.number n_in (omega (arith, next_is.is, next_is.above)); is = next_is.is };
        first = h.first;
        first_low = omega (arith, h.first_low, next_is.above);
        first_least = h.first_least;
      }
        where
          more : below n class0 size0 counts k next ≡ below n class0 size0 counts k key + 1
          more = below_next n class0 size0 counts k key next h.is_key next_is

          n_in : next_is.number < length class0
          n_in = omega (arith, next_is.inside, size)

          near : (p : ℕ) → get_or counts p 0 ≤ next → get_or counts p 0 ≢ next → get_or counts p 0 ≤ key
          near p low ne = ⊎_elim (λ l. let far = next_is.least p l in absurd (omega (arith, far, low, ne))) (λ l. omega (arith, l)) (cases_lt key (get_or counts p 0))

      pub IsUsed-more : IsUsed class rank → IsUsed class' (rank + 1)
      IsUsed-more used c l = ⊎_elim is_new is_old (cases_eq c rank)
        where
          is_new : c ≡ rank → HasMember class' c
          is_new e =
              let n_in : next_is.number < length class0 = omega (arith, next_is.inside, size) in
              record { number = next_is.number; inside = omega (arith, n_in, len'); member = moved next_is.number n_in next_is.is ∙ sym e }

          is_old : c ≢ rank → HasMember class' c
          is_old ne = ⊎_elim
              (λ e.
              let p = h.first.number in
              let low = h.first_low in
              let above = next_is.above in
              record {
                number = p;
                inside = omega (arith, h.first.inside, len');
                member = stayed p h.first.inside (λ f. omega (arith, f, low, above)) ∙ h.parts p h.first.inside h.first.member low ∙ part_zero _ h.first_least ∙ sym e;
              })
              (λ other.
              let u = used c (omega (arith, l, ne)) in
              let inside : u.number < length class0 = omega (arith, u.inside, h.len) in
              record {
                number = u.number;
                inside = omega (arith, inside, len');
                member = stayed u.number inside (λ f. other (sym u.member ∙ waits key next rank class h next_is u.number inside f)) ∙ u.member;
              })
              (cases_eq c k)

  pub IsParted-from : (key rank : ℕ) (class : List ℕ) → IsPartedTo n class0 counts k rank0 key class rank → ((p : ℕ) → get_or counts p 0 ≤ key) → IsParted n class0 counts k rank0 class
  IsParted-from key rank class h top = record {
    len = h.len;
    others = h.others;
    parts = λ p l e. h.parts p l e (top p);
  }

-- one part alone is the class
pub IsParted-idle : (n : ℕ) (class : List ℕ) → length class ≡ n * n → (counts new : List ℕ) (k r : ℕ) → length (counts_in n class counts k) < 2 → IsParted n class counts k r new → new ≡ class
IsParted-idle n class size counts new k r few h =
    ext_get_or 0 new class h.len (λ p l.
    let inside : p < length class = omega (arith, l, h.len) in
    ⊎_elim
    (λ e.
    let none = below_idle n class size counts k (get_or counts p 0) (record { number = p; inside = inside; member = e; is = refl }) few in
    h.parts p inside e ∙ part_zero n class size counts k r (below n class size counts k (get_or counts p 0)) none ∙ sym e)
    (λ ne. h.others p inside ne)
    (cases_eq (get_or class p 0) k))

-- there are no more used numbers than pairs
pub IsUsed-few : (class : List ℕ) (rank : ℕ) → IsUsed class rank → rank ≤ length class
IsUsed-few class rank used =
    le-length_from_below class rank (λ q l. let u = used q l in list_any_at (eqb q) class u.number 0 u.inside (eq-eqb q (get_or class u.number 0) (sym u.member)))
