-- The least key, and the next ones.
use Rattle.std.proofs.Common.{◌≡◌, ◌≢◌, ◌&&◌, nat_lt, ℕ, ◌+◌, ◌<◌, ◌≤◌, false, cond, List, length, get_or, min, Option, Some, None, MatchOption, ⊎_elim, sym, ap, subst, ◌∙◌, arith}
use Rattle.std.proofs.lemmas.Bool.{cases_eq, cases_lt, lt-ltb, le-ltb}
use Rattle.std.proofs.lemmas.List.{get_or_past}
use Rattle.split_cells.specs.Counts.{Counts, IsTally}
use Rattle.split_cells.specs.Segments.{IsMembers}
use Rattle.split_cells.specs.Grids.{HasMember}
use Rattle.split_cells.specs.Keys.{IsKey, IsLeastKey, IsNext, nearer_of}

-- the least count of the first a members, which is one of theirs
pub record IsLeastTo (members counts : List ℕ) (a least : ℕ) : Type 0 where
  pub place : ℕ
  pub inside : place < length members
  pub is : get_or counts (get_or members place 0) 0 ≡ least
  pub lowest : (b : ℕ) → b < a → least ≤ get_or counts (get_or members b 0) 0

pub IsLeastTo-more : (members counts : List ℕ) (a least key new : ℕ) → a < length members → key ≡ get_or counts (get_or members a 0) 0 → new ≡ min least key
    → IsLeastTo members counts a least → IsLeastTo members counts (a + 1) new
IsLeastTo-more members counts a least key new l k m h =
    ⊎_elim
    (λ q. record { place = h.place; inside = h.inside; is = omega (arith, h.is, m, q); lowest = lowest })
    (λ q. record { place = a; inside = l; is = omega (arith, m, k, q); lowest = lowest })
    (cases_lt least key)
  where
    lowest : (b : ℕ) → b < a + 1 → new ≤ get_or counts (get_or members b 0) 0
    lowest b y = ⊎_elim
        (λ e. omega (arith, m, k, ap (λ z. get_or counts (get_or members z 0) 0) e))
        (λ (n : b ≢ a). omega (arith, m, h.lowest b (omega (arith, y, n))))
        (cases_eq b a)

module _ {class : List ℕ} {k : ℕ} {at : ℕ → ℕ} {members : List ℕ} (m : IsMembers class k at members) (counts : List ℕ) where
  -- a class with a pair has a first member
  pub some_member : HasMember class k → 0 < length members
  some_member h = omega (arith, m.listed h.number h.inside h.member)

  -- a member shows a key
  pub IsKey-at : (a key : ℕ) → a < length members → get_or counts (get_or members a 0) 0 ≡ key → IsKey class counts k key
  IsKey-at a key l is = record { number = get_or members a 0; inside = m.inside a l; member = m.member a l; is = is }

  pub IsLeastKey-from : (a least : ℕ) → length members ≤ a → IsLeastTo members counts a least → IsLeastKey class counts k least
  IsLeastKey-from a least e t = record {
    attained = IsKey-at t.place least t.inside t.is;
    least = λ p l is. omega (arith, t.lowest (at p) (omega (arith, m.listed p l is, e)), ap (λ q. get_or counts q 0) (m.is p l is));
  }

  pub IsLeastKey-zero : (a : ℕ) → a < length members → get_or counts (get_or members a 0) 0 ≡ 0 → IsLeastKey class counts k 0
  IsLeastKey-zero a l is = record { attained = IsKey-at a 0 l is; least = λ p l e. omega arith }

-- the least count above key, of the first a that are not 0
pub record IsNextTo (t : Counts) (key a next : ℕ) : Type 0 where
  pub above : key < next
  pub number : ℕ
  pub inside : number < length t.counts
  pub is : get_or t.counts number 0 ≡ next
  pub least : (b : ℕ) → b < a → key < get_or t.counts (get_or t.touched b 0) 0 → next ≤ get_or t.counts (get_or t.touched b 0) 0

abbrev pub IsAboveTo : Counts → ℕ → ℕ → Option ℕ → Type 0
IsAboveTo t key a above = MatchOption above ((b : ℕ) → b < a → get_or t.counts (get_or t.touched b 0) 0 ≤ key) (λ next. IsNextTo t key a next)

pub IsAboveTo-more : (t : Counts) (key a other : ℕ) (above : Option ℕ) → IsTally t → a < length t.touched → other ≡ get_or t.counts (get_or t.touched a 0) 0 → IsAboveTo t key a above → IsAboveTo t key (a + 1) (nearer_of above key other)
IsAboveTo-more t key a other None h l e g =
    ⊎_elim
    (λ q. subst (λ b. IsAboveTo t key (a + 1) (cond b (Some other) None)) (sym (lt-ltb key other q)) (record {
      above = q;
      number = get_or t.touched a 0;
      inside = h.members a l;
      is = sym e;
      least = λ b x y. ⊎_elim (λ f. omega (arith, e, ap (λ z. get_or t.counts (get_or t.touched z 0) 0) f)) (λ (n : b ≢ a). let w = g b (omega (arith, x, n)) in absurd (omega (arith, w, y))) (cases_eq b a);
    }))
    (λ q. subst (λ b. IsAboveTo t key (a + 1) (cond b (Some other) None)) (sym (le-ltb key other q))
    (λ b x. ⊎_elim (λ f. omega (arith, e, q, ap (λ z. get_or t.counts (get_or t.touched z 0) 0) f)) (λ (n : b ≢ a). g b (omega (arith, x, n))) (cases_eq b a)))
    (cases_lt key other)
IsAboveTo-more t key a other (Some least) h l e g =
    ⊎_elim
    (λ q. ⊎_elim (λ r. take q r) (λ r. keep (ap (λ b. b && nat_lt other least) (lt-ltb key other q) ∙ le-ltb other least r) (λ _. r)) (cases_lt other least))
    (λ q. keep (ap (λ b. b && nat_lt other least) (le-ltb key other q)) (λ z. absurd (omega (arith, q, z))))
    (cases_lt key other)
  where
    take : key < other → other < least → IsAboveTo t key (a + 1) (nearer_of (Some least) key other)
    take q r = subst (λ b. IsAboveTo t key (a + 1) (cond b (Some other) (Some least))) (sym (ap (λ b. b && nat_lt other least) (lt-ltb key other q) ∙ lt-ltb other least r)) (record {
      above = q;
      number = get_or t.touched a 0;
      inside = h.members a l;
      is = sym e;
      least = λ b x y. ⊎_elim (λ f. omega (arith, e, ap (λ z. get_or t.counts (get_or t.touched z 0) 0) f)) (λ (n : b ≢ a). let w = g.least b (omega (arith, x, n)) y in omega (arith, w, r)) (cases_eq b a);
    })

    keep : (nat_lt key other && nat_lt other least) ≡ false → (key < other → least ≤ other) → IsAboveTo t key (a + 1) (nearer_of (Some least) key other)
    keep none far = subst (λ b. IsAboveTo t key (a + 1) (cond b (Some other) (Some least))) (sym none) (record {
      above = g.above;
      number = g.number;
      inside = g.inside;
      is = g.is;
      least = λ b x y. ⊎_elim
          (λ f. let z = ap (λ z. get_or t.counts (get_or t.touched z 0) 0) f in let w = far (omega (arith, y, z, e)) in omega (arith, w, z, e))
          (λ (n : b ≢ a). g.least b (omega (arith, x, n)) y)
          (cases_eq b a);
    })

-- a count that is not 0 is that of one of them
pub touched_at : (t : Counts) → IsTally t → (p : ℕ) → 0 < get_or t.counts p 0 → (b : ℕ) × (b < length t.touched) × (get_or t.touched b 0 ≡ p)
touched_at t h p some =
    ⊎_elim (λ l. h.complete p l some) (λ l. absurd (omega (arith, some, get_or_past t.counts p 0 l))) (cases_lt p (length t.counts))

pub IsNext-from : (t : Counts) (key a next : ℕ) → IsTally t → length t.touched ≤ a → IsNextTo t key a next → IsNext t.counts key next
IsNext-from t key a next h e g = record {
  above = g.above;
  number = g.number;
  inside = g.inside;
  is = g.is;
  least = λ p l.
      let b = touched_at t h p (omega (arith, l)) in
      let at = ap (λ q. get_or t.counts q 0) b.2 in
      omega (arith, at, g.least b.0 (omega (arith, b.1, e)) (omega (arith, l, at)));
}

pub none_above : (t : Counts) (key a : ℕ) → IsTally t → length t.touched ≤ a → ((b : ℕ) → b < a → get_or t.counts (get_or t.touched b 0) 0 ≤ key) → (p : ℕ) → get_or t.counts p 0 ≤ key
none_above t key a h e g p =
    ⊎_elim
    (λ l. let b = touched_at t h p l in let w = g b.0 (omega (arith, b.1, e)) in omega (arith, w, ap (λ q. get_or t.counts q 0) b.2))
    (λ l. omega (arith, l))
    (cases_lt 0 (get_or t.counts p 0))
