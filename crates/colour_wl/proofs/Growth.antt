-- Growth strings: all of them are on the list, in lexicographic order.
use Rattle.std.proofs.Common.{◌≡◌, ◌⊎◌, ℕ, zero, suc, ◌+◌, ◌<◌, ◌≤◌, max, List, [], ◌∷◌, ◌++◌, length, get_or, take, drop, slice_index, inl, inr, ⊎_elim, refl, sym, ap, subst, ◌∙◌, arith}
use Rattle.std.proofs.lemmas.Bool.{cases_lt, cases_eq, cases_order}
use Rattle.std.proofs.lemmas.List.{length_push, get_or_push, get_or_append_left, take-append-le, take_at, length-take-le, get_or-take, take-take, take_more, take_all}
use Rattle.pair_colours.specs.Colouring.{points}
use Rattle.colour_wl.specs.GrowthStrings.{next_number, IsGrowth, growth_from, growth_strings, IsBefore}
use Rattle.pair_colours.proofs.SortedLists.{In, In-points, In-points_from, Ordered, Ordered-points}
use Rattle.colour_wl.proofs.Members.{In-flat_map, In-flat_map_from, Ordered-flat_map}

-- the next number is above all
pub next_above : (u : List ℕ) (k : ℕ) → k < length u → slice_index u k < next_number u
next_above [] k l = absurd (omega (arith, l))
next_above (x ∷ u) zero l = omega arith
next_above (x ∷ u) (suc k) l = omega (arith, next_above u k (omega (arith, l)))

pub next_number-push : (u : List ℕ) (v : ℕ) → next_number (u ++ v ∷ []) ≡ max (next_number u) (v + 1)
next_number-push [] v = omega arith
next_number-push (x ∷ u) v = omega (arith, next_number-push u v)

pub IsGrowth-nil : IsGrowth 0 []
IsGrowth-nil = record { len = refl; grows = λ i l. absurd (omega (arith, l)) }

pub IsGrowth-push : (n : ℕ) (a : List ℕ) (v : ℕ) → IsGrowth n a → v ≤ next_number a → IsGrowth (suc n) (a ++ v ∷ [])
IsGrowth-push n a v g h = record {
  len = omega (arith, length_push a v, g.len);
  grows = λ i l. ⊎_elim (low i) (high i l) (cases_lt i n);
}
  where
    low : (i : ℕ) → i < n → slice_index (a ++ v ∷ []) i ≤ next_number (take i (a ++ v ∷ []))
    low i m =
        let inside : i < length a = omega (arith, m, g.len) in
        omega (arith, g.grows i m, get_or_append_left a (v ∷ []) 0 i inside, ap next_number (take-append-le i a (v ∷ []) (omega (arith, inside))))

    high : (i : ℕ) → i < suc n → n ≤ i → slice_index (a ++ v ∷ []) i ≤ next_number (take i (a ++ v ∷ []))
    high i l m =
        let e : length a ≡ i = omega (arith, l, m, g.len) in
        omega (arith, h, get_or_push a v 0 i e, ap next_number (take_at a (v ∷ []) i e))

pub IsGrowth-take : (r n : ℕ) (a : List ℕ) → IsGrowth r a → n ≤ r → IsGrowth n (take n a)
IsGrowth-take r n a g l = record {
  len = length-take-le n a (omega (arith, g.len, l));
  grows = λ i m. omega (arith, g.grows i (omega (arith, m, l)), get_or-take n a i 0 m, ap next_number (take-take i n a (omega (arith, m))));
}

-- the order is strict
pub IsBefore-strict : (a : List ℕ) → IsBefore a a → ⊥
IsBefore-strict a h = absurd (omega (arith, h.less))

pub IsBefore-trans : (a b c : List ℕ) → IsBefore a b → IsBefore b c → IsBefore a c
IsBefore-trans a b c p q = ⊎_elim
    (λ (e : p.place ≡ q.place). record {
      place = p.place;
      same = λ i l. p.same i l ∙ q.same i (omega (arith, l, e));
      less = omega (arith, p.less, q.less, ap (slice_index b) e, ap (slice_index c) e);
    })
    (λ o. ⊎_elim
    (λ (l : p.place < q.place). record { place = p.place; same = λ i m. p.same i m ∙ q.same i (omega (arith, l, m)); less = omega (arith, p.less, q.same p.place l) })
    (λ (l : q.place < p.place). record { place = q.place; same = λ i m. p.same i (omega (arith, l, m)) ∙ q.same i m; less = omega (arith, q.less, p.same q.place l) })
    o)
    (cases_order p.place q.place)

pub list_same_or_not : (xs ys : List ℕ) → (xs ≡ ys) ⊎ (xs ≡ ys → ⊥)
list_same_or_not [] [] = inl refl
list_same_or_not [] (y ∷ ys) = inr (λ e. let z : 0 ≡ suc (length ys) = ap length e in omega (arith, z))
list_same_or_not (x ∷ xs) [] = inr (λ e. let z : suc (length xs) ≡ 0 = ap length e in omega (arith, z))
list_same_or_not (x ∷ xs) (y ∷ ys) = ⊎_elim
    (λ e. ⊎_elim (λ t. inl (λ i. e i ∷ t i)) (λ nt. inr (λ s. nt (ap (drop 1) s))) (list_same_or_not xs ys))
    (λ ne. inr (λ s. ne (ap (λ l. get_or l 0 0) s)))
    (cases_eq x y)

-- each string on the list begins as it is to begin
pub growth_begins : (n : ℕ) (u a : List ℕ) → In a (growth_from u n) → take (length u) a ≡ u
growth_begins zero u a h = ⊎_elim (λ e. ap (take (length u)) e ∙ take_all (length u) u (omega arith)) (λ i. absurd i) h
growth_begins (suc n) u a h =
    let r = In-flat_map_from (λ v. growth_from (u ++ v ∷ []) n) (points (next_number u + 1)) a h in
    let longer = growth_begins n (u ++ r.0 ∷ []) a r.2 in
    sym (take-take (length u) (length (u ++ r.0 ∷ [])) a (omega (arith, length_push u r.0)))
    ∙ ap (take (length u)) longer
    ∙ take_at u (r.0 ∷ []) (length u) refl

-- and is a growth string
pub growth_grows : (n : ℕ) (u a : List ℕ) → IsGrowth (length u) u → In a (growth_from u n) → IsGrowth (length u + n) a
growth_grows zero u a g h = ⊎_elim (λ e. let s : length u ≡ length u + 0 = omega arith in subst (λ m. IsGrowth m a) s (subst (IsGrowth (length u)) (sym e) g)) (λ i. absurd i) h
growth_grows (suc n) u a g h =
    let r = In-flat_map_from (λ v. growth_from (u ++ v ∷ []) n) (points (next_number u + 1)) a h in
    let small : r.0 ≤ next_number u = omega (arith, In-points_from (next_number u + 1) r.0 r.1) in
    let len : suc (length u) ≡ length (u ++ r.0 ∷ []) = omega (arith, length_push u r.0) in
    let again = growth_grows n (u ++ r.0 ∷ []) a (subst (λ m. IsGrowth m (u ++ r.0 ∷ [])) len (IsGrowth-push (length u) u r.0 g small)) r.2 in
    let sum : length (u ++ r.0 ∷ []) + n ≡ length u + suc n = omega (arith, len) in
    subst (λ m. IsGrowth m a) sum again

-- each growth string that begins so is on the list
pub growth_listed : (n : ℕ) (u a : List ℕ) → IsGrowth (length u + n) a → take (length u) a ≡ u → In a (growth_from u n)
growth_listed zero u a g e =
    inl (sym (take_all (length u) a (omega (arith, g.len))) ∙ e)
growth_listed (suc n) u a g e =
    let v : ℕ = slice_index a (length u) in
    let small : v ≤ next_number u = omega (arith, g.grows (length u) (omega arith), ap next_number e) in
    let len : length (u ++ v ∷ []) ≡ length u + 1 = length_push u v in
    let sum : length u + suc n ≡ length (u ++ v ∷ []) + n = omega (arith, len) in
    let begins : take (length (u ++ v ∷ [])) a ≡ u ++ v ∷ [] = ap (λ m. take m a) len ∙ take_more a (length u) 0 (omega (arith, g.len)) ∙ ap (λ l. l ++ v ∷ []) e in
    In-flat_map (λ w. growth_from (u ++ w ∷ []) n) (points (next_number u + 1)) v a
    (In-points (next_number u + 1) v (omega (arith, small)))
    (growth_listed n (u ++ v ∷ []) a (subst (λ m. IsGrowth m a) sum g) begins)

pub growth_strings_grow : (r : ℕ) (a : List ℕ) → In a (growth_strings r) → IsGrowth r a
growth_strings_grow r a h = let s : 0 + r ≡ r = omega arith in subst (λ m. IsGrowth m a) s (growth_grows r [] a IsGrowth-nil h)

pub growth_strings_listed : (r : ℕ) (a : List ℕ) → IsGrowth r a → In a (growth_strings r)
growth_strings_listed r a g = let s : r ≡ 0 + r = omega arith in growth_listed r [] a (subst (λ m. IsGrowth m a) s g) refl

-- strings that go on with different numbers
pub before_by_next : (u a b : List ℕ) (v w : ℕ) → take (length (u ++ v ∷ [])) a ≡ u ++ v ∷ [] → take (length (u ++ w ∷ [])) b ≡ u ++ w ∷ [] → v < w → IsBefore a b
before_by_next u a b v w ea eb l = record {
  place = length u;
  same = λ i m. low a v ea i m ∙ sym (low b w eb i m);
  less = omega (arith, l, own a v ea, own b w eb);
}
  where
    at : (c : List ℕ) (x : ℕ) → take (length (u ++ x ∷ [])) c ≡ u ++ x ∷ [] → (i : ℕ) → i < length u + 1 → slice_index c i ≡ slice_index (u ++ x ∷ []) i
    at c x e i m = sym (get_or-take (length (u ++ x ∷ [])) c i 0 (omega (arith, m, length_push u x))) ∙ ap (λ l. slice_index l i) e

    low : (c : List ℕ) (x : ℕ) → take (length (u ++ x ∷ [])) c ≡ u ++ x ∷ [] → (i : ℕ) → i < length u → slice_index c i ≡ slice_index u i
    low c x e i m = at c x e i (omega (arith, m)) ∙ get_or_append_left u (x ∷ []) 0 i m

    own : (c : List ℕ) (x : ℕ) → take (length (u ++ x ∷ [])) c ≡ u ++ x ∷ [] → slice_index c (length u) ≡ x
    own c x e = at c x e (length u) (omega arith) ∙ get_or_push u x 0 (length u) refl

-- the list is in lexicographic order
pub Ordered-growth_from : (n : ℕ) (u : List ℕ) → Ordered IsBefore (growth_from u n)
Ordered-growth_from zero u = (tt, tt)
Ordered-growth_from (suc n) u =
    Ordered-flat_map (λ v w. v < w) IsBefore (λ v. growth_from (u ++ v ∷ []) n) (points (next_number u + 1)) (Ordered-points (next_number u + 1))
    (λ v. Ordered-growth_from n (u ++ v ∷ []))
    (λ v w l a b i j. before_by_next u a b v w (growth_begins n (u ++ v ∷ []) a i) (growth_begins n (u ++ w ∷ []) b j) l)
