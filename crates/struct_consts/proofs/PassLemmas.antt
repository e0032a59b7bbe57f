-- What the passes keep, pair by pair.
use Rattle.std.proofs.Common.{◌≡◌, ◌==◌, ℕ, ◌+◌, ◌*◌, ◌<◌, ◌≤◌, Bool, true, false, cond, List, [], ◌∷◌, ◌++◌, length, get_or, set, take, find, count_by, slice_get, Option, Some, None, unwrap_or, ⊎_elim, refl, sym, ap, subst, ◌∙◌, arith}
use Rattle.std.specs.Option.{option_or}
use Rattle.std.proofs.lemmas.Bool.{cases_eq, eq-eqb, ne_eqb}
use Rattle.std.proofs.lemmas.List.{length-set, get_or-set_same, get_or-set_other}
use Rattle.std.proofs.lemmas.List.Folds.{find-append}
use Rattle.std.proofs.lemmas.List.Sums.{count_by_more_yes, count_by_more_no, count_by-le-length, sum_by-take-le}
use Rattle.std.proofs.lemmas.Nat.{mul-le}
use Rattle.pair_colours.specs.declared.coloured_pairs.TheConstants.{MOST_POINTS}
use Rattle.pair_colours.specs.Colouring.{PairColouring, IsColouring, FitsColouring, colour_at}
use Rattle.pair_colours.specs.Naming.{walk}
use Rattle.pair_colours.proofs.FirstPair.{first_on}
use Rattle.pair_colours.proofs.ListLemmas.{take_more_at}
use Rattle.pair_colours.proofs.ListReads.{IsColour-at}
use Rattle.struct_consts.specs.ClassData.{HasColoursBelow}

find_push_no : {X : Type 0} (p : X → Bool) (xs : List X) (x : X) → p x ≡ false → find p (xs ++ x ∷ []) ≡ find p xs
find_push_no {X} p xs x e = find-append p xs (x ∷ []) ∙ ap (λ b. option_or (find p xs) (cond b (Some x) None)) e ∙ by (find p xs)
  where
    by : (o : Option X) → option_or o None ≡ o
    by None = refl
    by (Some y) = refl

find_push_yes : {X : Type 0} (p : X → Bool) (xs : List X) (x : X) → p x ≡ true → find p (xs ++ x ∷ []) ≡ Some (unwrap_or (find p xs) x)
find_push_yes {X} p xs x e = find-append p xs (x ∷ []) ∙ ap (λ b. option_or (find p xs) (cond b (Some x) None)) e ∙ by (find p xs)
  where
    by : (o : Option X) → option_or o (Some x) ≡ Some (unwrap_or o x)
    by None = refl
    by (Some y) = refl

-- of each class below n, its first pair on a part of the walk
pub record HasFirstOn (K : PairColouring) (n : ℕ) (ps : List (ℕ × ℕ)) (pairs : List (Option (ℕ × ℕ))) : Type 0 where
  pub len : length pairs ≡ n
  pub each : (k : ℕ) → k < n → get_or pairs k None ≡ first_on K k ps

HasFirstOn-push : (K : PairColouring) (n x y c : ℕ) (ps : List (ℕ × ℕ)) (pairs new : List (Option (ℕ × ℕ))) → c ≡ colour_at K x y → c < n
    → new ≡ set pairs c (Some (unwrap_or (get_or pairs c None) (x, y))) → HasFirstOn K n ps pairs → HasFirstOn K n (ps ++ (x, y) ∷ []) new
HasFirstOn-push K n x y c ps pairs new e l s h = record {
  len = ap length s ∙ length-set pairs c _ ∙ h.len;
  each = λ k m. ap (λ l. get_or l k None) s ∙ ⊎_elim (here k) (other k m) (cases_eq k c);
}
  where
    here : (k : ℕ) → k ≡ c → get_or (set pairs c (Some (unwrap_or (get_or pairs c None) (x, y)))) k None ≡ first_on K k (ps ++ (x, y) ∷ [])
    here k q =
        ap (λ z. get_or (set pairs c (Some (unwrap_or (get_or pairs c None) (x, y)))) z None) q
        ∙ get_or-set_same pairs c (Some (unwrap_or (get_or pairs c None) (x, y))) None (omega (arith, l, h.len))
        ∙ ap (λ o. Some (unwrap_or o (x, y))) (h.each c l)
        ∙ sym (find_push_yes (λ p. colour_at K p.0 p.1 == c) ps (x, y) (eq-eqb _ _ (sym e)))
        ∙ ap (λ z. first_on K z (ps ++ (x, y) ∷ [])) (sym q)

    other : (k : ℕ) → k < n → (k ≡ c → ⊥) → get_or (set pairs c (Some (unwrap_or (get_or pairs c None) (x, y)))) k None ≡ first_on K k (ps ++ (x, y) ∷ [])
    other k m ne =
        get_or-set_other pairs c k (Some (unwrap_or (get_or pairs c None) (x, y))) None ne
        ∙ h.each k m
        ∙ sym (find_push_no (λ p. colour_at K p.0 p.1 == k) ps (x, y) (ne_eqb _ _ (λ q. ne (sym q ∙ sym e))))

-- a step of the loop over the places of the walk
pub first_more : (K : PairColouring) (n m place c : ℕ) (p : ℕ × ℕ) (pairs new : List (Option (ℕ × ℕ))) → m ≡ K.size → slice_get (walk m) place ≡ Some p → c ≡ colour_at K p.0 p.1 → c < n
    → new ≡ set pairs c (Some (unwrap_or (get_or pairs c None) p)) → HasFirstOn K n (take place (walk K.size)) pairs → HasFirstOn K n (take (place + 1) (walk K.size)) new
first_more K n m place c p pairs new size at e l s h =
    subst (λ ps. HasFirstOn K n ps new) (sym (take_more_at (walk K.size) place p (ap (λ j. slice_get (walk j) place) (sym size) ∙ at)))
    (HasFirstOn-push K n p.0 p.1 c (take place (walk K.size)) pairs new e l s h)

-- of each class below n, the number of its pairs among the first places
pub record HasSizesTo (K : PairColouring) (n place : ℕ) (sizes : List ℕ) : Type 0 where
  pub len : length sizes ≡ n
  pub each : (k : ℕ) → k < n → get_or sizes k 0 ≡ count_by (λ colour. colour == k) (take place K.colours)

pub colour_low : (K : PairColouring) (n place : ℕ) → IsColouring K → HasColoursBelow K n → place < length K.colours → get_or K.colours place 0 < n
colour_low K n place a b l =
    let u = IsColour-at K a place l in subst (λ c. c < n) u.is (b.below u.x u.y u.row u.column)

pub sizes_more : (K : PairColouring) (n place c : ℕ) (sizes new : List ℕ) → place < length K.colours → c ≡ get_or K.colours place 0 → c < n
    → new ≡ set sizes c (get_or sizes c 0 + 1) → HasSizesTo K n place sizes → HasSizesTo K n (place + 1) new
sizes_more K n place c sizes new low at l s h = record {
  len = ap length s ∙ length-set sizes c _ ∙ h.len;
  each = λ k m. ap (λ ks. get_or ks k 0) s ∙ ⊎_elim (here k) (other k m) (cases_eq k c);
}
  where
    here : (k : ℕ) → k ≡ c → get_or (set sizes c (get_or sizes c 0 + 1)) k 0 ≡ count_by (λ colour. colour == k) (take (place + 1) K.colours)
    here k q =
        ap (λ z. get_or (set sizes c (get_or sizes c 0 + 1)) z 0) q
        ∙ get_or-set_same sizes c (get_or sizes c 0 + 1) 0 (omega (arith, l, h.len))
        ∙ ap (λ z. z + 1) (h.each c l)
        ∙ sym (count_by_more_yes (λ colour. colour == c) K.colours place 0 low (eq-eqb _ _ (sym at)))
        ∙ ap (λ z. count_by (λ colour. colour == z) (take (place + 1) K.colours)) (sym q)

    other : (k : ℕ) → k < n → (k ≡ c → ⊥) → get_or (set sizes c (get_or sizes c 0 + 1)) k 0 ≡ count_by (λ colour. colour == k) (take (place + 1) K.colours)
    other k m ne =
        get_or-set_other sizes c k (get_or sizes c 0 + 1) 0 ne
        ∙ h.each k m
        ∙ sym (count_by_more_no (λ colour. colour == k) K.colours place 0 low (ne_eqb _ _ (λ q. ne (sym q ∙ sym at))))

-- a count so far is small
pub size_small : (K : PairColouring) (k place : ℕ) → FitsColouring K → count_by (λ colour. colour == k) (take place K.colours) ≤ MOST_POINTS * MOST_POINTS
size_small K k place h =
    omega (
      arith,
      sum_by-take-le (λ colour. cond (colour == k) 1 0) K.colours place,
      count_by-le-length (λ colour. colour == k) K.colours,
      h.colouring.has_pairs,
      mul-le K.size K.size MOST_POINTS MOST_POINTS h.limit h.limit,
    )
