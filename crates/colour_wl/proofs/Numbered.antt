-- Classes that are numbered, one after another, by their keys: the numbers are a growth string.
use Rattle.std.proofs.Common.{◌≡◌, ℕ, suc, ◌+◌, ◌<◌, ◌≤◌, max, Bool, true, false, List, [], ◌∷◌, ◌++◌, length, get_or, slice_index, ⊎_elim, sym, ap, subst, ◌∙◌, arith, if◌then◌else◌}
use Rattle.std.specs.List.{list_any, position_or_len}
use Rattle.std.proofs.lemmas.Bool.{cases_Bool}
use Rattle.std.proofs.lemmas.List.{length_push, get_or_push, get_or_append_left}
use Rattle.std.proofs.lemmas.List.Sums.{passes_at_first}
use Rattle.pair_colours.proofs.NumberedLists.{IsNumbering, IsNumbering-more, any_position, none_position}
use Rattle.colour_wl.specs.GrowthStrings.{next_number, IsGrowth}
use Rattle.colour_wl.proofs.Growth.{next_number-push, IsGrowth-nil, IsGrowth-push}

-- a test tells whether k is the key of s
module _ {S V : Type 0} (tells : S → V → Bool) where
  -- the first m have the numbers of their keys
  pub record IsNumberedTo (at : ℕ → S) (keys : List V) (next : List ℕ) (m : ℕ) : Type 0 where
    pub growth : IsGrowth m next
    pub known : length keys ≡ next_number next
    pub numbers : IsNumbering tells at keys (λ k. get_or next k 0) m

  pub IsNumberedTo-start : (at : ℕ → S) (keys : List V) (next : List ℕ) → length keys ≡ 0 → next ≡ [] → IsNumberedTo at keys next 0
  IsNumberedTo-start at keys next k e = record {
    growth = subst (IsGrowth 0) (sym e) IsGrowth-nil;
    known = k ∙ ap next_number (sym e);
    numbers = record { few = omega (arith, k); known = λ j h. absurd (omega (arith, h)); is = λ j h. absurd (omega (arith, h)) };
  }

  pub IsNumberedTo-more : (at : ℕ → S) (keys new : List V) (next more : List ℕ) (m number : ℕ) (v : V) → IsNumberedTo at keys next m → tells (at m) v ≡ true
      → number ≡ position_or_len (tells (at m)) keys → new ≡ (if list_any (tells (at m)) keys then keys else keys ++ v ∷ [])
      → more ≡ next ++ number ∷ [] → IsNumberedTo at new more (m + 1)
  IsNumberedTo-more at keys new next more m number v h t n i e = record {
    growth =
        let q : suc m ≡ m + 1 = omega arith in
        subst (λ k. IsGrowth k more) q (subst (IsGrowth (suc m)) (sym e) (IsGrowth-push m next number h.growth (omega (arith, low, h.known))));
    known = ⊎_elim there absent (cases_Bool (list_any (tells (at m)) keys));
    numbers =
        IsNumbering-more tells at keys new (λ k. get_or next k 0) (λ k. get_or more k 0) m v h.numbers t i
        (λ k q. ap (λ l. get_or l k 0) e ∙ get_or_append_left next (number ∷ []) 0 k (omega (arith, q, h.growth.len)))
        (ap (λ l. get_or l m 0) e ∙ get_or_push next number 0 m h.growth.len ∙ n);
  }
    where
      low : number ≤ length keys
      low = ⊎_elim
          (λ f. omega (arith, n, any_position (tells (at m)) keys f))
          (λ f. omega (arith, n, none_position (tells (at m)) keys f))
          (cases_Bool (list_any (tells (at m)) keys))

      grown : next_number more ≡ max (next_number next) (number + 1)
      grown = ap next_number e ∙ next_number-push next number

      there : list_any (tells (at m)) keys ≡ true → length new ≡ next_number more
      there f =
          let same : new ≡ keys = i ∙ ap (λ b. if b then keys else keys ++ v ∷ []) f in
          omega (arith, ap length same, h.known, grown, n, any_position (tells (at m)) keys f)

      absent : list_any (tells (at m)) keys ≡ false → length new ≡ next_number more
      absent f =
          let same : new ≡ keys ++ v ∷ [] = i ∙ ap (λ b. if b then keys else keys ++ v ∷ []) f in
          omega (arith, ap length same, length_push keys v, h.known, grown, n, none_position (tells (at m)) keys f)

  shared : (keys : List V) (s t : S) → position_or_len (tells s) keys ≡ position_or_len (tells t) keys → position_or_len (tells s) keys < length keys → position_or_len (tells t) keys < length keys
      → (v : V) × (tells s v ≡ true) × (tells t v ≡ true)
  shared [] s t e l m = absurd (omega (arith, l))
  shared (v ∷ vs) s t e l m = (
    get_or (v ∷ vs) (position_or_len (tells t) (v ∷ vs)) v,
    subst (λ p. tells s (get_or (v ∷ vs) p v) ≡ true) e (passes_at_first (tells s) (v ∷ vs) v l),
    passes_at_first (tells t) (v ∷ vs) v m,
  )

  -- two of one number have a common key
  pub shared_key : (at : ℕ → S) (keys : List V) (next : List ℕ) (m : ℕ) → IsNumberedTo at keys next m → (i j : ℕ) → i < m → j < m → slice_index next i ≡ slice_index next j
      → (v : V) × (tells (at i) v ≡ true) × (tells (at j) v ≡ true)
  shared_key at keys next m h i j li lj e =
      shared keys (at i) (at j) (sym (h.numbers.is i li) ∙ e ∙ h.numbers.is j lj) (h.numbers.known i li) (h.numbers.known j lj)

  -- and two that are the same have one number
  pub same_number : (at : ℕ → S) (keys : List V) (next : List ℕ) (m : ℕ) → IsNumberedTo at keys next m → (i j : ℕ) → i < m → j < m → at i ≡ at j → slice_index next i ≡ slice_index next j
  same_number at keys next m h i j li lj e = h.numbers.is i li ∙ ap (λ s. position_or_len (tells s) keys) e ∙ sym (h.numbers.is j lj)
