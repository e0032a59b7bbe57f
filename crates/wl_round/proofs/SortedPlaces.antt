-- The places of a list in the order of the numbers there.
use Rattle.std.proofs.Common.{◌≡◌, ℕ, ◌/◌, ◌%◌, ◌^◌, ◌<◌, ◌≤◌, List, length, get_or, map, All, ⊎_elim, sym, ap, ◌∙◌, arith}
use Rattle.std.specs.List.{IsDistinct}
use Rattle.std.specs.List.Sorted.{IsPermutation, IsNonDecreasing}
use Rattle.std.proofs.Math.Dec.{eqb}
use Rattle.std.proofs.lemmas.Bool.{cases_eq, cases_order, eq-eqb, eqb-false, ne_eqb}
use Rattle.std.proofs.lemmas.List.{get_or_default}
use Rattle.std.proofs.lemmas.List.Sorted.{All-permutation, Contains-permutation, length_permutation}
use Rattle.std.proofs.lemmas.List.Elements.{Contains-get_or}
use Rattle.std.proofs.lemmas.Map.Keys.{IsDistinct-from_apart, IsDistinct-IsPermutation, apart_from_distinct}
use Rattle.std.proofs.lemmas.Nat.{div-mul-add, mod-mul-add}
use Rattle.pair_colours.specs.Colouring.{points}
use Rattle.pair_colours.specs.SideCodes.{code_of_pair}
use Rattle.wl_round.specs.Sorting.{AreSorted}
use Rattle.wl_round.specs.Sweeps.{ArePlacesBy, number_by}
use Rattle.wl_round.proofs.PlaceLists.{written_length, written_at}

-- the code of a place and the number there
abbrev pub code_at : List ℕ → ℕ → ℕ
code_at numbers p = code_of_pair (get_or numbers p 0) p

-- the place of a code
abbrev pub place_at : List ℕ → ℕ → ℕ
place_at codes a = get_or codes a 0 % 2 ^ 32

-- a test of equality may be turned
eqb_turned : (x y : ℕ) → eqb x y ≡ eqb y x
eqb_turned x y = ⊎_elim (λ e. eq-eqb x y e ∙ sym (eq-eqb y x (sym e))) (λ ne. ne_eqb x y ne ∙ sym (ne_eqb y x (λ e. ne (sym e)))) (cases_eq x y)

pub AreSorted-from : (numbers codes sorted : List ℕ) → length numbers < 2 ^ 31 → codes ≡ map (code_at numbers) (points (length numbers)) → IsPermutation codes sorted → IsNonDecreasing sorted → AreSorted numbers sorted
AreSorted-from numbers codes sorted small c moved up = record {
  len = length_permutation codes sorted moved ∙ size;
  rising = λ a b h l. up a b 0 (omega (arith, h)) l;
  apart = λ a b h l e. eqb-false _ _ (apart_from_distinct eqb sorted a b 0 distinct h l) e;
  inside = λ a l. (each_sorted a 0 l).0;
  is = λ a l. (each_sorted a 0 l).1;
  complete = λ p l.
      let low : p < length codes = omega (arith, l, size) in
      let a = Contains-permutation codes sorted (get_or codes p 0) moved (Contains-get_or codes p 0 low) in
      let at : get_or sorted a.0 0 ≡ code_at numbers p = get_or_default sorted a.0 0 (get_or codes p 0) a.1 ∙ a.2 ∙ code_is p 0 l in
      (a.0, a.1, ap (λ z. z % 2 ^ 32) at ∙ mod-mul-add (get_or numbers p 0) (2 ^ 32) p (omega (arith, l, small)));
}
  where
    size : length codes ≡ length numbers
    size = written_length (code_at numbers) (length numbers) codes c

    code_is : (p d : ℕ) → p < length numbers → get_or codes p d ≡ code_at numbers p
    code_is p d l = get_or_default codes p d 0 (omega (arith, l, size)) ∙ written_at (code_at numbers) (length numbers) p codes c l

    place_is : (p d : ℕ) → p < length numbers → get_or codes p d % 2 ^ 32 ≡ p
    place_is p d l = ap (λ z. z % 2 ^ 32) (code_is p d l) ∙ mod-mul-add (get_or numbers p 0) (2 ^ 32) p (omega (arith, l, small))

    distinct : IsDistinct eqb sorted
    distinct =
        IsDistinct-IsPermutation eqb eqb_turned codes sorted moved (IsDistinct-from_apart eqb codes (λ i j d h l.
        ne_eqb _ _ (λ e.
        let pi = place_is i d (omega (arith, h, l, size)) in
        let pj = place_is j d (omega (arith, l, size)) in
        let same : i ≡ j = sym pi ∙ ap (λ z. z % 2 ^ 32) e ∙ pj in
        omega (arith, h, same))))

    each_sorted : All (λ z. (z % 2 ^ 32 < length numbers) × (z / 2 ^ 32 ≡ get_or numbers (z % 2 ^ 32) 0)) sorted
    each_sorted =
        All-permutation (λ z. (z % 2 ^ 32 < length numbers) × (z / 2 ^ 32 ≡ get_or numbers (z % 2 ^ 32) 0)) codes sorted moved (λ p d l.
        let low : p < length numbers = omega (arith, l, size) in
        let m = place_is p d low in
        let v : get_or codes p d / 2 ^ 32 ≡ get_or numbers p 0 = ap (λ z. z / 2 ^ 32) (code_is p d low) ∙ div-mul-add (get_or numbers p 0) (2 ^ 32) p (omega (arith, low, small)) in
        (omega (arith, m, low), v ∙ ap (λ z. get_or numbers z 0) (sym m)))

-- equal halves make equal numbers
same_halves : (m n : ℕ) → m / 2 ^ 32 ≡ n / 2 ^ 32 → m % 2 ^ 32 ≡ n % 2 ^ 32 → m ≡ n
same_halves m n d r = omega (arith, d, r)

rising_halves : (m n : ℕ) → m ≤ n → m / 2 ^ 32 ≤ n / 2 ^ 32
rising_halves m n l = omega (arith, l)

pub ArePlacesBy-from : (numbers codes places : List ℕ) → AreSorted numbers codes → places ≡ map (place_at codes) (points (length codes)) → ArePlacesBy numbers places
ArePlacesBy-from numbers codes places s e = record {
  inside = λ a l. omega (arith, at a (low a l), s.inside a (low a l));
  rising = λ a b h l.
      let lb = low b l in
      let la : a < length codes = omega (arith, h, lb) in
      omega (arith, number_is a la, number_is b lb, rising_halves _ _ (s.rising a b h lb));
  distinct = λ a b la lb f. same a b (low a la) (low b lb) f;
  complete = λ p l.
      let u = s.complete p l in
      (u.0, omega (arith, u.1, size), at u.0 u.1 ∙ u.2);
}
  where
    size : length places ≡ length codes
    size = written_length (place_at codes) (length codes) places e

    low : (a : ℕ) → a < length places → a < length codes
    low a l = omega (arith, l, size)

    at : (a : ℕ) → a < length codes → get_or places a 0 ≡ get_or codes a 0 % 2 ^ 32
    at a l = written_at (place_at codes) (length codes) a places e l

    number_is : (a : ℕ) → a < length codes → number_by numbers places a ≡ get_or codes a 0 / 2 ^ 32
    number_is a l = ap (λ p. get_or numbers p 0) (at a l) ∙ sym (s.is a l)

    same : (a b : ℕ) → a < length codes → b < length codes → get_or places a 0 ≡ get_or places b 0 → a ≡ b
    same a b la lb f =
        let code : get_or codes a 0 ≡ get_or codes b 0 =
        same_halves (get_or codes a 0) (get_or codes b 0) (sym (number_is a la) ∙ ap (λ p. get_or numbers p 0) f ∙ number_is b lb) (sym (at a la) ∙ f ∙ at b lb) in
        ⊎_elim (λ q. q) (λ o. ⊎_elim (λ l. absurd (s.apart a b l lb code)) (λ l. absurd (s.apart b a l la (sym code))) o) (cases_order a b)
