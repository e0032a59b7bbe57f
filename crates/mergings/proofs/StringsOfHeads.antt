-- The string of heads, number by number.
use Rattle.std.proofs.Common.{◌≡◌, ◌↔◌, ℕ, ◌<◌, ◌≤◌, List, [], ◌∷◌, ◌++◌, length, slice_index, ⊎_elim, sym, ap, ◌∙◌, arith}
use Rattle.std.proofs.lemmas.Bool.{cases_lt}
use Rattle.std.proofs.lemmas.List.{length_push, get_or_push, get_or_append_left}
use Rattle.colour_wl.specs.GrowthStrings.{next_number}
use Rattle.colour_wl.proofs.Growth.{next_above}
use Rattle.mergings.specs.Searches.{AreHeads, IsOfHeads}

pub of_heads_none : (heads : List ℕ) → IsOfHeads heads []
of_heads_none heads = record { same = λ c d l m. absurd (omega (arith, l)) }

module _ (n : ℕ) (heads : List ℕ) (covered : ℕ) (string : List ℕ) (c number next : ℕ) (h : AreHeads n heads covered) (s : IsOfHeads heads string) (len : length string ≡ c) (inside : c < n) (e : next ≡ next_number string)
    (there : slice_index heads c < length string → number ≡ slice_index string (slice_index heads c)) (fresh : length string ≤ slice_index heads c → number ≡ next) where
  head_low : slice_index heads c ≤ c
  head_low = h.low c inside

  pub number_low : number ≤ next
  number_low = ⊎_elim
      (λ (l : slice_index heads c < length string). omega (arith, there l, next_above string (slice_index heads c) l, e))
      (λ (l : length string ≤ slice_index heads c). omega (arith, fresh l))
      (cases_lt (slice_index heads c) (length string))

  -- the new number beside an earlier one
  new_same : (d : ℕ) → d < length string → (number ≡ slice_index string d) ↔ (slice_index heads c ≡ slice_index heads d)
  new_same d m = ⊎_elim
      (λ (l : slice_index heads c < length string).
      let old = s.same (slice_index heads c) d l m in (
        λ q. sym (h.again c inside) ∙ old.0 (sym (there l) ∙ q),
        λ q. there l ∙ old.1 (h.again c inside ∙ q),
      ))
      (λ (l : length string ≤ slice_index heads c). (
        λ q. absurd (omega (arith, q, fresh l, next_above string d m, e)),
        λ q. absurd (omega (arith, q, l, h.low d (omega (arith, m, len, inside)), m)),
      ))
      (cases_lt (slice_index heads c) (length string))

  at_old : (d : ℕ) → d < length string → slice_index (string ++ number ∷ []) d ≡ slice_index string d
  at_old d m = get_or_append_left string (number ∷ []) 0 d m

  at_new : (d : ℕ) → length string ≡ d → slice_index (string ++ number ∷ []) d ≡ number
  at_new d m = get_or_push string number 0 d m

  pub of_heads_more : IsOfHeads heads (string ++ number ∷ [])
  of_heads_more = record {
    same = λ a b la lb.
        ⊎_elim
        (λ (ma : a < length string). ⊎_elim
        (λ (mb : b < length string). (
          λ q. (s.same a b ma mb).0 (sym (at_old a ma) ∙ q ∙ at_old b mb),
          λ q. at_old a ma ∙ (s.same a b ma mb).1 q ∙ sym (at_old b mb),
        ))
        (λ (mb : length string ≤ b).
        let eb : length string ≡ b = omega (arith, mb, lb, length_push string number) in
        let cb : c ≡ b = omega (arith, eb, len) in (
          λ q. sym ((new_same a ma).0 (sym (at_new b eb) ∙ sym q ∙ at_old a ma)) ∙ ap (slice_index heads) cb,
          λ q. at_old a ma ∙ sym ((new_same a ma).1 (ap (slice_index heads) cb ∙ sym q)) ∙ sym (at_new b eb),
        ))
        (cases_lt b (length string)))
        (λ (ma : length string ≤ a).
        let ea : length string ≡ a = omega (arith, ma, la, length_push string number) in
        let ca : c ≡ a = omega (arith, ea, len) in
        ⊎_elim
        (λ (mb : b < length string). (
          λ q. ap (slice_index heads) (sym ca) ∙ (new_same b mb).0 (sym (at_new a ea) ∙ q ∙ at_old b mb),
          λ q. at_new a ea ∙ (new_same b mb).1 (ap (slice_index heads) ca ∙ q) ∙ sym (at_old b mb),
        ))
        (λ (mb : length string ≤ b).
        let ab : a ≡ b = omega (arith, ea, mb, lb, length_push string number) in (
          λ q. ap (slice_index heads) ab,
          λ q. ap (slice_index (string ++ number ∷ [])) ab,
        ))
        (cases_lt b (length string)))
        (cases_lt a (length string));
  }
