-- Heads that are given colour by colour.
use Rattle.std.proofs.Common.{◌≡◌, ℕ, ◌+◌, ◌<◌, ◌≤◌, true, false, List, length, slice_index, get_or-set_same, get_or-set_other, ⊎_elim, refl, ap, subst, ◌∙◌, arith}
use Rattle.std.proofs.Math.ListN.{set, length-set}
use Rattle.std.proofs.lemmas.Bool.{cases_lt, both_ways}
use Rattle.visitors.specs.Masks.{is_member}
use Rattle.mergings.specs.Searches.{IsJoined}

-- the colours of the set of a mask below c got a head
pub record IsJoining (mask head c : ℕ) (old new : List ℕ) : Type 0 where
  pub len : length new ≡ length old
  pub own : (d : ℕ) → d < c → is_member mask d ≡ true → slice_index new d ≡ head
  pub others : (d : ℕ) → d < c → is_member mask d ≡ false → slice_index new d ≡ slice_index old d
  pub later : (d : ℕ) → c ≤ d → slice_index new d ≡ slice_index old d

module _ (mask head c : ℕ) (old new : List ℕ) (j : IsJoining mask head c old new) where
  pub joining_yes : is_member mask c ≡ true → c < length new → IsJoining mask head (c + 1) old (set new c head)
  joining_yes t inside = record {
    len = length-set new c head ∙ j.len;
    own = λ d l m. ⊎_elim
        (λ (k : d < c). before d k ∙ j.own d k m)
        (λ (k : c ≤ d). let e : d ≡ c = omega (arith, k, l) in ap (slice_index (set new c head)) e ∙ get_or-set_same new c head 0 inside)
        (cases_lt d c);
    others = λ d l m. ⊎_elim
        (λ (k : d < c). before d k ∙ j.others d k m)
        (λ (k : c ≤ d). let e : d ≡ c = omega (arith, k, l) in absurd (both_ways _ (subst (λ b. is_member mask b ≡ false) e m) t))
        (cases_lt d c);
    later = λ d l. after d (omega (arith, l)) ∙ j.later d (omega (arith, l));
  }
    where
      before : (d : ℕ) → d < c → slice_index (set new c head) d ≡ slice_index new d
      before d l = get_or-set_other new c d head 0 (λ e. omega (arith, e, l))

      after : (d : ℕ) → c < d → slice_index (set new c head) d ≡ slice_index new d
      after d l = get_or-set_other new c d head 0 (λ e. omega (arith, e, l))

  pub joining_no : is_member mask c ≡ false → IsJoining mask head (c + 1) old new
  joining_no f = record {
    len = j.len;
    own = λ d l m. ⊎_elim
        (λ (k : d < c). j.own d k m)
        (λ (k : c ≤ d). let e : d ≡ c = omega (arith, k, l) in absurd (both_ways _ f (subst (λ b. is_member mask b ≡ true) e m)))
        (cases_lt d c);
    others = λ d l m. ⊎_elim
        (λ (k : d < c). j.others d k m)
        (λ (k : c ≤ d). j.later d k)
        (cases_lt d c);
    later = λ d l. j.later d (omega (arith, l));
  }

  pub joined_all : IsJoined c mask head old new
  joined_all = record { len = j.len; own = j.own; others = j.others }

pub joining_none : (mask head : ℕ) (old : List ℕ) → IsJoining mask head 0 old old
joining_none mask head old = record {
  len = refl;
  own = λ d l. absurd (omega (arith, l));
  others = λ d l. absurd (omega (arith, l));
  later = λ d l. refl;
}
