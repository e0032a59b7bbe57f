-- Pairs marked one by one.
use Rattle.std.proofs.Common.{◌≡◌, ◌≢◌, ℕ, ◌+◌, ◌/◌, ◌%◌, ◌<◌, Bool, true, false, List, length, get_or, set, ⊎_elim, refl, sym, ap, subst, ◌∙◌, arith}
use Rattle.std.proofs.lemmas.Bool.{cases_eq}
use Rattle.std.proofs.lemmas.List.{length-set}
use Rattle.pair_colours.specs.Colouring.{PairColouring}
use Rattle.pair_colours.specs.Rounds.{Alike}
use Rattle.wl_round.specs.Comparing.{AlikeAt, AreAlike, HasUnlike, IsMarked}
use Rattle.wl_round.proofs.OneWrite.{one_write}

module _ (P : PairColouring) (members : List ℕ) where
  abbrev member : ℕ → ℕ
  member a = get_or members a 0

  abbrev IsLike : ℕ → Type 0
  IsLike a = AlikeAt P (member 0) (member a)

  like_itself : (a : ℕ) → member a ≡ member 0 → IsLike a
  like_itself a e = subst (λ q. AlikeAt P (member 0) q) (sym e) (record { diagonal = (λ d. d, λ d. d); own = refl; turned = refl; counts = λ i j. refl })

  -- the first t are marked
  pub record IsMarkedTo (t : ℕ) (old new : List ℕ) : Type 0 where
    pub len : length new ≡ length old
    pub others : (p : ℕ) → ((a : ℕ) → a < t → get_or members a 0 ≢ p) → get_or new p 0 ≡ get_or old p 0
    pub alike : (a : ℕ) → a < t → AlikeAt P (get_or members 0 0) (get_or members a 0) → get_or new (get_or members a 0) 0 ≡ 0
    pub unlike : (a : ℕ) → a < t → ¬ AlikeAt P (get_or members 0 0) (get_or members a 0) → get_or new (get_or members a 0) 0 ≡ 1

  pub IsMarkedTo-start : (old : List ℕ) → IsMarkedTo 0 old old
  IsMarkedTo-start old = record { len = refl; others = λ p h. refl; alike = λ a l. absurd (omega (arith, l)); unlike = λ a l. absurd (omega (arith, l)) }

  module _ (t : ℕ) (old new : List ℕ) (inside : member t < length new) (h : IsMarkedTo t old new) where
    others_more : (v p : ℕ) → ((a : ℕ) → a < t + 1 → member a ≢ p) → get_or (set new (member t) v) p 0 ≡ get_or old p 0
    others_more v p o =
        one_write (λ w. w ≡ get_or old p 0) new (member t) v p inside (λ e. absurd (o t (omega arith) (sym e))) (λ _. h.others p (λ a l. o a (omega (arith, l))))

    earlier : (a : ℕ) → a < t + 1 → member a ≢ member t → a < t
    earlier a l ne = let o : a ≢ t = λ e. ne (ap member e) in omega (arith, l, o)

    pub IsMarkedTo-like : IsLike t → IsMarkedTo (t + 1) old (set new (member t) 0)
    IsMarkedTo-like k = record {
      len = length-set new (member t) 0 ∙ h.len;
      others = others_more 0;
      alike = λ a l like. one_write (λ w. w ≡ 0) new (member t) 0 (member a) inside (λ _. refl) (λ ne. h.alike a (earlier a l ne) like);
      unlike = λ a l not_like. one_write (λ w. w ≡ 1) new (member t) 0 (member a) inside
          (λ e. absurd (not_like (subst (λ q. AlikeAt P (member 0) q) (sym e) k)))
          (λ ne. h.unlike a (earlier a l ne) not_like);
    }

    pub IsMarkedTo-unlike : ¬ IsLike t → IsMarkedTo (t + 1) old (set new (member t) 1)
    IsMarkedTo-unlike k = record {
      len = length-set new (member t) 1 ∙ h.len;
      others = others_more 1;
      alike = λ a l like. one_write (λ w. w ≡ 0) new (member t) 1 (member a) inside
          (λ e. absurd (k (subst (λ q. AlikeAt P (member 0) q) e like)))
          (λ ne. h.alike a (earlier a l ne) like);
      unlike = λ a l not_like. one_write (λ w. w ≡ 1) new (member t) 1 (member a) inside (λ _. refl) (λ ne. h.unlike a (earlier a l ne) not_like);
    }

  -- the first pair is alike to itself
  pub IsMarkedTo-first : (old : List ℕ) → member 0 < length old → IsMarkedTo 1 old (set old (member 0) 0)
  IsMarkedTo-first old inside = IsMarkedTo-like 0 old old inside (IsMarkedTo-start old) (like_itself 0 refl)

  pub IsMarked-from : (t : ℕ) (old new : List ℕ) → t ≡ length members → IsMarkedTo t old new → IsMarked P members old new
  IsMarked-from t old new e h = record {
    len = h.len;
    others = λ p o. h.others p (λ a l. o a (omega (arith, l, e)));
    alike = λ a l. h.alike a (omega (arith, l, e));
    unlike = λ a l. h.unlike a (omega (arith, l, e));
  }

  -- whether one of the first t is not alike
  pub record IsFoundTo (t : ℕ) (found : Bool) : Type 0 where
    pub yes : found ≡ true → (a : ℕ) × (a < t) × ¬ AlikeAt P (get_or members 0 0) (get_or members a 0)
    pub no_one : found ≡ false → (a : ℕ) → a < t → AlikeAt P (get_or members 0 0) (get_or members a 0)

  pub IsFoundTo-start : IsFoundTo 1 false
  IsFoundTo-start = record { yes = λ e. absurd (cc); no_one = λ _ a l. like_itself a (ap member (omega (arith, l))) }

  pub IsFoundTo-like : (t : ℕ) (found : Bool) → IsLike t → IsFoundTo t found → IsFoundTo (t + 1) found
  IsFoundTo-like t found k h = record {
    yes = λ e. let w = h.yes e in (w.0, omega (arith, w.1), w.2);
    no_one = λ e a l. ⊎_elim
        (λ same. subst (λ b. IsLike b) (sym same) k)
        (λ (ne : a ≢ t). h.no_one e a (omega (arith, l, ne)))
        (cases_eq a t);
  }

  pub IsFoundTo-unlike : (t : ℕ) → ¬ IsLike t → IsFoundTo (t + 1) true
  IsFoundTo-unlike t k = record { yes = λ _. (t, omega arith, k); no_one = λ e. absurd (cc) }

  pub HasUnlike-from : (t : ℕ) (old new : List ℕ) (found : Bool) → t ≡ length members → found ≡ true → IsMarkedTo t old new → IsFoundTo t found → HasUnlike P members new
  HasUnlike-from t old new found e is m f =
      let w = f.yes is in
      record { number = w.0; inside = omega (arith, w.1, e); marked = m.unlike w.0 w.1 w.2; unlike = w.2 }

  pub AreAlike-from : (t : ℕ) (found : Bool) → t ≡ length members → found ≡ false → IsFoundTo t found → AreAlike P members
  AreAlike-from t found e is f = record { alike = λ a l. f.no_one is a (omega (arith, l, e)) }

-- pairs of points and their places
pub alike_at : (P : PairColouring) (p q x y u v : ℕ) → x ≡ p / P.size → y ≡ p % P.size → u ≡ q / P.size → v ≡ q % P.size → Alike P x y u v → AlikeAt P p q
alike_at P p q x y u v ex ey eu ev a =
    subst (λ w. Alike P w (p % P.size) (q / P.size) (q % P.size)) ex
    (subst (λ w. Alike P x w (q / P.size) (q % P.size)) ey
    (subst (λ w. Alike P x y w (q % P.size)) eu
    (subst (λ w. Alike P x y u w) ev a)))

pub alike_pairs : (P : PairColouring) (p q x y u v : ℕ) → x ≡ p / P.size → y ≡ p % P.size → u ≡ q / P.size → v ≡ q % P.size → AlikeAt P p q → Alike P x y u v
alike_pairs P p q x y u v ex ey eu ev a =
    subst (λ w. Alike P w y u v) (sym ex)
    (subst (λ w. Alike P (p / P.size) w u v) (sym ey)
    (subst (λ w. Alike P (p / P.size) (p % P.size) w v) (sym eu)
    (subst (λ w. Alike P (p / P.size) (p % P.size) (q / P.size) w) (sym ev) a)))
