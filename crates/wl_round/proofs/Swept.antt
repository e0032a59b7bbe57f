-- The classes of a colouring, swept run by run.
use Rattle.std.proofs.Common.{◌≡◌, ◌≢◌, ℕ, ◌+◌, ◌-◌, ◌*◌, ◌/◌, ◌%◌, ◌<◌, ◌≤◌, Bool, true, false, List, length, get_or, take, drop, ◌⊎◌, inl, inr, ⊎_elim, refl, sym, ap, subst, ◌∙◌, arith}
use Rattle.std.specs.Bool.{OnTrue, OnFalse}
use Rattle.std.proofs.lemmas.Bool.{cases_Bool, cases_lt, OnTrue_at, OnFalse_at}
use Rattle.std.proofs.lemmas.List.{get_or-drop, get_or-take, length-take, length-drop}
use Rattle.std.proofs.lemmas.Nat.{div-mul-add, mod-mul-add, div-add-mod'}
use Rattle.pair_colours.specs.Colouring.{PairColouring, colour_at}
use Rattle.pair_colours.specs.Rounds.{Alike, alike}
use Rattle.pair_colours.proofs.Exists.{Decides-alike}
use Rattle.pair_colours.proofs.Places.{place_below, row_below, column_below}
use Rattle.wl_round.specs.Comparing.{AlikeAt, AreAlike, HasUnlike, IsMarked}
use Rattle.wl_round.specs.Sweeps.{AllAlike, AreMarks, ArePlacesBy, IsParting, IsRun, IsRunMarked, number_by}

pub AlikeAt-refl : (P : PairColouring) (p : ℕ) → AlikeAt P p p
AlikeAt-refl P p = record { diagonal = (λ d. d, λ d. d); own = refl; turned = refl; counts = λ i j. refl }

AlikeAt-sym : (P : PairColouring) (p q : ℕ) → AlikeAt P p q → AlikeAt P q p
AlikeAt-sym P p q a = record { diagonal = (a.diagonal.1, a.diagonal.0); own = sym a.own; turned = sym a.turned; counts = λ i j. sym (a.counts i j) }

AlikeAt-trans : (P : PairColouring) (p q r : ℕ) → AlikeAt P p q → AlikeAt P q r → AlikeAt P p r
AlikeAt-trans P p q r a b =
    record { diagonal = (λ d. b.diagonal.0 (a.diagonal.0 d), λ d. a.diagonal.1 (b.diagonal.1 d)); own = a.own ∙ b.own; turned = a.turned ∙ b.turned; counts = λ i j. a.counts i j ∙ b.counts i j }

-- places that are the same
AlikeAt-at : (P : PairColouring) (p q r s : ℕ) → p ≡ r → q ≡ s → AlikeAt P p q → AlikeAt P r s
AlikeAt-at P p q r s e f a = subst (λ z. AlikeAt P z s) e (subst (AlikeAt P p) f a)

-- two pairs are alike or not
alike_or_not : (P : PairColouring) (p q : ℕ) → AlikeAt P p q ⊎ ¬ AlikeAt P p q
alike_or_not P p q =
    let d = Decides-alike P (p / P.size) (p % P.size) (q / P.size) (q % P.size) in
    ⊎_elim (λ (e : alike P (p / P.size) (p % P.size) (q / P.size) (q % P.size) ≡ true). inl (d.0 e)) (λ e. inr (λ a. differ _ (d.1 a) e)) (cases_Bool (alike P (p / P.size) (p % P.size) (q / P.size) (q % P.size)))
  where
    differ : (b : Bool) → b ≡ true → b ≡ false → ⊥
    differ b e f = cc

module _ (P : PairColouring) (members old : List ℕ) where
  -- one pair alone
  pub IsRunMarked-one : length members ≡ 1 → IsRunMarked P members old old false
  IsRunMarked-one e = record {
    others = λ p ne. refl;
    together = λ a b la lb h. ap (λ z. get_or old (get_or members z 0) 0) (first a la ∙ sym (first b lb));
    all = λ t a b la lb. AlikeAt-at P (get_or members a 0) (get_or members a 0) (get_or members a 0) (get_or members b 0) refl (ap (λ z. get_or members z 0) (first a la ∙ sym (first b lb))) (AlikeAt-refl P (get_or members a 0));
    some = λ t. absurd (cc);
  }
    where
      first : (a : ℕ) → a < length members → a ≡ 0
      first a l = omega (arith, l, e)

  -- pairs compared with the first
  pub IsRunMarked-from : (new : List ℕ) (two : Bool) → 0 < length members → IsMarked P members old new → OnTrue two (HasUnlike P members new) → OnFalse two (AreAlike P members) → IsRunMarked P members old new two
  IsRunMarked-from new two some m one none = record {
    others = m.others;
    together = λ a b la lb h. ⊎_elim
        (λ fa. m.alike a la fa ∙ sym (m.alike b lb (AlikeAt-trans P (get_or members 0 0) (get_or members a 0) (get_or members b 0) fa h)))
        (λ na. m.unlike a la na ∙ sym (m.unlike b lb (λ fb. na (AlikeAt-trans P (get_or members 0 0) (get_or members b 0) (get_or members a 0) fb (AlikeAt-sym P (get_or members a 0) (get_or members b 0) h)))))
        (alike_or_not P (get_or members 0 0) (get_or members a 0));
    all = λ t a b la lb.
        let each = OnFalse_at t none in
        AlikeAt-trans P (get_or members a 0) (get_or members 0 0) (get_or members b 0) (AlikeAt-sym P (get_or members 0 0) (get_or members a 0) (each.alike a la)) (each.alike b lb);
    some = λ t.
        let other = OnTrue_at t one in
        record {
          first = 0;
          second = other.number;
          first_in = some;
          second_in = other.inside;
          differ = λ e.
              let zero_mark = m.alike 0 some (AlikeAt-refl P (get_or members 0 0)) in
              let one_mark = m.unlike other.number other.inside other.unlike in
              omega (arith, zero_mark, one_mark, e);
        };
  }

-- the places from start up to end
pub slice_length : (places : List ℕ) (start end : ℕ) → start < end → end ≤ length places → length (take (end - start) (drop start places)) + start ≡ end
slice_length places start end l h = omega (arith, length-take (end - start) (drop start places), length-drop start places, l, h)

pub slice_at : (places : List ℕ) (start end : ℕ) → start < end → end ≤ length places
    → (a : ℕ) → a < length (take (end - start) (drop start places)) → get_or (take (end - start) (drop start places)) a 0 ≡ get_or places (start + a) 0
slice_at places start end l h a m =
    get_or-take (end - start) (drop start places) a 0 (omega (arith, m, slice_length places start end l h)) ∙ get_or-drop start places a 0

-- two places among the first t, of one number and with different marks
pub record IsPartedTo (numbers places : List ℕ) (t : ℕ) (marks : List ℕ) : Type 0 where
  pub first : ℕ
  pub second : ℕ
  pub first_in : first < t
  pub second_in : second < t
  pub same : number_by numbers places first ≡ number_by numbers places second
  pub differ : number_by marks places first ≢ number_by marks places second

-- the first t places, which end with a run, are marked
pub record IsSweptTo (P : PairColouring) (numbers places : List ℕ) (t : ℕ) (marks : List ℕ) (found : Bool) : Type 0 where
  pub together : (a b : ℕ) → a < t → b < t → number_by numbers places a ≡ number_by numbers places b → AlikeAt P (get_or places a 0) (get_or places b 0)
      → number_by marks places a ≡ number_by marks places b
  pub all : found ≡ false → (a b : ℕ) → a < t → b < t → number_by numbers places a ≡ number_by numbers places b → AlikeAt P (get_or places a 0) (get_or places b 0)
  pub some : found ≡ true → IsPartedTo numbers places t marks
  pub edge : (a b : ℕ) → a < t → t ≤ b → b < length places → number_by numbers places a ≢ number_by numbers places b

pub IsSweptTo-start : (P : PairColouring) (numbers places marks : List ℕ) → IsSweptTo P numbers places 0 marks false
IsSweptTo-start P numbers places marks = record {
  together = λ a b la lb e h. absurd (omega (arith, la));
  all = λ f a b la lb e. absurd (omega (arith, la));
  some = λ t. absurd (cc);
  edge = λ a b la lb l e. omega (arith, la);
}

module _ (P : PairColouring) (numbers places : List ℕ) (order : ArePlacesBy numbers places) (t end : ℕ) (run : IsRun numbers places t end) (marks : List ℕ) (found : Bool) (h : IsSweptTo P numbers places t marks found)
    (members : List ℕ) (len : length members + t ≡ end) (is : (a : ℕ) → a < length members → get_or members a 0 ≡ get_or places (t + a) 0) where
  abbrev place : ℕ → ℕ
  place a = get_or places a 0

  -- where a place of the run stands among its members
  in_run : (a : ℕ) → t ≤ a → a < end → (j : ℕ) × (j < length members) × (get_or members j 0 ≡ place a)
  in_run a l m =
      let j : ℕ = a - t in
      let low : j < length members = omega (arith, l, m, len) in
      let back : t + j ≡ a = omega (arith, l) in
      (j, low, is j low ∙ ap place back)

  pub run_inside : (a : ℕ) → a < length members → get_or members a 0 < length numbers
  run_inside a l = omega (arith, is a l, order.inside (t + a) (omega (arith, l, len, run.within)))

  module _ (new : List ℕ) (two : Bool) (k : IsRunMarked P members marks new two) where
    kept : (a : ℕ) → a < t → number_by new places a ≡ number_by marks places a
    kept a l = k.others (place a) (λ j lj e.
        let same = order.distinct (t + j) a (omega (arith, lj, len, run.within)) (omega (arith, l, run.some, run.within)) (sym (is j lj) ∙ e) in
        omega (arith, same, l))

    one_number : (a : ℕ) → t ≤ a → a < end → number_by numbers places a ≡ number_by numbers places t
    one_number a l m = run.one a l m

    pub IsSweptTo-more : (found' : Bool) → (found' ≡ true → (found ≡ true) ⊎ (two ≡ true)) → (found' ≡ false → (found ≡ false) × (two ≡ false)) → IsSweptTo P numbers places end new found'
    IsSweptTo-more found' either neither = record {
      together = λ a b la lb e al. ⊎_elim
          (λ ta. ⊎_elim
          (λ tb. kept a ta ∙ h.together a b ta tb e al ∙ sym (kept b tb))
          (λ gb. absurd (h.edge a b ta gb (omega (arith, lb, run.within)) e))
          (cases_lt b t))
          (λ ga. ⊎_elim
          (λ tb. absurd (h.edge b a tb ga (omega (arith, la, run.within)) (sym e)))
          (λ gb.
          let i = in_run a ga la in
          let j = in_run b gb lb in
          ap (λ z. get_or new z 0) (sym i.2) ∙ k.together i.0 j.0 i.1 j.1 (AlikeAt-at P (place a) (place b) (get_or members i.0 0) (get_or members j.0 0) (sym i.2) (sym j.2) al) ∙ ap (λ z. get_or new z 0) j.2)
          (cases_lt b t))
          (cases_lt a t);
      all = λ f a b la lb e. ⊎_elim
          (λ ta. ⊎_elim
          (λ tb. h.all (neither f).0 a b ta tb e)
          (λ gb. absurd (h.edge a b ta gb (omega (arith, lb, run.within)) e))
          (cases_lt b t))
          (λ ga. ⊎_elim
          (λ tb. absurd (h.edge b a tb ga (omega (arith, la, run.within)) (sym e)))
          (λ gb.
          let i = in_run a ga la in
          let j = in_run b gb lb in
          AlikeAt-at P (get_or members i.0 0) (get_or members j.0 0) (place a) (place b) i.2 j.2 (k.all (neither f).1 i.0 j.0 i.1 j.1))
          (cases_lt b t))
          (cases_lt a t);
      some = λ f. ⊎_elim before here (either f);
      edge = λ a b la lb l e. ⊎_elim
          (λ ta. h.edge a b ta (omega (arith, lb, run.some)) l e)
          (λ ga. run.rest b lb l (sym e ∙ one_number a ga la))
          (cases_lt a t);
    }
      where
        before : found ≡ true → IsPartedTo numbers places end new
        before f =
            let p = h.some f in
            record {
              first = p.first;
              second = p.second;
              first_in = omega (arith, p.first_in, run.some);
              second_in = omega (arith, p.second_in, run.some);
              same = p.same;
              differ = λ e. p.differ (sym (kept p.first p.first_in) ∙ e ∙ kept p.second p.second_in);
            }

        here : two ≡ true → IsPartedTo numbers places end new
        here f =
            let p = k.some f in
            let low : t + p.first < end = omega (arith, p.first_in, len) in
            let high : t + p.second < end = omega (arith, p.second_in, len) in
            record {
              first = t + p.first;
              second = t + p.second;
              first_in = low;
              second_in = high;
              same = one_number (t + p.first) (omega arith) low ∙ sym (one_number (t + p.second) (omega arith) high);
              differ = λ e. p.differ (ap (λ z. get_or new z 0) (is p.first p.first_in) ∙ e ∙ ap (λ z. get_or new z 0) (sym (is p.second p.second_in)));
            }

-- all places are marked
pub AreMarks-from : (P : PairColouring) (numbers places marks : List ℕ) (found : Bool) (t : ℕ) → ArePlacesBy numbers places → IsSweptTo P numbers places t marks found → t ≤ length places → length places ≤ t → AreMarks P numbers marks found
AreMarks-from P numbers places marks found t order h within end = record {
  together = λ p q lp lq e al.
      let a = order.complete p lp in
      let b = order.complete q lq in
      ap (λ z. get_or marks z 0) (sym a.2)
      ∙ h.together a.0 b.0 (omega (arith, a.1, end)) (omega (arith, b.1, end)) (ap (λ z. get_or numbers z 0) a.2 ∙ e ∙ ap (λ z. get_or numbers z 0) (sym b.2))
      (AlikeAt-at P p q (get_or places a.0 0) (get_or places b.0 0) (sym a.2) (sym b.2) al)
      ∙ ap (λ z. get_or marks z 0) b.2;
  all = λ f p q lp lq e.
      let a = order.complete p lp in
      let b = order.complete q lq in
      AlikeAt-at P (get_or places a.0 0) (get_or places b.0 0) p q a.2 b.2
      (h.all f a.0 b.0 (omega (arith, a.1, end)) (omega (arith, b.1, end)) (ap (λ z. get_or numbers z 0) a.2 ∙ e ∙ ap (λ z. get_or numbers z 0) (sym b.2)));
  some = λ f.
      let p = h.some f in
      record {
        first = get_or places p.first 0;
        second = get_or places p.second 0;
        first_in = order.inside p.first (omega (arith, p.first_in, within));
        second_in = order.inside p.second (omega (arith, p.second_in, within));
        same = p.same;
        differ = p.differ;
      };
}

module _ (P M : PairColouring) (points : 1 ≤ P.size) (sizes : M.size ≡ P.size) (len : length M.colours ≡ P.size * P.size) where
  abbrev n : ℕ
  n = P.size

  -- the class of a pair stands at its place
  class_at : (x y : ℕ) → colour_at M x y ≡ get_or M.colours (x * n + y) 0
  class_at x y = ap (λ m. get_or M.colours (x * m + y) 0) sizes

  low : (x y : ℕ) → x < n → y < n → x * n + y < length M.colours
  low x y hx hy = omega (arith, place_below n x y hx hy, len)

  -- the pairs at the places of two pairs
  to_pairs : (x y u v : ℕ) → y < n → v < n → AlikeAt P (x * n + y) (u * n + v) → Alike P x y u v
  to_pairs x y u v hy hv a =
      subst (λ w. Alike P x y u w) (mod-mul-add u n v hv) (subst (λ w. Alike P x y w ((u * n + v) % n)) (div-mul-add u n v hv)
      (subst (λ w. Alike P x w ((u * n + v) / n) ((u * n + v) % n)) (mod-mul-add x n y hy) (subst (λ w. Alike P w ((x * n + y) % n) ((u * n + v) / n) ((u * n + v) % n)) (div-mul-add x n y hy) a)))

  to_places : (x y u v : ℕ) → y < n → v < n → Alike P x y u v → AlikeAt P (x * n + y) (u * n + v)
  to_places x y u v hy hv a =
      subst (λ w. Alike P ((x * n + y) / n) ((x * n + y) % n) ((u * n + v) / n) w) (sym (mod-mul-add u n v hv)) (subst (λ w. Alike P ((x * n + y) / n) ((x * n + y) % n) w v) (sym (div-mul-add u n v hv))
      (subst (λ w. Alike P ((x * n + y) / n) w u v) (sym (mod-mul-add x n y hy)) (subst (λ w. Alike P w y u v) (sym (div-mul-add x n y hy)) a)))

  pub AllAlike-from : (marks : List ℕ) (two : Bool) → two ≡ false → AreMarks P M.colours marks two → AllAlike P M
  AllAlike-from marks two f h = record {
    alike = λ x y u v hx hy hu hv e. to_pairs x y u v hy hv (h.all f (x * n + y) (u * n + v) (low x y hx hy) (low u v hu hv) (sym (class_at x y) ∙ e ∙ class_at u v));
  }

  pub IsParting-from : (marks : List ℕ) (two : Bool) (c : PairColouring) → two ≡ true → AreMarks P M.colours marks two → c.size ≡ n → ((x y : ℕ) → x < n → y < n → colour_at c x y ≡ get_or marks (x * n + y) 0) → IsParting P M c
  IsParting-from marks two c f h size at =
      let p = h.some f in
      let first : p.first < n * n = omega (arith, p.first_in, len) in
      let second : p.second < n * n = omega (arith, p.second_in, len) in
      let hx = row_below n p.first points first in
      let hy = column_below n p.first points in
      let hu = row_below n p.second points second in
      let hv = column_below n p.second points in
      record {
        sizes = size;
        together = λ x y u v hx hy hu hv e a.
            at x y hx hy ∙ h.together (x * n + y) (u * n + v) (low x y hx hy) (low u v hu hv) (sym (class_at x y) ∙ e ∙ class_at u v) (to_places x y u v hy hv a) ∙ sym (at u v hu hv);
        x = p.first / n;
        y = p.first % n;
        u = p.second / n;
        v = p.second % n;
        first_row = hx;
        first_column = hy;
        second_row = hu;
        second_column = hv;
        same = class_at (p.first / n) (p.first % n) ∙ ap (λ z. get_or M.colours z 0) (div-add-mod' p.first n) ∙ p.same ∙ ap (λ z. get_or M.colours z 0) (sym (div-add-mod' p.second n)) ∙ sym (class_at (p.second / n) (p.second % n));
        differ = λ e. p.differ
            (ap (λ z. get_or marks z 0) (sym (div-add-mod' p.first n)) ∙ sym (at (p.first / n) (p.first % n) hx hy) ∙ e ∙ at (p.second / n) (p.second % n) hu hv ∙ ap (λ z. get_or marks z 0) (div-add-mod' p.second n));
      }
