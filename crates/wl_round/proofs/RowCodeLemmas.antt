-- Rows of a matrix, their leads and the numbers of their classes.
use Rattle.std.proofs.Common.{◌≡◌, ◌≢◌, ℕ, ◌+◌, ◌*◌, ◌/◌, ◌%◌, ◌<◌, ◌≤◌, List, length, get_or, set, replicate, ⊎_elim, refl, sym, ap, subst, ◌∙◌, arith}
use Rattle.std.proofs.lemmas.Bool.{cases_eq, cases_lt}
use Rattle.std.proofs.lemmas.List.{length-set, get_or-replicate}
use Rattle.std.proofs.lemmas.Nat.{div-add-mod', same_from_place}
use Rattle.pair_colours.proofs.Places.{place_below, row_below, column_below}
use Rattle.wl_round.specs.RowCodes.{Covers, IsLead, IsFirstPlace, IsRowCode, IsShort, IsRowWritten, IsRowTried}
use Rattle.wl_round.proofs.OneWrite.{one_write}

module _ (n : ℕ) (class : List ℕ) where
  abbrev entry : ℕ → ℕ → ℕ
  entry x z = get_or class (x * n + z) 0

  Covers-refl : (x : ℕ) → Covers n class x x
  Covers-refl x = record { at = λ z hz. (z, hz, refl) }

  -- the first place from z on in row a where class k stands
  pub record IsFirstFrom (a z k place : ℕ) : Type 0 where
    pub inside : place < n
    pub stands : get_or class (a * n + place) 0 ≡ k
    pub first : (w : ℕ) → z ≤ w → w < n → get_or class (a * n + w) 0 ≡ k → place ≤ w

  -- the classes that stand in row a from z on have their first places there
  pub record IsNotedFrom (a z : ℕ) (short : List ℕ) : Type 0 where
    pub low : (k : ℕ) → get_or short k 0 < n
    pub place : (w : ℕ) → z ≤ w → w < n → IsFirstFrom a z (get_or class (a * n + w) 0) (get_or short (get_or class (a * n + w) 0) 0)

  pub IsNotedFrom-start : (a z : ℕ) (short : List ℕ) → n ≤ z → ((k : ℕ) → get_or short k 0 < n) → IsNotedFrom a z short
  IsNotedFrom-start a z short e low = record { low = low; place = λ w h l. absurd (omega (arith, e, h, l)) }

  pub IsNotedFrom-more : (a z m c : ℕ) (short : List ℕ) → m ≡ z + 1 → z < n → c ≡ entry a z → c < length short → IsNotedFrom a m short → IsNotedFrom a z (set short c z)
  IsNotedFrom-more a z m c short e hz is inside h = record {
    low = λ k. one_write (λ v. v < n) short c z k inside (λ _. hz) (λ _. h.low k);
    place = λ w from l. one_write (IsFirstFrom a z (entry a w)) short c z (entry a w) inside
        (λ (same : entry a w ≡ c). record { inside = hz; stands = sym is ∙ sym same; first = λ v f _ _. f })
        (λ (ne : entry a w ≢ c).
        let other : w ≢ z = λ f. ne (ap (entry a) f ∙ sym is) in
        let old = h.place w (omega (arith, e, from, other)) l in
        record {
          inside = old.inside;
          stands = old.stands;
          first = λ v f hv ev.
              let away : v ≢ z = λ g. ne (sym ev ∙ ap (entry a) g ∙ sym is) in
              old.first v (omega (arith, e, f, away)) hv ev;
        });
  }

  pub IsShort-from : (a z : ℕ) (short : List ℕ) → z ≡ 0 → IsNotedFrom a z short → IsShort n class a short
  IsShort-from a z short e h = record {
    low = h.low;
    place = λ w l.
        let f = h.place w (omega (arith, e)) l in
        record { inside = f.inside; stands = f.stands; first = λ v. f.first v (omega (arith, e)) };
  }

  -- a class that stands in row a stands where `short` says
  pub short_stands : (a k w : ℕ) (short : List ℕ) → IsShort n class a short → w < n → entry a w ≡ k → entry a (get_or short k 0) ≡ k
  short_stands a k w short h hw e = subst (λ c. entry a (get_or short c 0) ≡ c) e (h.place w hw).stands

  short_first : (a k w : ℕ) (short : List ℕ) → IsShort n class a short → w < n → entry a w ≡ k → IsFirstPlace n class a k (get_or short k 0)
  short_first a k w short h hw e = subst (λ c. IsFirstPlace n class a c (get_or short c 0)) e (h.place w hw)

  -- the first z places of row x are written
  pub record IsWrittenTo (short : List ℕ) (x : ℕ) (old : List ℕ) (z : ℕ) (new : List ℕ) : Type 0 where
    pub len : length new ≡ length old
    pub row : (w : ℕ) → w < z → get_or new (x * n + w) 0 ≡ get_or short (get_or class (x * n + w) 0) 0
    pub others : (y w : ℕ) → y < n → w < n → y ≢ x → get_or new (y * n + w) 0 ≡ get_or old (y * n + w) 0

  pub IsWrittenTo-start : (short : List ℕ) (x : ℕ) (old : List ℕ) → IsWrittenTo short x old 0 old
  IsWrittenTo-start short x old = record { len = refl; row = λ w l. absurd (omega (arith, l)); others = λ y w hy hw ne. refl }

  pub IsWrittenTo-more : (short : List ℕ) (x : ℕ) (old : List ℕ) (z v : ℕ) (new : List ℕ) → x < n → z < n → length old ≡ n * n → v ≡ get_or short (entry x z) 0
      → IsWrittenTo short x old z new → IsWrittenTo short x old (z + 1) (set new (x * n + z) v)
  IsWrittenTo-more short x old z v new hx hz len is h =
      let inside : x * n + z < length new = omega (arith, place_below n x z hx hz, h.len, len) in
      record {
        len = length-set new (x * n + z) v ∙ h.len;
        row = λ w l. one_write (λ k. k ≡ get_or short (entry x w) 0) new (x * n + z) v (x * n + w) inside
            (λ e. is ∙ ap (λ u. get_or short (entry x u) 0) (omega (arith, e)))
            (λ ne. h.row w (let o : w ≢ z = λ e. ne (ap (λ u. x * n + u) e) in omega (arith, l, o)));
        others = λ y w hy hw ne. one_write (λ k. k ≡ get_or old (y * n + w) 0) new (x * n + z) v (y * n + w) inside
            (λ e. absurd (ne (same_from_place y w x z n hw hz e).0))
            (λ _. h.others y w hy hw ne);
      }

  pub IsRowWritten-from : (short : List ℕ) (x : ℕ) (old : List ℕ) (z : ℕ) (new : List ℕ) → n ≤ z → IsWrittenTo short x old z new → IsRowWritten n class short x old new
  IsRowWritten-from short x old z new e h = record { len = h.len; row = λ w l. h.row w (omega (arith, e, l)); others = h.others }

  -- one row more tried, which changes nothing
  pub tried_before : (t : ℕ) (leads places : List ℕ) (x : ℕ) → get_or leads x 0 ≢ n → IsRowTried n class t leads places x → IsRowTried n class (t + 1) leads places x
  tried_before t leads places x ne h = record { open_still = λ e. absurd (ne e); lead = h.lead; place = h.place }

  pub tried_in_vain : (t : ℕ) (leads places : List ℕ) (x : ℕ) → ¬ Covers n class t x → IsRowTried n class t leads places x → IsRowTried n class (t + 1) leads places x
  tried_in_vain t leads places x bare h = record {
    open_still = λ e b l c. ⊎_elim
        (λ same. bare (subst (λ a. Covers n class a x) same c))
        (λ ne. h.open_still e b (omega (arith, l, ne)) c)
        (cases_eq b t);
    lead = h.lead;
    place = h.place;
  }

  -- the lead is found
  pub tried_well : (t : ℕ) (leads places short new written : List ℕ) (x : ℕ) → t < n → get_or leads x 0 ≡ n → get_or new x 0 ≡ t → Covers n class t x → IsShort n class t short
      → IsRowWritten n class short x places written → IsRowTried n class t leads places x → IsRowTried n class (t + 1) new written x
  tried_well t leads places short new written x ht was is c s w h =
      let own : IsLead n class t x = record {
        inside = ht;
        covers = c;
        first = λ b k. ⊎_elim (λ l. absurd (h.open_still was b l k)) (λ g. g) (cases_lt b t);
      } in
      record {
        open_still = λ e. absurd (omega (arith, e, is, ht));
        lead = λ _. subst (λ a. IsLead n class a x) (sym is) own;
        place = λ _ z hz.
            let k = c.at z hz in
            subst (λ a. IsFirstPlace n class a (entry x z) (get_or written (x * n + z) 0)) (sym is)
            (subst (IsFirstPlace n class t (entry x z)) (sym (w.row z hz)) (short_first t (entry x z) k.0 short s k.1 k.2));
      }

  -- what is known of a row rests on its own entries
  pub tried_as_well : (t : ℕ) (leads places leads' places' : List ℕ) (x : ℕ) → get_or leads' x 0 ≡ get_or leads x 0 → ((z : ℕ) → z < n → get_or places' (x * n + z) 0 ≡ get_or places (x * n + z) 0)
      → IsRowTried n class t leads places x → IsRowTried n class t leads' places' x
  tried_as_well t leads places leads' places' x e f h = record {
    open_still = λ is. h.open_still (sym e ∙ is);
    lead = λ ne. subst (λ a. IsLead n class a x) (sym e) (h.lead (λ is. ne (e ∙ is)));
    place = λ ne z hz.
        subst (λ a. IsFirstPlace n class a (entry x z) (get_or places' (x * n + z) 0)) (sym e)
        (subst (IsFirstPlace n class (get_or leads x 0) (entry x z)) (sym (f z hz)) (h.place (λ is. ne (e ∙ is)) z hz));
  }

  pub tried_none : (leads places : List ℕ) (x : ℕ) → leads ≡ replicate n n → x < n → IsRowTried n class 0 leads places x
  tried_none leads places x e hx =
      let is : get_or leads x 0 ≡ n = ap (λ l. get_or l x 0) e ∙ get_or-replicate n x n 0 hx in
      record { open_still = λ _ b l. absurd (omega (arith, l)); lead = λ ne. absurd (ne is); place = λ ne. absurd (ne is) }

  -- with all rows tried, each has a lead
  pub tried_all : (t : ℕ) (leads places : List ℕ) → n ≤ t → length leads ≡ n → length places ≡ n * n → ((x : ℕ) → x < n → IsRowTried n class t leads places x) → IsRowCode n class leads places
  tried_all t leads places e ll pl h =
      let led : (x : ℕ) → x < n → get_or leads x 0 ≢ n = λ x hx is. (h x hx).open_still is x (omega (arith, hx, e)) (Covers-refl x) in
      record {
        leads_len = ll;
        places_len = pl;
        lead = λ x hx. (h x hx).lead (led x hx);
        place = λ x z hx hz. (h x hx).place (led x hx) z hz;
      }

-- of two first places of a class in a row, neither is before the other
first_place_one : (n : ℕ) (class : List ℕ) (a k p q : ℕ) → IsFirstPlace n class a k p → IsFirstPlace n class a k q → p ≡ q
first_place_one n class a k p q f g = omega (arith, f.first q g.inside g.stands, g.first p f.inside f.stands)

Covers-trans : (n : ℕ) (class : List ℕ) (a b x : ℕ) → Covers n class a b → Covers n class b x → Covers n class a x
Covers-trans n class a b x h k = record {
  at = λ z hz.
      let v = k.at z hz in
      let w = h.at v.0 v.1 in
      (w.0, w.1, w.2 ∙ v.2);
}

module _ (n : ℕ) (class leads places : List ℕ) (h : IsRowCode n class leads places) where
  -- among rows of one lead, a number tells the class
  pub place_tells : (x z u w : ℕ) → x < n → z < n → u < n → w < n → get_or leads x 0 ≡ get_or leads u 0 → get_or places (x * n + z) 0 ≡ get_or places (u * n + w) 0
      → get_or class (x * n + z) 0 ≡ get_or class (u * n + w) 0
  place_tells x z u w hx hz hu hw e f =
      sym (h.place x z hx hz).stands ∙ (λ i. get_or class (e i * n + f i) 0) ∙ (h.place u w hu hw).stands

  -- and equal classes have equal numbers
  pub place_same : (x z u w : ℕ) → x < n → z < n → u < n → w < n → get_or leads x 0 ≡ get_or leads u 0 → get_or class (x * n + z) 0 ≡ get_or class (u * n + w) 0
      → get_or places (x * n + z) 0 ≡ get_or places (u * n + w) 0
  place_same x z u w hx hz hu hw e f =
      let a = get_or leads u 0 in
      let k = get_or class (u * n + w) 0 in
      let own : IsFirstPlace n class a k (get_or places (x * n + z) 0) =
      subst (λ c. IsFirstPlace n class a c (get_or places (x * n + z) 0)) f (subst (λ b. IsFirstPlace n class b (get_or class (x * n + z) 0) (get_or places (x * n + z) 0)) e (h.place x z hx hz)) in
      first_place_one n class a k (get_or places (x * n + z) 0) (get_or places (u * n + w) 0) own (h.place u w hu hw)

  -- rows with the same classes have one lead
  pub lead_same : (x u : ℕ) → x < n → u < n → Covers n class u x → Covers n class x u → get_or leads x 0 ≡ get_or leads u 0
  lead_same x u hx hu c d =
      let a = h.lead x hx in
      let b = h.lead u hu in
      omega (
        arith,
        a.first (get_or leads u 0) (Covers-trans n class (get_or leads u 0) u x b.covers c),
        b.first (get_or leads x 0) (Covers-trans n class (get_or leads x 0) x u a.covers d),
      )

  pub places_low : (p : ℕ) → 1 ≤ n → p < n * n → get_or places p 0 < n
  places_low p one l =
      subst (λ k. get_or places k 0 < n) (div-add-mod' p n) (h.place (p / n) (p % n) (row_below n p one l) (column_below n p one)).inside
