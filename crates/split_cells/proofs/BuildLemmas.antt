-- Partings from the class of each number.
use Rattle.std.proofs.Common.{◌≡◌, ◌≢◌, ℕ, ◌+◌, ◌-◌, ◌*◌, ◌/◌, ◌%◌, ◌^◌, ◌<◌, ◌≤◌, List, [], ◌∷◌, ◌++◌, length, get_or, map, replicate, ◌⊎◌, inl, inr, ⊎_elim, sym, ap, ◌∙◌, arith}
use Rattle.std.proofs.lemmas.Bool.{cases_eq, cases_lt}
use Rattle.std.proofs.lemmas.List.{ext_get_or, get_or-replicate, length-replicate}
use Rattle.pair_colours.specs.Colouring.{points}
use Rattle.wl_round.specs.Sorting.{AreSorted}
use Rattle.wl_round.proofs.PlaceLists.{written_more, written_length, written_at}
use Rattle.split_cells.specs.Grids.{IsUsed}
use Rattle.split_cells.specs.Sorted.{IsNumbered}

-- the first t codes are in their classes
pub record IsArrangedTo (class0 codes : List ℕ) (t : ℕ) (class : List ℕ) (rank : ℕ) : Type 0 where
  pub len : length class ≡ length class0
  pub done : (u : ℕ) → u < t → get_or class (get_or codes u 0 % 2 ^ 32) 0 ≡ get_or class0 (get_or codes u 0 % 2 ^ 32) 0
  pub either : (p : ℕ) → p < length class0 → (get_or class p 0 ≡ 0) ⊎ (get_or class p 0 ≡ get_or class0 p 0)
  pub reached : (u : ℕ) → u < t → get_or codes u 0 / 2 ^ 32 < rank
  pub newest : (u : ℕ) → t ≤ u → u < length codes → rank ≤ get_or codes u 0 / 2 ^ 32 + 1
  pub some : 0 < rank
  pub used : IsUsed class rank

module _ (class0 codes : List ℕ) (numbered : IsNumbered class0) (sorted : AreSorted class0 codes) where
  pub IsArrangedTo-start : (class : List ℕ) → 0 < length class0 → class ≡ replicate (length class0) 0 → IsArrangedTo class0 codes 0 class 1
  IsArrangedTo-start class some c = record {
    len = size;
    done = λ u l. absurd (omega (arith, l));
    either = λ p l. inl (zero_at p l);
    reached = λ u l. absurd (omega (arith, l));
    newest = λ u l h. omega arith;
    some = omega arith;
    used = λ k l. record { number = 0; inside = omega (arith, some, size); member = zero_at 0 some ∙ (omega (arith, l)) };
  }
    where
      size : length class ≡ length class0
      size = ap length c ∙ length-replicate {A = ℕ} (length class0) 0

      zero_at : (p : ℕ) → p < length class0 → get_or class p 0 ≡ 0
      zero_at p l = ap (λ xs. get_or xs p 0) c ∙ get_or-replicate (length class0) p 0 0 l

  module _ (t : ℕ) (class : List ℕ) (rank p colour : ℕ) (h : IsArrangedTo class0 codes t class rank) (l : t < length codes) (is : p ≡ get_or codes t 0 % 2 ^ 32) (c : colour ≡ get_or codes t 0 / 2 ^ 32) where
    pub p_in : p < length class0
    p_in = omega (arith, is, sorted.inside t l)

    pub colour_of : colour ≡ get_or class0 p 0
    colour_of = c ∙ sorted.is t l ∙ ap (λ q. get_or class0 q 0) (sym is)

    -- a number that is not in its class yet is in class 0
    pub not_moved : get_or class p 0 ≢ colour → (get_or class p 0 ≡ 0) × (0 < colour)
    not_moved ne =
        let zero : get_or class p 0 ≡ 0 = ⊎_elim (λ z. z) (λ e. absurd (ne (e ∙ sym colour_of))) (h.either p p_in) in
        (zero, omega (arith, zero, ne))

    pub near : colour ≤ rank
    near = ⊎_elim (λ z. omega (arith, z, h.some)) (λ ne. more (colour - 1) (omega (arith, ne))) (cases_eq colour 0)
      where
        more : (b : ℕ) → b + 1 ≡ colour → colour ≤ rank
        more b e =
            let m = numbered.used b (omega (arith, e, colour_of, numbered.below p p_in)) in
            let u = sorted.complete m.number m.inside in
            let v : get_or codes u.0 0 / 2 ^ 32 ≡ b = sorted.is u.0 u.1 ∙ ap (λ q. get_or class0 q 0) u.2 ∙ m.member in
            ⊎_elim
            (λ before. let r = h.reached u.0 before in omega (arith, r, v, e))
            (λ after. ⊎_elim
            (λ same. absurd (omega (arith, ap (λ z. get_or codes z 0 / 2 ^ 32) same, v, c, e)))
            (λ (ne : u.0 ≢ t). let up = sorted.rising t u.0 (omega (arith, after, ne)) u.1 in absurd (omega (arith, up, v, c, e)))
            (cases_eq u.0 t))
            (cases_lt u.0 t)

    pub not_less : rank ≤ colour + 1
    not_less = omega (arith, c, h.newest t (omega arith) l)

    pub is_zero : get_or class p 0 ≢ colour → get_or class p 0 ≡ 0
    is_zero ne = ⊎_elim (λ e. e) (λ e. absurd (ne (e ∙ sym colour_of))) (h.either p p_in)

    after_t : (u : ℕ) → t + 1 ≤ u → u < length codes → colour ≤ get_or codes u 0 / 2 ^ 32
    after_t u a b = let up = sorted.rising t u (omega (arith, a)) b in omega (arith, up, c)

    -- it was in its class before
    pub IsArrangedTo-skip : get_or class p 0 ≡ colour → get_or class p 0 < rank → IsArrangedTo class0 codes (t + 1) class rank
    IsArrangedTo-skip e low = record {
      len = h.len;
      done = λ u a. ⊎_elim
          (λ f. ap (λ z. get_or class (get_or codes z 0 % 2 ^ 32) 0) f ∙ ap (λ z. get_or class z 0) (sym is) ∙ e ∙ colour_of ∙ ap (λ z. get_or class0 z 0) is ∙ ap (λ z. get_or class0 (get_or codes z 0 % 2 ^ 32) 0) (sym f))
          (λ (ne : u ≢ t). h.done u (omega (arith, a, ne)))
          (cases_eq u t);
      either = h.either;
      reached = λ u a. ⊎_elim (λ f. omega (arith, ap (λ z. get_or codes z 0 / 2 ^ 32) f, c, e, low)) (λ (ne : u ≢ t). h.reached u (omega (arith, a, ne))) (cases_eq u t);
      newest = λ u a b. h.newest u (omega (arith, a)) b;
      some = h.some;
      used = h.used;
    }

    -- it moves there now
    pub IsArrangedTo-move : (class' : List ℕ) → get_or class p 0 ≢ colour → length class' ≡ length class0 → get_or class' p 0 ≡ colour → ((q : ℕ) → q ≢ p → get_or class' q 0 ≡ get_or class q 0)
        → IsArrangedTo class0 codes (t + 1) class' (colour + 1)
    IsArrangedTo-move class' ne len moved stayed = record {
      len = len;
      done = λ u a. ⊎_elim
          (λ f. at (get_or codes u 0 % 2 ^ 32) (ap (λ z. get_or codes z 0 % 2 ^ 32) f ∙ sym is))
          (λ (n : u ≢ t). ⊎_elim (λ f. at (get_or codes u 0 % 2 ^ 32) f) (λ o. stayed (get_or codes u 0 % 2 ^ 32) o ∙ h.done u (omega (arith, a, n))) (cases_eq (get_or codes u 0 % 2 ^ 32) p))
          (cases_eq u t);
      either = either;
      reached = λ u a. ⊎_elim (λ f. omega (arith, ap (λ z. get_or codes z 0 / 2 ^ 32) f, c)) (λ (n : u ≢ t). let r = h.reached u (omega (arith, a, n)) in omega (arith, r, not_less)) (cases_eq u t);
      newest = λ u a b. omega (arith, after_t u a b);
      some = omega arith;
      used = used;
    }
      where
        at : (q : ℕ) → q ≡ p → get_or class' q 0 ≡ get_or class0 q 0
        at q e = ap (λ z. get_or class' z 0) e ∙ moved ∙ colour_of ∙ ap (λ z. get_or class0 z 0) (sym e)

        either : (q : ℕ) → q < length class0 → (get_or class' q 0 ≡ 0) ⊎ (get_or class' q 0 ≡ get_or class0 q 0)
        either q k = ⊎_elim (λ e. inr (at q e)) (λ o. ⊎_elim (λ z. inl (stayed q o ∙ z)) (λ z. inr (stayed q o ∙ z)) (h.either q k)) (cases_eq q p)

        used : IsUsed class' (colour + 1)
        used k low = ⊎_elim
            (λ e. record { number = p; inside = omega (arith, p_in, len); member = moved ∙ sym e })
            (λ (n : k ≢ colour). ⊎_elim
            (λ z.
            let m = numbered.used 0 numbered.some in
            record {
              number = m.number;
              inside = omega (arith, m.inside, len);
              member = ⊎_elim (λ e. e) (λ e. e ∙ m.member) (either m.number m.inside) ∙ sym z;
            })
            (λ some.
            let m = h.used k (omega (arith, low, n, near)) in
            record {
              number = m.number;
              inside = omega (arith, m.inside, h.len, len);
              member = stayed m.number (λ e. some (sym m.member ∙ ap (λ z. get_or class z 0) e ∙ is_zero ne)) ∙ m.member;
            })
            (cases_eq k 0))
            (cases_eq k colour)

  pub IsArrangedTo-end : (t : ℕ) (class : List ℕ) (rank : ℕ) → IsArrangedTo class0 codes t class rank → length codes ≤ t → class ≡ class0
  IsArrangedTo-end t class rank h e = ext_get_or 0 class class0 h.len (λ p l.
      let u = sorted.complete p (omega (arith, l, h.len)) in
      ap (λ z. get_or class z 0) (sym u.2) ∙ h.done u.0 (omega (arith, u.1, e)) ∙ ap (λ z. get_or class0 z 0) u.2)

-- the points of the pairs, pair by pair
pub points_more : (f : ℕ → ℕ) (n x y v : ℕ) (old new : List ℕ) → y < n → old ≡ map f (points (x * n + y)) → v ≡ f (x * n + y) → new ≡ old ++ v ∷ [] → new ≡ map f (points (x * n + (y + 1)))
points_more f n x y v old new hy e g s = written_more f (x * n + y) v old new e g s ∙ ap (λ m. map f (points m)) (omega arith)

pub entry_at : (f : ℕ → ℕ) (n p : ℕ) (xs : List ℕ) → xs ≡ map f (points n) → p < n → (p < length xs) × (get_or xs p 0 ≡ f p)
entry_at f n p xs e l = (omega (arith, written_length f n xs e, l), written_at f n p xs e l)
