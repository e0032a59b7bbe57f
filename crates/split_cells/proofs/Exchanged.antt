-- Labels after an exchange.
use Rattle.std.proofs.Common.{◌≡◌, ◌≢◌, ℕ, ◌<◌, List, length, get_or, set, map, refl, sym, ap, ◌∙◌, arith}
use Rattle.std.specs.List.{range_with_len}
use Rattle.std.proofs.lemmas.List.{length-set, length-map, get_or-map, ext_get_or}
use Rattle.std.proofs.lemmas.List.FromFn.{length-range_with_len, get_or-range_with_len}
use Rattle.split_cells.specs.Labels.{AreInverse, AreLabels}
use Rattle.split_cells.proofs.SegmentLemmas.{two_writes}

module _ (bound : ℕ) (outer inner : List ℕ) (h : AreInverse bound outer inner) (k other first second : ℕ) (lk : k < bound) (lo : other < bound) (ne : k ≢ other)
    (f : first ≡ get_or outer k 0) (s : second ≡ get_or outer other 0) where
  abbrev outers : List ℕ
  outers = set (set outer k second) other first

  abbrev inners : List ℕ
  inners = set (set inner first other) second k

  first_in : first < bound
  first_in = omega (arith, f, h.outer_in k lk)

  second_in : second < bound
  second_in = omega (arith, s, h.outer_in other lo)

  at_first : get_or inner first 0 ≡ k
  at_first = ap (λ v. get_or inner v 0) f ∙ h.back k lk

  at_second : get_or inner second 0 ≡ other
  at_second = ap (λ v. get_or inner v 0) s ∙ h.back other lo

  -- what holds of an entry
  outer_at : (P : ℕ → Type 0) (j : ℕ) → (j ≡ other → P first) → (j ≢ other → j ≡ k → P second) → (j ≢ other → j ≢ k → P (get_or outer j 0)) → P (get_or outers j 0)
  outer_at P j = two_writes P outer k second other first j (omega (arith, lk, h.outer_len)) (omega (arith, lo, h.outer_len))

  inner_at : (P : ℕ → Type 0) (v : ℕ) → (v ≡ second → P k) → (v ≢ second → v ≡ first → P other) → (v ≢ second → v ≢ first → P (get_or inner v 0)) → P (get_or inners v 0)
  inner_at P v = two_writes P inner first other second k v (omega (arith, first_in, h.inner_len)) (omega (arith, second_in, h.inner_len))

  apart : first ≢ second
  apart e = ne (sym at_first ∙ ap (λ v. get_or inner v 0) e ∙ at_second)

  pub AreInverse-exchanged : AreInverse bound outers inners
  AreInverse-exchanged = record {
    outer_len = length-set (set outer k second) other first ∙ length-set outer k second ∙ h.outer_len;
    inner_len = length-set (set inner first other) second k ∙ length-set inner first other ∙ h.inner_len;
    outer_in = λ j l. outer_at (λ v. v < bound) j (λ _. first_in) (λ _ _. second_in) (λ _ _. h.outer_in j l);
    inner_in = λ v l. inner_at (λ j. j < bound) v (λ _. lk) (λ _ _. lo) (λ _ _. h.inner_in v l);
    back = λ j l. outer_at (λ v. get_or inners v 0 ≡ j) j
        (λ e. inner_at (λ w. w ≡ j) first (λ g. absurd (apart g)) (λ _ _. sym e) (λ _ n. absurd (n refl)))
        (λ _ e. inner_at (λ w. w ≡ j) second (λ _. sym e) (λ n. absurd (n refl)) (λ n. absurd (n refl)))
        (λ nother nk. let b = h.back j l in
        inner_at (λ w. w ≡ j) (get_or outer j 0)
        (λ g. absurd (nother (sym b ∙ ap (λ v. get_or inner v 0) g ∙ at_second)))
        (λ _ g. absurd (nk (sym b ∙ ap (λ v. get_or inner v 0) g ∙ at_first)))
        (λ _ _. b));
    forth = λ v l. inner_at (λ j. get_or outers j 0 ≡ v) v
        (λ e. outer_at (λ w. w ≡ v) k (λ g. absurd (ne g)) (λ _ _. sym e) (λ _ n. absurd (n refl)))
        (λ _ e. outer_at (λ w. w ≡ v) other (λ _. sym e) (λ n. absurd (n refl)) (λ n. absurd (n refl)))
        (λ ns nf. let b = h.forth v l in
        outer_at (λ w. w ≡ v) (get_or inner v 0)
        (λ g. absurd (ns (sym b ∙ ap (λ j. get_or outer j 0) g ∙ sym s)))
        (λ _ g. absurd (nf (sym b ∙ ap (λ j. get_or outer j 0) g ∙ sym f)))
        (λ _ _. b));
  }

  -- the entries afterwards
  pub outer_other : get_or outers other 0 ≡ first
  outer_other = outer_at (λ w. w ≡ first) other (λ _. refl) (λ n. absurd (n refl)) (λ n. absurd (n refl))

  pub outer_k : get_or outers k 0 ≡ second
  outer_k = outer_at (λ w. w ≡ second) k (λ g. absurd (ne g)) (λ _ _. refl) (λ _ n. absurd (n refl))

  pub outer_rest : (j : ℕ) → j ≢ k → j ≢ other → get_or outers j 0 ≡ get_or outer j 0
  outer_rest j nk nother = outer_at (λ w. w ≡ get_or outer j 0) j (λ e. absurd (nother e)) (λ _ e. absurd (nk e)) (λ _ _. refl)

-- numbers that are shown as they are
pub AreLabels-start : (bound : ℕ) (outer inner : List ℕ) → outer ≡ range_with_len 0 bound → inner ≡ outer → AreLabels bound 0 outer inner
AreLabels-start bound outer inner o i = record {
  inverse = record {
    outer_len = len;
    inner_len = ap length i ∙ len;
    outer_in = λ k l. omega (arith, at k l, l);
    inner_in = λ k l. omega (arith, both k l, l);
    back = λ k l. ap (λ v. get_or inner v 0) (at k l) ∙ both k l;
    forth = λ k l. ap (λ v. get_or outer v 0) (both k l) ∙ at k l;
  };
  rest = λ k b l. at k l;
}
  where
    len : length outer ≡ bound
    len = ap length o ∙ length-range_with_len 0 bound

    at : (k : ℕ) → k < bound → get_or outer k 0 ≡ k
    at k l = ap (λ xs. get_or xs k 0) o ∙ omega (arith, get_or-range_with_len 0 bound k 0 l)

    both : (k : ℕ) → k < bound → get_or inner k 0 ≡ k
    both k l = ap (λ xs. get_or xs k 0) i ∙ at k l

-- a list of numbers that are shown as they are
pub map_same : (outer xs : List ℕ) → ((p : ℕ) → p < length xs → get_or outer (get_or xs p 0) 0 ≡ get_or xs p 0) → map (λ k. get_or outer k 0) xs ≡ xs
map_same outer xs h =
    ext_get_or 0 (map (λ k. get_or outer k 0) xs) xs (length-map xs (λ k. get_or outer k 0))
    (λ p l. let inside : p < length xs = omega (arith, l, length-map xs (λ k. get_or outer k 0)) in get_or-map (λ k. get_or outer k 0) xs p 0 0 inside ∙ h p inside)
