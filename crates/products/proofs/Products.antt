-- The direct product and the wreath product as joined colours.
use Rattle.std.proofs.Common.{◌≡◌, ◌==◌, ℕ, ◌*◌, ◌/◌, ◌%◌, ◌<◌, ◌≤◌, ◌⊎◌, Bool, true, false, inl, inr, ⊎_elim, refl, sym, ap, subst, ◌∙◌, arith, if◌then◌else◌}
use Rattle.std.proofs.lemmas.Bool.{cases_eq, cases_lt, cases_Bool, eq-eqb, ne_eqb, eqb-true}
use Rattle.std.proofs.lemmas.Nat.{mod_below}
use Rattle.pair_colours.specs.Colouring.{PairColouring, colour_at}
use Rattle.pair_colours.specs.Closure.{Coherent}
use Rattle.pair_colours.specs.Fibres.{HasOneFibre}
use Rattle.products.specs.Product.{IsNamedLabelling, direct_label, wreath_label, DirectProduct, WreathProduct}
use Rattle.products.proofs.Numbers.{number_of, number_of-one}
use Rattle.products.proofs.Labellings.{labelling_is_coherent}
use Rattle.products.proofs.Fusions.{Loose, IsJoining, IsJoined, joined_is_coherent}

-- where a product has points, its second factor has
second_has_points : (n m : ℕ) → 1 ≤ n * m → 1 ≤ m
second_has_points n m h =
    ⊎_elim (λ l. omega (arith, l)) (λ g.
    let none : m ≡ 0 = omega (arith, g) in
    let product : n * m ≡ n * 0 = ap (λ k. n * k) none in
    absurd (omega (arith, product, h)))
    (cases_lt 0 m)

product_points : (n m : ℕ) (label : ℕ → ℕ → ℕ × ℕ) (P : PairColouring) → IsNamedLabelling (n * m) label P → 1 ≤ m
product_points n m label P p = second_has_points n m (subst (λ k. 1 ≤ k) p.size p.colouring.has_points)

abbrev direct_join : ℕ → ℕ → ℕ
direct_join a b = number_of (a, b)

pub direct_is_coherent : (A B P : PairColouring) → Coherent A → Coherent B → DirectProduct A B P → Coherent P
direct_is_coherent A B P a b p =
    labelling_is_coherent (A.size * B.size) (direct_label A B) P p
    (joined_is_coherent A B direct_join (λ p q. number_of (direct_label A B p q)) a b
    (record { tells = λ a b c d e. let w = number_of-one (a, b) (c, d) e in inl (ap (λ v. v.0) w, ap (λ v. v.1) w) })
    (record { has_points = product_points A.size B.size (direct_label A B) P p; is = λ p q hp hq. refl }))

-- the diagonal colour of B leaves the colour of A, each other one stands alone
abbrev sorted : ℕ → ℕ → Bool → ℕ × ℕ
sorted a b on = if on then (0, a) else (1, b)

abbrev wreath_join : ℕ → ℕ → ℕ → ℕ
wreath_join d a b = number_of (sorted a b (b == d))

module _ (A B : PairColouring) (ha : Coherent A) (hb : Coherent B) (fa : HasOneFibre A) (fb : HasOneFibre B) (has : 1 ≤ B.size) where
  on_diagonal : (u v : ℕ) → u < B.size → v < B.size → colour_at B u v ≡ colour_at B 0 0 → u ≡ v
  on_diagonal u v hu hv e = hb.splits_diagonal 0 u v has hu hv (sym e)

  free_where : (d b : ℕ) → (b == d) ≡ false → (a c : ℕ) → wreath_join d a b ≡ wreath_join d c b
  free_where d b off a c = ap (λ t. number_of (sorted a b t)) off ∙ sym (ap (λ t. number_of (sorted c b t)) off)

  loose : (b : ℕ) → (b == colour_at B 0 0) ≡ false → Loose A B (wreath_join (colour_at B 0 0)) b
  loose b other = record {
    fibres = fa;
    off = λ u hu e.
        let yes : (b == colour_at B 0 0) ≡ true = eq-eqb b (colour_at B 0 0) (sym e ∙ fb.one_fibre u 0 hu has) in
        let clash : true ≡ false = sym yes ∙ other in
        cc;
    free = free_where (colour_at B 0 0) b other;
    others = λ d. ⊎_elim
        (λ t. inr (λ u v hu hv e. on_diagonal u v hu hv (e ∙ eqb-true d (colour_at B 0 0) t)))
        (λ f. inl (free_where (colour_at B 0 0) d f))
        (cases_Bool (d == colour_at B 0 0));
  }

  tells : (d a b c e : ℕ) (s t : Bool) → (b == d) ≡ s → (e == d) ≡ t → ((b == d) ≡ false → Loose A B (wreath_join d) b)
      → number_of (sorted a b s) ≡ number_of (sorted c e t) → ((a ≡ c) × (b ≡ e)) ⊎ (Loose A B (wreath_join d) b × (b ≡ e))
  tells d a b c e true true p q l h =
      let w = number_of-one (0, a) (0, c) h in inl (ap (λ v. v.1) w, eqb-true b d p ∙ sym (eqb-true e d q))
  tells d a b c e true false p q l h =
      let w = number_of-one (0, a) (1, e) h in let z : 0 ≡ 1 = ap (λ v. v.0) w in absurd (omega (arith, z))
  tells d a b c e false true p q l h =
      let w = number_of-one (1, b) (0, c) h in let z : 1 ≡ 0 = ap (λ v. v.0) w in absurd (omega (arith, z))
  tells d a b c e false false p q l h =
      let w = number_of-one (1, b) (1, e) h in inr (l p, ap (λ v. v.1) w)

  -- one point in B is one colour on the diagonal
  same_sort : (u v : ℕ) → u < B.size → v < B.size → (u == v) ≡ (colour_at B u v == colour_at B 0 0)
  same_sort u v hu hv = ⊎_elim
      (λ e. eq-eqb u v e ∙ sym (eq-eqb (colour_at B u v) (colour_at B 0 0) (ap (colour_at B u) (sym e) ∙ fb.one_fibre u 0 hu has)))
      (λ ne. ne_eqb u v ne ∙ sym (ne_eqb (colour_at B u v) (colour_at B 0 0) (λ e. ne (on_diagonal u v hu hv e))))
      (cases_eq u v)

  wreath_joining : IsJoining A B (wreath_join (colour_at B 0 0))
  wreath_joining = record {
    tells = λ a b c e h. tells (colour_at B 0 0) a b c e (b == colour_at B 0 0) (e == colour_at B 0 0) refl refl (loose b) h;
  }

  wreath_joined : IsJoined A B (wreath_join (colour_at B 0 0)) (λ p q. number_of (wreath_label A B p q))
  wreath_joined = record {
    has_points = has;
    is = λ p q hp hq.
        ap (λ t. number_of (sorted (colour_at A (p / B.size) (q / B.size)) (colour_at B (p % B.size) (q % B.size)) t))
        (same_sort (p % B.size) (q % B.size) (mod_below p B.size has) (mod_below q B.size has));
  }

pub wreath_is_coherent : (A B P : PairColouring) → Coherent A → Coherent B → HasOneFibre A → HasOneFibre B → WreathProduct A B P → Coherent P
wreath_is_coherent A B P a b fa fb p =
    let has = product_points A.size B.size (wreath_label A B) P p in
    labelling_is_coherent (A.size * B.size) (wreath_label A B) P p
    (joined_is_coherent A B (wreath_join (colour_at B 0 0)) (λ p q. number_of (wreath_label A B p q)) a b
    (wreath_joining A B a b fa fb has) (wreath_joined A B a b fa fb has))
