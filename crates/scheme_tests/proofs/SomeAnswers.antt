-- Each of the five tests is decided.
use Rattle.std.proofs.Common.{◌≡◌, ◌↔◌, ℕ, ◌<◌, ◌≤◌, Bool, true, false, IsTrue, ◌⊎◌, inl, inr, ⊎_elim, refl, arith}
use Rattle.std.proofs.lemmas.Bool.{cases_lt, cases_eq, false≢true}
use Rattle.pair_colours.specs.Colouring.{PairColouring, colour_at}
use Rattle.pair_colours.specs.Naming.{rank_of}
use Rattle.pair_colours.specs.IntersectionNumber.{intersection_number}
use Rattle.pair_colours.proofs.Reaching.{each_below, all_below}
use Rattle.struct_consts.specs.ClassData.{IsConfiguration, valency_of}
use Rattle.scheme_tests.specs.declared.properties.SchemeTests.{SchemeTests}
use Rattle.scheme_tests.specs.SchemeTests.{Homogeneous, Symmetric, Commutative, CommutesAt, Thin, Spans, HasProperSet, Primitive}
use Rattle.scheme_tests.specs.Law.{AreAnswers}
use Rattle.scheme_tests.proofs.ClosedSets.{primitive_from_spans, not_primitive}
use Rattle.scheme_tests.proofs.TestLemmas.{commutative_from_each, commutes_at_each, thin_from_valencies, valencies_in_thin}
use Rattle.scheme_tests.proofs.SomeMarks.{spans_or_proper}

homogeneous_or_not : (K : PairColouring) → Homogeneous K ⊎ ¬ Homogeneous K
homogeneous_or_not K = ⊎_elim
    (λ all. inl (record { one_fibre = λ x y hx hy. all x hx y hy }))
    (λ not. inr (λ h. not (λ x hx y hy. h.one_fibre x y hx hy)))
    (all_below (λ x. (y : ℕ) → y < K.size → colour_at K x x ≡ colour_at K y y) K.size
    (λ x _. all_below (λ y. colour_at K x x ≡ colour_at K y y) K.size (λ y _. cases_eq (colour_at K x x) (colour_at K y y))))

symmetric_or_not : (K : PairColouring) → Symmetric K ⊎ ¬ Symmetric K
symmetric_or_not K = ⊎_elim
    (λ all. inl (record { turned = λ x y hx hy. all x hx y hy }))
    (λ not. inr (λ h. not (λ x hx y hy. h.turned x y hx hy)))
    (all_below (λ x. (y : ℕ) → y < K.size → colour_at K x y ≡ colour_at K y x) K.size
    (λ x _. all_below (λ y. colour_at K x y ≡ colour_at K y x) K.size (λ y _. cases_eq (colour_at K x y) (colour_at K y x))))

commutes_at_or_not : (K : PairColouring) (k : ℕ) → CommutesAt K k ⊎ ¬ CommutesAt K k
commutes_at_or_not K k = ⊎_elim
    (λ all. inl (record { swapped = λ i j hi hj. all i hi j hj }))
    (λ not. inr (λ h. not (λ i hi j hj. h.swapped i j hi hj)))
    (all_below (λ i. (j : ℕ) → j < rank_of K → intersection_number K i j k ≡ intersection_number K j i k) (rank_of K)
    (λ i _. all_below (λ j. intersection_number K i j k ≡ intersection_number K j i k) (rank_of K) (λ j _. cases_eq (intersection_number K i j k) (intersection_number K j i k))))

commutative_or_not : (K : PairColouring) → IsConfiguration K → Commutative K ⊎ ¬ Commutative K
commutative_or_not K g = ⊎_elim
    (λ all. inl (commutative_from_each K (rank_of K) g (omega arith) (record { each = all })))
    (λ not. inr (λ h. not (commutes_at_each K g h)))
    (all_below (CommutesAt K) (rank_of K) (λ k _. commutes_at_or_not K k))

thin_or_not : (K : PairColouring) → IsConfiguration K → Thin K ⊎ ¬ Thin K
thin_or_not K g = ⊎_elim
    (λ h. ⊎_elim
    (λ one. inl (thin_from_valencies K g h one))
    (λ not. inr (λ t. not (valencies_in_thin K g t)))
    (all_below (λ c. valency_of K c ≡ 1) (rank_of K) (λ c _. cases_eq (valency_of K c) 1)))
    (λ not. inr (λ t. not t.homogeneous))
    (homogeneous_or_not K)

-- each class off the diagonal spans everything, or one of them does not
primitive_at_rank : (K : PairColouring) → IsConfiguration K → Homogeneous K → 2 ≤ rank_of K → Primitive K ⊎ ¬ Primitive K
primitive_at_rank K g h two = ⊎_elim
    (λ all. inl (primitive_from_spans K g h two all))
    (λ s. inr (not_primitive K g s.0 s.1 s.2.0 s.2.1))
    (each_below (λ k. (k ≡ colour_at K 0 0 → ⊥) → Spans K k) (λ k. (k ≡ colour_at K 0 0 → ⊥) × HasProperSet K k) (rank_of K) class)
  where
    class : (k : ℕ) → k < rank_of K → ((k ≡ colour_at K 0 0 → ⊥) → Spans K k) ⊎ ((k ≡ colour_at K 0 0 → ⊥) × HasProperSet K k)
    class k l = ⊎_elim
        (λ e. inl (λ ne. absurd (ne e)))
        (λ ne. ⊎_elim (λ s. inl (λ _. s)) (λ p. inr (ne, p)) (spans_or_proper K g h k l))
        (cases_eq k (colour_at K 0 0))

primitive_or_not : (K : PairColouring) → IsConfiguration K → Primitive K ⊎ ¬ Primitive K
primitive_or_not K g = ⊎_elim
    (λ h. ⊎_elim
    (λ (l : rank_of K < 2). inr (λ p. omega (arith, l, p.rank)))
    (λ (l : 2 ≤ rank_of K). primitive_at_rank K g h l)
    (cases_lt (rank_of K) 2))
    (λ not. inr (λ p. not p.homogeneous))
    (homogeneous_or_not K)

-- the answer of a test that is decided
answer_of : (P : Type 0) → P ⊎ ¬ P → (answer : Bool) × (IsTrue answer ↔ P)
answer_of P h = ⊎_elim
    (λ p. (true, (λ _. p, λ _. refl)))
    (λ not. (false, (λ t. absurd (false≢true t), λ p. absurd (not p))))
    h

pub answers_exist : (K : PairColouring) → IsConfiguration K → (t : SchemeTests) × AreAnswers K t
answers_exist K g =
    let a = answer_of (Homogeneous K) (homogeneous_or_not K) in
    let b = answer_of (Symmetric K) (symmetric_or_not K) in
    let c = answer_of (Commutative K) (commutative_or_not K g) in
    let d = answer_of (Thin K) (thin_or_not K g) in
    let e = answer_of (Primitive K) (primitive_or_not K g) in (
      record { homogeneous = a.0; symmetric = b.0; commutative = c.0; thin = d.0; primitive = e.0 },
      record { homogeneous = a.1; symmetric = b.1; commutative = c.1; thin = d.1; primitive = e.1 },
    )
