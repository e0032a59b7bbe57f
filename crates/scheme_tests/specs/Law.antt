-- What holds of the tests of every coherent configuration.
use Rattle.std.specs.Prelude.{◌≡◌, ◌↔◌, ℕ, ◌<◌, IsTrue}
use Rattle.pair_colours.specs.Colouring.{PairColouring, IsColour}
use Rattle.pair_colours.specs.IntersectionNumber.{intersection_number}
use Rattle.struct_consts.specs.ClassData.{IsConfiguration}
use Rattle.scheme_tests.specs.declared.properties.SchemeTests.{SchemeTests}
use Rattle.scheme_tests.specs.SchemeTests.{Homogeneous, Symmetric, Commutative, Thin, Primitive}

-- t has the answers of the five tests of K
pub record AreAnswers (K : PairColouring) (t : SchemeTests) : Type 0 where
  pub homogeneous : IsTrue t.homogeneous ↔ Homogeneous K
  pub symmetric : IsTrue t.symmetric ↔ Symmetric K
  pub commutative : IsTrue t.commutative ↔ Commutative K
  pub thin : IsTrue t.thin ↔ Thin K
  pub primitive : IsTrue t.primitive ↔ Primitive K

-- the tests of every configuration have answers
abbrev pub AnswersExist : Type 0
AnswersExist = (K : PairColouring) → IsConfiguration K → (t : SchemeTests) × AreAnswers K t

-- for colours i < j, where p(i, j; k) is not 0, p(j, i; k) is the same
pub record CommutesInOrder (K : PairColouring) : Type 0 where
  pub swapped : (i j k : ℕ) → i < j → IsColour K i → IsColour K j → IsColour K k → 0 < intersection_number K i j k
      → intersection_number K j i k ≡ intersection_number K i j k

-- a configuration that commutes in one order of its classes is commutative
abbrev pub OneOrderIsEnough : Type 0
OneOrderIsEnough = (K : PairColouring) → IsConfiguration K → CommutesInOrder K → Commutative K
