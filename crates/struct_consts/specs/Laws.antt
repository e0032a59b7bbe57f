-- What holds of the constants of every coherent configuration (Higman, Coherent configurations I, 1975, section 2).
use Rattle.std.specs.Prelude.{◌≡◌, ◌↔◌, ℕ, ◌*◌, ◌<◌, sum_by, Some}
use Rattle.pair_colours.specs.Colouring.{PairColouring, IsColour, colour_at, points, triangles}
use Rattle.pair_colours.specs.Closure.{Coherent}
use Rattle.pair_colours.specs.Naming.{rank_of, first_pair_of}
use Rattle.pair_colours.specs.IntersectionNumber.{intersection_number, pair_of_class}
use Rattle.struct_consts.specs.ClassData.{IsConfiguration, IsPairOf, row_count, valency_of, class_size, fibres_of, fibre_size}

-- the colours are the numbers below the rank
abbrev pub ColoursAreBelowRank : Type 0
ColoursAreBelowRank = (K : PairColouring) → IsConfiguration K → (k : ℕ) → (k < rank_of K) ↔ IsColour K k

-- each class has a first pair, and that is one of its pairs
abbrev pub ClassesHavePairs : Type 0
ClassesHavePairs = (K : PairColouring) → IsConfiguration K → (k : ℕ) → k < rank_of K
    → (first_pair_of K k ≡ Some (pair_of_class K k)) × IsPairOf K k (pair_of_class K k)

-- over two pairs of one colour stand the same triangles: where z stands over (x, y), some w stands alike over (u, v)
abbrev pub TrianglesMove : Type 0
TrianglesMove = (K : PairColouring) → Coherent K → (x y u v z : ℕ) → x < K.size → y < K.size → u < K.size → v < K.size → z < K.size
    → colour_at K x y ≡ colour_at K u v
    → (w : ℕ) × (w < K.size) × (colour_at K u w ≡ colour_at K x z) × (colour_at K w v ≡ colour_at K z y)

-- the triangle numbers of every pair are the intersection numbers of its class
abbrev pub TrianglesAreConstants : Type 0
TrianglesAreConstants = (K : PairColouring) → IsConfiguration K → (x y i j : ℕ) → x < K.size → y < K.size
    → triangles K x y i j ≡ intersection_number K i j (colour_at K x y)

-- at every point of its fibre a class has its valency
abbrev pub RowsAreValencies : Type 0
RowsAreValencies = (K : PairColouring) → IsConfiguration K → (k x : ℕ) → k < rank_of K → x < K.size
    → colour_at K x x ≡ (fibres_of K k).0 → row_count K x k ≡ valency_of K k

-- the intersection numbers of a class, over all i and j, count each point once
abbrev pub ConstantsSumToSize : Type 0
ConstantsSumToSize = (K : PairColouring) → IsConfiguration K → (k : ℕ) → k < rank_of K
    → sum_by (λ i. sum_by (λ j. intersection_number K i j k) (points (rank_of K))) (points (rank_of K)) ≡ K.size

-- a class has as many pairs as its fibre has points, times its valency
abbrev pub SizeIsFibreTimesValency : Type 0
SizeIsFibreTimesValency = (K : PairColouring) → IsConfiguration K → (k : ℕ) → k < rank_of K
    → class_size K k ≡ fibre_size K (fibres_of K k).0 * valency_of K k
