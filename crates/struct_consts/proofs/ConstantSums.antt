-- Sums of the constants of a configuration.
use Rattle.std.proofs.Common.{◌≡◌, ◌==◌, ℕ, suc, zero, ◌+◌, ◌*◌, ◌<◌, ◌≤◌, cond, length, take, count_by, sum_by, ⊎_elim, sym, ap, subst, ◌∙◌, arith}
use Rattle.std.proofs.lemmas.Bool.{cases_eq, eq-eqb, ne_eqb}
use Rattle.std.proofs.lemmas.List.{take_all}
use Rattle.std.proofs.lemmas.List.Sums.{sum_by_more}
use Rattle.pair_colours.specs.Colouring.{PairColouring, IsColouring, colour_at, points}
use Rattle.pair_colours.specs.Naming.{rank_of}
use Rattle.pair_colours.specs.IntersectionNumber.{pair_of_class, intersection_number}
use Rattle.pair_colours.proofs.Counts.{unit_of}
use Rattle.pair_colours.proofs.Measure.{sum_by_points_more}
use Rattle.pair_colours.proofs.Places.{place_below}
use Rattle.struct_consts.specs.ClassData.{IsConfiguration, row_count, valency_of, class_size, fibres_of, fibre_size}
use Rattle.struct_consts.proofs.Configurations.{pair_of_class-holds, colour_at-below}
use Rattle.struct_consts.proofs.Constancy.{valency-fibre, row_count-other}
use Rattle.struct_consts.proofs.Sums.{all_counted, sum_chosen}

pub constants_sum : (K : PairColouring) → IsConfiguration K → (k : ℕ) → k < rank_of K
    → sum_by (λ i. sum_by (λ j. intersection_number K i j k) (points (rank_of K))) (points (rank_of K)) ≡ K.size
constants_sum K h k l =
    let p = pair_of_class-holds K h k l in
    all_counted (λ z. colour_at K (pair_of_class K k).0 z) (λ z. colour_at K z (pair_of_class K k).1) (rank_of K) K.size
    (λ z m. (colour_at-below K h (pair_of_class K k).0 z p.row m, colour_at-below K h z (pair_of_class K k).1 m p.column))

-- the pairs of a colour, row by row
row_so_far : (K : PairColouring) → IsColouring K → (k x m : ℕ) → x < K.size → m ≤ K.size
    → count_by (λ colour. colour == k) (take (x * K.size + m) K.colours) ≡ count_by (λ colour. colour == k) (take (x * K.size) K.colours) + count_by (λ v. colour_at K x v == k) (points m)
row_so_far K a k x zero hx hm =
    let e : x * K.size + 0 ≡ x * K.size = omega arith in
    ap (λ p. count_by (λ colour. colour == k) (take p K.colours)) e ∙ omega arith
row_so_far K a k x (suc m) hx hm =
    let again = row_so_far K a k x m hx (omega (arith, hm)) in
    let low : x * K.size + m < length K.colours = subst (λ n. x * K.size + m < n) (sym a.has_pairs) (place_below K.size x m hx (omega (arith, hm))) in
    let e : x * K.size + suc m ≡ x * K.size + m + 1 = omega arith in
    ap (λ p. count_by (λ colour. colour == k) (take p K.colours)) e
    ∙ sum_by_more (λ colour. unit_of (colour == k)) K.colours (x * K.size + m) 0 low
    ∙ omega (arith, again, sum_by_points_more (λ v. unit_of (colour_at K x v == k)) m)

rows_so_far : (K : PairColouring) → IsColouring K → (k x : ℕ) → x ≤ K.size
    → count_by (λ colour. colour == k) (take (x * K.size) K.colours) ≡ sum_by (λ z. row_count K z k) (points x)
rows_so_far K a k zero hx = let e : 0 * K.size ≡ 0 = omega arith in ap (λ p. count_by (λ colour. colour == k) (take p K.colours)) e
rows_so_far K a k (suc x) hx =
    let again = rows_so_far K a k x (omega (arith, hx)) in
    let e : suc x * K.size ≡ x * K.size + K.size = omega arith in
    ap (λ p. count_by (λ colour. colour == k) (take p K.colours)) e
    ∙ row_so_far K a k x K.size (omega (arith, hx)) (omega arith)
    ∙ omega (arith, again, sum_by_points_more (λ z. row_count K z k) x)

pub class_size-rows : (K : PairColouring) → IsColouring K → (k : ℕ) → class_size K k ≡ sum_by (λ z. row_count K z k) (points K.size)
class_size-rows K a k =
    ap (count_by (λ colour. colour == k)) (sym (take_all (K.size * K.size) K.colours (omega (arith, a.has_pairs))))
    ∙ rows_so_far K a k K.size (omega arith)

pub size_is_fibre_times_valency : (K : PairColouring) → IsConfiguration K → (k : ℕ) → k < rank_of K → class_size K k ≡ fibre_size K (fibres_of K k).0 * valency_of K k
size_is_fibre_times_valency K h k l =
    let p = pair_of_class-holds K h k l in
    let fibre : ℕ = (fibres_of K k).0 in
    let inside : (z : ℕ) → z < K.size → colour_at K z z ≡ fibre → row_count K z k ≡ cond (colour_at K z z == fibre) (valency_of K k) 0 = λ z m e.
    valency-fibre K h k z l m e ∙ ap (λ b. cond b (valency_of K k) 0) (sym (eq-eqb _ _ e)) in
    let outside : (z : ℕ) → z < K.size → (colour_at K z z ≡ fibre → ⊥) → row_count K z k ≡ cond (colour_at K z z == fibre) (valency_of K k) 0 = λ z m ne.
    subst (λ c. row_count K z c ≡ 0) p.colour (row_count-other K h.coherent z (pair_of_class K k).0 (pair_of_class K k).1 m p.row p.column ne)
    ∙ ap (λ b. cond b (valency_of K k) 0) (sym (ne_eqb _ _ ne)) in
    class_size-rows K h.colouring k
    ∙ sum_chosen (λ z. colour_at K z z == fibre) (λ z. row_count K z k) (valency_of K k) K.size
    (λ z m. ⊎_elim (inside z m) (outside z m) (cases_eq (colour_at K z z) fibre))
