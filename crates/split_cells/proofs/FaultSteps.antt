-- Steps that part two pairs of their class, and what follows where there are none.
use Rattle.std.proofs.Common.{◌≡◌, ◌≢◌, ◌==◌, ◌&&◌, ℕ, ◌+◌, ◌-◌, ◌*◌, ◌/◌, ◌%◌, ◌<◌, ◌≤◌, if◌then◌else◌, List, [], ◌∷◌, length, get_or, map, count_by, ⊎_elim, refl, sym, ap, subst, ◌∙◌, arith}
use Rattle.std.proofs.lemmas.Bool.{cases_eq, eq-eqb, ne_eqb, and_from}
use Rattle.std.proofs.lemmas.List.Elements.{All-cons, All-nil}
use Rattle.std.proofs.lemmas.List.FromFn.{get_or-map-range_with_len}
use Rattle.std.proofs.lemmas.Nat.{div-add-mod', div-mul-add, mod-mul-add}
use Rattle.pair_colours.specs.Colouring.{PairColouring, colour_at, points, triangles}
use Rattle.pair_colours.proofs.Counts.{unit_of}
use Rattle.pair_colours.proofs.Places.{place_below, row_below, column_below}
use Rattle.trace_text.specs.declared.step_list.Step.{Step}
use Rattle.trace_text.specs.declared.step_list.Step.TheVariants.{Diag, Flip, Tri}
use Rattle.trace_text.specs.Split.{HasParts}
use Rattle.split_cells.specs.declared.classed_pairs.ClassedPairs.{ClassedPairs}
use Rattle.split_cells.specs.Segments.{class_at, first_of}
use Rattle.split_cells.specs.Grids.{IsUsed, grid}
use Rattle.split_cells.specs.Pairs.{IsClassed, fibre_of, lead_of, partition_of}
use Rattle.split_cells.specs.Codes.{IsShort}
use Rattle.split_cells.specs.Keys.{IsKey, class_of, key_at}
use Rattle.split_cells.specs.Faults.{IsSettled, HasHomes, NamesBelow, SplitsTwo}
use Rattle.split_cells.specs.FirstPairs.{IsLikeFirst, IsHomeOfFirst, diagonal_of}
use Rattle.wl_round.proofs.PointCounts.{count_none, count_hit}
use Rattle.split_cells.proofs.SegmentLemmas.{first_member}
use Rattle.split_cells.proofs.GatherLemmas.{some_size, turned_at}
use Rattle.split_cells.proofs.PartLemmas.{count_apart, each, key_once, keys}
use Rattle.split_cells.proofs.OneClassSteps.{SplitsTwo-one_class}
use Rattle.split_cells.proofs.CellLemmas.{keys_of_counts, parts_from_keys}

-- the numbers that a step names
pub names_one : (r k : ℕ) → k < r → NamesBelow r (Diag k)
names_one r k l = All-cons (λ number. number < r) k [] l (All-nil (λ number. number < r))

pub names_two : (r k i : ℕ) → k < r → i < r → NamesBelow r (Flip k i)
names_two r k i l m = All-cons (λ number. number < r) k (i ∷ []) l (names_one r i m)

pub names_three : (r k i j : ℕ) → k < r → i < r → j < r → NamesBelow r (Tri k i j)
names_three r k i j l m n = All-cons (λ number. number < r) k (i ∷ j ∷ []) l (names_two r i j m n)

-- a step that parts two pairs of its class is not idle
pub SplitsTwo-parts : (size : ℕ) (class : List ℕ) (rank : ℕ) (s : Step) → length class ≡ size * size → SplitsTwo (grid size class) rank s → HasParts (grid size class) s
SplitsTwo-parts size class rank s len f =
    let p = f.first in
    let q = f.second in
    let hp = f.first_in in
    let hq = f.second_in in
    let P = grid size class in
    let counts : List ℕ = map (key_at P s) (points (size * size)) in
    let at : (r : ℕ) → r < size * size → get_or counts r 0 ≡ key_at P s r = λ r l. get_or-map-range_with_len (key_at P s) 0 (size * size) r r 0 l (omega arith) in
    let same = keys_of_counts size class counts s len (λ r l e. at r (omega (arith, l, len))) in
    let one : IsKey class counts (class_of s) (key_at P s p) = record { number = p; inside = omega (arith, hp, len); member = f.first_class; is = at p hp } in
    let two : IsKey class counts (class_of s) (key_at P s q) = record { number = q; inside = omega (arith, hq, len); member = f.second_class; is = at q hq } in
    let apart = count_apart (λ w. w == key_at P s p) (λ w. w == key_at P s q) (keys size class len counts (class_of s))
    (each (λ w. unit_of (w == key_at P s p) + unit_of (w == key_at P s q) ≤ 1) (λ w.
    ⊎_elim
    (λ e. omega (arith, ap unit_of (eq-eqb w (key_at P s p) e), ap unit_of (ne_eqb w (key_at P s q) (λ g. f.apart (sym e ∙ g)))))
    (λ ne. ⊎_elim
    (λ e. omega (arith, ap unit_of (ne_eqb w (key_at P s p) ne), ap unit_of (eq-eqb w (key_at P s q) e)))
    (λ no. omega (arith, ap unit_of (ne_eqb w (key_at P s p) ne), ap unit_of (ne_eqb w (key_at P s q) no)))
    (cases_eq w (key_at P s q)))
    (cases_eq w (key_at P s p))) (keys size class len counts (class_of s))) in
    (parts_from_keys P s (SplitsTwo-one_class P rank s f)).1 (subst (λ l. 2 ≤ length l) same
    (omega (arith, apart, key_once size class len counts (class_of s) (key_at P s p) one, key_once size class len counts (class_of s) (key_at P s q) two)))

-- a triangle is counted
pub some_triangle : (P : PairColouring) (x y z i j : ℕ) → z < P.size → colour_at P x z ≡ i → colour_at P z y ≡ j → 0 < triangles P x y i j
some_triangle P x y z i j hz e f =
    let m : ℕ = P.size - z - 1 in
    let w : z + 1 + m ≡ P.size = omega (arith, hz) in
    let hit = count_hit (λ z. (colour_at P x z == i) && (colour_at P z y == j)) z m (and_from _ _ (eq-eqb _ _ e) (eq-eqb _ _ f)) in
    omega (arith, hit, ap (λ n. count_by (λ z. (colour_at P x z == i) && (colour_at P z y == j)) (points n)) w)

-- nothing is counted where the first side never comes
pub no_triangle : (P : PairColouring) (x y i j : ℕ) → ((z : ℕ) → z < P.size → colour_at P x z ≢ i) → triangles P x y i j ≡ 0
no_triangle P x y i j none = count_none (λ z. (colour_at P x z == i) && (colour_at P z y == j)) P.size (λ z hz. ap (λ t. t && (colour_at P z y == j)) (ne_eqb _ _ (none z hz)))

-- the pairs of a partition in classes
module _ (pairs : ClassedPairs) (h : IsClassed pairs) where
  abbrev n : ℕ
  n = pairs.size

  abbrev P : PairColouring
  P = partition_of pairs

  pub all_pairs : length pairs.parting.class.items ≡ n * n
  all_pairs = h.parting.classes ∙ h.bound

  pub below : (p : ℕ) → p < n * n → class_at pairs.parting p < pairs.parting.rank
  below p l = h.parting.class_in p (omega (arith, l, h.bound))

  pub turned_is : (p : ℕ) → p < n * n → get_or pairs.turned.items p 0 ≡ colour_at P (p % n) (p / n)
  turned_is p l = turned_at n pairs.parting.class.items pairs.turned.items h.turned (some_size n p l) p l

  pub at_points : (p : ℕ) → colour_at P (p / n) (p % n) ≡ class_at pairs.parting p
  at_points p = ap (class_at pairs.parting) (div-add-mod' p n)

  -- two pairs of one class, parted by the diagonal
  pub splits_diagonal : (k p q : ℕ) → p < n * n → q < n * n → class_at pairs.parting p ≡ k → class_at pairs.parting q ≡ k → diagonal_of pairs p ≢ diagonal_of pairs q → SplitsTwo P pairs.parting.rank (Diag k)
  splits_diagonal k p q hp hq cp cq ne = record {
    names = names_one pairs.parting.rank k (omega (arith, below p hp, cp));
    first = p;
    second = q;
    first_in = hp;
    second_in = hq;
    first_class = cp;
    second_class = cq;
    apart = ne;
  }

  -- or by the class of the transposed pair
  pub splits_turned : (k p q other : ℕ) → p < n * n → q < n * n → class_at pairs.parting p ≡ k → class_at pairs.parting q ≡ k
      → get_or pairs.turned.items p 0 ≡ other → get_or pairs.turned.items q 0 ≢ other → SplitsTwo P pairs.parting.rank (Flip k other)
  splits_turned k p q other hp hq cp cq e ne = record {
    names = names_two pairs.parting.rank k other (omega (arith, below p hp, cp))
        (let some = some_size n p hp in
        omega (arith, turned_is p hp, e, below (p % n * n + p / n) (place_below n (p % n) (p / n) (column_below n p some) (row_below n p some hp))));
    first = p;
    second = q;
    first_in = hp;
    second_in = hq;
    first_class = cp;
    second_class = cq;
    apart = λ same.
        let zero : key_at P (Flip k other) p ≡ 0 = ap (λ b. if b then 0 else 1) (eq-eqb _ other (sym (turned_is p hp) ∙ e)) in
        let one : key_at P (Flip k other) q ≡ 1 = ap (λ b. if b then 0 else 1) (ne_eqb _ other (λ f. ne (turned_is q hq ∙ f))) in
        omega (arith, zero, one, same);
  }

  -- or by triangles
  pub splits_triangles : (k p q i j : ℕ) → p < n * n → q < n * n → class_at pairs.parting p ≡ k → class_at pairs.parting q ≡ k → i < pairs.parting.rank → j < pairs.parting.rank
      → triangles P (p / n) (p % n) i j ≢ triangles P (q / n) (q % n) i j → SplitsTwo P pairs.parting.rank (Tri k i j)
  splits_triangles k p q i j hp hq cp cq li lj ne = record {
    names = names_three pairs.parting.rank k i j (omega (arith, below p hp, cp)) li lj;
    first = p;
    second = q;
    first_in = hp;
    second_in = hq;
    first_class = cp;
    second_class = cq;
    apart = ne;
  }

  -- where each pair is like the first of its class, no class is split by the diagonal or by transposed pairs
  pub IsSettled-from : ((p : ℕ) → p < n * n → IsLikeFirst pairs p) → IsSettled P
  IsSettled-from like = record {
    diagonal = λ x u v hx hu hv e.
        let p = x * n + x in
        let q = u * n + v in
        let hp : p < n * n = place_below n x x hx hx in
        let hq : q < n * n = place_below n u v hu hv in
        let same : diagonal_of pairs p ≡ diagonal_of pairs q = (like p hp).diagonal ∙ ap (λ k. diagonal_of pairs (first_of pairs.parting k)) e ∙ sym (like q hq).diagonal in
        let zero : diagonal_of pairs p ≡ 0 = ap (λ b. if b then 0 else 1) (eq-eqb _ _ (div-mul-add x n x hx ∙ sym (mod-mul-add x n x hx))) in
        ⊎_elim
        (λ f. sym (div-mul-add u n v hv) ∙ f ∙ mod-mul-add u n v hv)
        (λ ne. let one : diagonal_of pairs q ≡ 1 = ap (λ b. if b then 0 else 1) (ne_eqb _ _ ne) in absurd (omega (arith, same, zero, one)))
        (cases_eq (q / n) (q % n));
    turned = λ x y u v hx hy hu hv e.
        let p = x * n + y in
        let q = u * n + v in
        let hp : p < n * n = place_below n x y hx hy in
        let hq : q < n * n = place_below n u v hu hv in
        sym (h.turned.is x y hx hy) ∙ (like p hp).turned ∙ ap (λ k. get_or pairs.turned.items (first_of pairs.parting k) 0) e ∙ sym (like q hq).turned ∙ h.turned.is u v hu hv;
  }

  -- where each pair comes from the fibre of the first of its class, each class has a home
  pub HasHomes-from : ((p : ℕ) → p < n * n → IsHomeOfFirst pairs p) → HasHomes P
  HasHomes-from home = record {
    home = λ x y u v hx hy hu hv e.
        let p = x * n + y in
        let q = u * n + v in
        let hp : p < n * n = place_below n x y hx hy in
        let hq : q < n * n = place_below n u v hu hv in
        ap (fibre_of pairs) (sym (div-mul-add x n y hy)) ∙ sym (home p hp) ∙ ap (λ k. fibre_of pairs (first_of pairs.parting k / n)) e ∙ home q hq ∙ ap (fibre_of pairs) (div-mul-add u n v hv);
  }

  module _ (s : IsSettled P) where
    -- a class whose pairs come from two fibres
    pub splits_homes : (k p q : ℕ) → p < n * n → q < n * n → class_at pairs.parting p ≡ k → class_at pairs.parting q ≡ k → fibre_of pairs (q / n) ≢ fibre_of pairs (p / n)
        → SplitsTwo P pairs.parting.rank (Tri k (fibre_of pairs (p / n)) k)
    splits_homes k p q hp hq cp cq ne =
        let some = some_size n p hp in
        let x0 = row_below n p some hp in
        let u0 = row_below n q some hq in
        let one = some_triangle P (p / n) (p % n) (p / n) (fibre_of pairs (p / n)) k x0 refl (at_points p ∙ cp) in
        let none = no_triangle P (q / n) (q % n) (fibre_of pairs (p / n)) k (λ z hz e.
        let same : q / n ≡ z = s.diagonal (p / n) (q / n) z x0 u0 hz (sym e) in
        ne (ap (colour_at P (q / n)) same ∙ e)) in
        splits_triangles k p q (fibre_of pairs (p / n)) k hp hq cp cq (below (p / n * n + p / n) (place_below n (p / n) (p / n) x0 x0)) (omega (arith, below p hp, cp))
        (λ same. omega (arith, one, none, same))

    -- a class that does not come in the row from another point of its fibre
    pub splits_rows : (x z q : ℕ) → x < n → z < n → q < n * n → class_at pairs.parting q ≡ fibre_of pairs x → ((w : ℕ) → w < n → colour_at P (q / n) w ≢ colour_at P x z)
        → SplitsTwo P pairs.parting.rank (Tri (fibre_of pairs x) (colour_at P x z) (colour_at P z x))
    splits_rows x z q hx hz hq cq none =
        let p = x * n + x in
        let hp : p < n * n = place_below n x x hx hx in
        let one = some_triangle P x x z (colour_at P x z) (colour_at P z x) hz refl refl in
        let zero = no_triangle P (q / n) (q % n) (colour_at P x z) (colour_at P z x) none in
        let here : triangles P (p / n) (p % n) (colour_at P x z) (colour_at P z x) ≡ triangles P x x (colour_at P x z) (colour_at P z x) =
        λ i. triangles P (div-mul-add x n x hx i) (mod-mul-add x n x hx i) (colour_at P x z) (colour_at P z x) in
        splits_triangles (fibre_of pairs x) p q (colour_at P x z) (colour_at P z x) hp hq refl cq (below (x * n + z) (place_below n x z hx hz)) (below (z * n + x) (place_below n z x hz hx))
        (λ same. omega (arith, one, zero, here, same))

    -- a class that has no short number
    pub splits_unknown : (short : List ℕ) (x z : ℕ) → IsUsed pairs.parting.class.items pairs.parting.rank → IsShort pairs short → x < n → z < n
        → class_at pairs.parting (lead_of pairs (fibre_of pairs x) * n + get_or short (colour_at P x z) 0) ≢ colour_at P x z
        → SplitsTwo P pairs.parting.rank (Tri (fibre_of pairs x) (colour_at P x z) (colour_at P z x))
    splits_unknown short x z used i hx hz unknown =
        let d = fibre_of pairs x in
        let q = first_of pairs.parting d in
        let named = below (x * n + x) (place_below n x x hx hx) in
        let first = first_member pairs.parting h.parting d named (used d named) in
        let hq : q < n * n = omega (arith, first.0, h.bound) in
        let some = some_size n q hq in
        let u = row_below n q some hq in
        let diagonal : q / n ≡ q % n = s.diagonal x (q / n) (q % n) hx u (column_below n q some) (sym first.1 ∙ sym (at_points q)) in
        let own : fibre_of pairs (q / n) ≡ d = ap (λ w. colour_at P (q / n) w) diagonal ∙ at_points q ∙ first.1 in
        splits_rows x z q hx hz hq first.1 (λ w hw e.
        unknown (ap (λ k. class_at pairs.parting (q / n * n + get_or short k 0)) (sym e) ∙ i.stands (q / n) w u hw (ap (lead_of pairs) own) ∙ e))
