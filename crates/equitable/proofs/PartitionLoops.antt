-- The loops over the points of a partition, and what a partition keeps.
use Rattle.std.proofs.Common.{◌≡◌, ◌==◌, ℕ, ◌+◌, ◌-◌, ◌<◌, ◌≤◌, Bool, cond, nat_eq, List, [], ◌∷◌, ◌++◌, length, get_or, map, filter, take, position, Option, Some, None, sym, ap, subst, ◌∙◌, arith, if◌then◌else◌}
use Rattle.std.proofs.lemmas.Bool.{eq-eqb, ne_eqb, lt-ltb}
use Rattle.std.proofs.lemmas.List.{append-nil, map-append, map_more, take_more, length-map, length-replicate, get_or_default}
use Rattle.std.proofs.lemmas.List.Elements.{filter-append}
use Rattle.std.proofs.lemmas.List.FromFn.{map-range_with_len_more, length-map-range_with_len, get_or-map-range_with_len, length-range_with_len}
use Rattle.std.proofs.lemmas.List.Sums.{length-filter, count_by-le-length}
use Rattle.indexmap.specs.IndexSet.{insert_key}
use Rattle.pair_colours.specs.Colouring.{PairColouring, points}
use Rattle.pair_colours.specs.declared.coloured_pairs.TheConstants.{MOST_POINTS}
use Rattle.pair_colours.specs.Naming.{first_met}
use Rattle.pair_colours.proofs.Counts.{points_more}
use Rattle.pair_colours.proofs.Walked.{first_met_push}
use Rattle.pair_colours.proofs.Few.{first_met-le}
use Rattle.equitable.specs.declared.cell_steps.CellStep.{CellStep}
use Rattle.equitable.specs.Equitable.{arcs_into, cell_count, cell_number}
use Rattle.equitable.specs.CellSplit.{keys_in, parted_by, key_of, split_of, NamesCells}
use Rattle.equitable.specs.Cells.{UsesBelow, FitsCells}
use Rattle.equitable.specs.Acceptance.{one_cell}
use Rattle.equitable.proofs.CellNumbers.{cell_count-le, cell_count_used, number_below, IsCell-at}
use Rattle.equitable.proofs.Parts.{keys_in_agree, parted_by_agree, length-parted_by, UsesBelow-parted_by, some_part}
use Rattle.equitable.proofs.Existing.{UsesBelow-one_cell}

-- one value more
pub value_more : (f : ℕ → ℕ) (x value : ℕ) (old new : List ℕ) → old ≡ map f (points x) → value ≡ f x → new ≡ old ++ value ∷ [] → new ≡ map f (points (x + 1))
value_more f x value old new before is after = after ∙ (λ i. before i ++ is i ∷ []) ∙ sym (map-range_with_len_more f 0 x x (omega arith))

-- one more key is met, or a point of another cell is passed
pub filter_more : (q : ℕ → Bool) (x : ℕ) (l : List ℕ) → filter q (x ∷ []) ≡ l → filter q (points (x + 1)) ≡ filter q (points x) ++ l
filter_more q x l e = ap (filter q) (points_more x) ∙ filter-append q (points x) (x ∷ []) ∙ ap (λ k. filter q (points x) ++ k) e

pub key_met : (W : List ℕ) (key : ℕ → ℕ) (c x d : ℕ) (old new : List ℕ) → get_or W x d ≡ c → x < length W
    → old ≡ first_met (map key (filter (λ z. get_or W z 0 == c) (points x)))
    → new ≡ insert_key nat_eq old (key x) → new ≡ first_met (map key (filter (λ z. get_or W z 0 == c) (points (x + 1))))
key_met W key c x d old new e l before after =
    let q : ℕ → Bool = λ z. get_or W z 0 == c in
    let here : filter q (x ∷ []) ≡ x ∷ [] = ap (λ b. cond b (x ∷ []) []) (eq-eqb _ _ (sym (get_or_default W x d 0 l) ∙ e)) in
    after ∙ ap (λ k. insert_key nat_eq k (key x)) before
    ∙ sym (first_met_push (map key (filter q (points x))) (key x))
    ∙ ap first_met (sym (ap (map key) (filter_more q x (x ∷ []) here) ∙ map-append key (filter q (points x)) (x ∷ [])))

pub key_passed : (W : List ℕ) (key : ℕ → ℕ) (c x d : ℕ) (old new : List ℕ) → (get_or W x d ≡ c → ⊥) → x < length W
    → old ≡ first_met (map key (filter (λ z. get_or W z 0 == c) (points x)))
    → new ≡ old → new ≡ first_met (map key (filter (λ z. get_or W z 0 == c) (points (x + 1))))
key_passed W key c x d old new ne l before after =
    let q : ℕ → Bool = λ z. get_or W z 0 == c in
    let none : filter q (x ∷ []) ≡ [] = ap (λ b. cond b (x ∷ []) []) (ne_eqb _ _ (λ e. ne (get_or_default W x d 0 l ∙ e))) in
    after ∙ before ∙ ap first_met (sym (ap (map key) (filter_more q x [] none ∙ append-nil (filter q (points x)))))

-- one more cell is met
pub cell_met : (W : List ℕ) (i d : ℕ) (old new : List ℕ) → i < length W → old ≡ first_met (take i W) → new ≡ insert_key nat_eq old (get_or W i d)
    → new ≡ first_met (take (i + 1) W)
cell_met W i d old new l before after =
    after ∙ ap (λ k. insert_key nat_eq k (get_or W i d)) before ∙ sym (first_met_push (take i W) (get_or W i d)) ∙ ap first_met (sym (take_more W i d l))

-- the place of a cell among those met is its number
pub cell_position : (W keys : List ℕ) (i d : ℕ) → keys ≡ first_met W → i < length W
    → position (nat_eq (get_or W i d)) keys ≡ Some (cell_number W (get_or W i d))
cell_position W keys i d e l =
    let c : ℕ = get_or W i d in
    let at : get_or W i d ≡ get_or W i 0 = get_or_default W i d 0 l in
    let low : cell_number W c < length (first_met W) = subst (λ k. cell_number W k < length (first_met W)) (sym at)
    (number_below W (get_or W i 0) (IsCell-at W i l)) in
    ap (position (nat_eq c)) e
    ∙ ap (λ b. cond b (Some (cell_number W c)) None) (lt-ltb (cell_number W c) (length (first_met W)) low)

-- the number of each cell up to one more
pub numbers_more : (W : List ℕ) (i d number : ℕ) (old new : List ℕ) (r : Option ℕ) → i < length W → old ≡ map (cell_number W) (take i W)
    → r ≡ Some (cell_number W (get_or W i d)) → r ≡ Some number → new ≡ old ++ number ∷ [] → new ≡ map (cell_number W) (take (i + 1) W)
numbers_more W i d number old new r l before e f s =
    let n : number ≡ cell_number W (get_or W i d) = cc in
    s ∙ (λ j. before j ++ (n j ∷ [])) ∙ sym (map_more (cell_number W) W i d l)

-- what a partition keeps
pub fits_count : (W : List ℕ) (m : ℕ) → FitsCells W m → FitsCells W (cell_count W)
fits_count W m h = subst (FitsCells W) (sym (cell_count_used W m h.numbers)) h

pub fits_one_cell : (n : ℕ) → 1 ≤ n → n ≤ MOST_POINTS → FitsCells (one_cell n) 1
fits_one_cell n some few = record {
  numbers = UsesBelow-one_cell n some;
  some = omega (arith, some, length-replicate {A = ℕ} n 0);
  few = omega (arith, few, length-replicate {A = ℕ} n 0);
}

-- there are no more keys than points
pub keys_in-le : (W : List ℕ) (c : ℕ) (key : ℕ → ℕ) → length (keys_in W c key) ≤ length W
keys_in-le W c key =
    let here : List ℕ = filter (λ x. get_or W x 0 == c) (points (length W)) in
    omega (
      arith,
      first_met-le (map key here),
      length-map here key,
      length-filter (λ x. get_or W x 0 == c) (points (length W)),
      count_by-le-length (λ x. get_or W x 0 == c) (points (length W)),
      length-range_with_len 0 (length W),
    )

-- the keys of the points of a cell, and 0 for the others
abbrev pub key_or_zero : PairColouring → List ℕ → CellStep → ℕ → ℕ
key_or_zero G W s x = if get_or W x 0 == s.cell then arcs_into G W x s.into else 0

key_listed : (G : PairColouring) (W keys : List ℕ) (s : CellStep) → keys ≡ map (key_or_zero G W s) (points G.size) → length W ≡ G.size
    → (x : ℕ) → x < length W → get_or W x 0 ≡ s.cell → get_or keys x 0 ≡ key_of G W s x
key_listed G W keys s e len x l h =
    ap (λ ks. get_or ks x 0) e
    ∙ get_or-map-range_with_len (key_or_zero G W s) 0 G.size x x 0 (omega (arith, l, len)) (omega arith)
    ∙ ap (λ b. if b then arcs_into G W x s.into else 0) (eq-eqb _ _ h)

-- what a step made of a partition
pub record IsMade (G : PairColouring) (W X : List ℕ) (s : CellStep) (count parts : ℕ) : Type 0 where
  pub split : X ≡ split_of G W s
  pub counted : parts ≡ length (keys_in W s.cell (key_of G W s))
  pub some : 1 ≤ parts
  pub fits : FitsCells X (count + (parts - 1))

pub made : (G : PairColouring) (W X keys met : List ℕ) (s : CellStep) (count : ℕ) → FitsCells W count → length W ≡ G.size → NamesCells W s
    → keys ≡ map (key_or_zero G W s) (points G.size) → met ≡ keys_in W s.cell (λ x. get_or keys x 0) → X ≡ parted_by W s.cell (λ x. get_or keys x 0)
    → IsMade G W X s count (length met)
made G W X keys met s count h len names k m x =
    let agree = key_listed G W keys s k len in
    let same : X ≡ split_of G W s = x ∙ parted_by_agree W s.cell (λ z. get_or keys z 0) (key_of G W s) agree in
    let parts : length met ≡ length (keys_in W s.cell (key_of G W s)) = ap length (m ∙ keys_in_agree W s.cell (λ z. get_or keys z 0) (key_of G W s) agree) in
    let low : s.cell < count = omega (arith, names.cell, cell_count_used W count h.numbers) in
    let size : length X ≡ length W = ap length same ∙ length-parted_by W s.cell (key_of G W s) in
    record {
      split = same;
      counted = parts;
      some = omega (arith, parts, some_part W s.cell (key_of G W s) count h.numbers low);
      fits = record {
        numbers = subst (λ n. UsesBelow X (count + (n - 1))) (sym parts)
            (subst (λ Y. UsesBelow Y (count + (length (keys_in W s.cell (key_of G W s)) - 1))) (sym same)
            (UsesBelow-parted_by W s.cell (key_of G W s) count h.numbers low));
        some = omega (arith, h.some, size);
        few = omega (arith, h.few, size);
      };
    }

-- the same over the lists that the code hands on
pub made_by : (G : PairColouring) (now W W1 W2 W3 X keys K1 K2 met : List ℕ) (s : CellStep) (count parts : ℕ) → W ≡ now → W1 ≡ W → W2 ≡ W → W3 ≡ W
    → K1 ≡ keys → K2 ≡ keys
    → FitsCells W count → length now ≡ G.size → NamesCells now s
    → keys ≡ map (key_or_zero G W1 s) (points G.size) → met ≡ keys_in W2 s.cell (λ x. get_or K1 x 0) → X ≡ parted_by W3 s.cell (λ x. get_or K2 x 0)
    → parts ≡ length met
    → IsMade G now X s count parts
made_by G now W W1 W2 W3 X keys K1 K2 met s count parts w e1 e2 e3 f1 f2 h len names k m x p =
    let own = made G W X keys met s count h (ap length w ∙ len) (subst (λ V. NamesCells V s) (sym w) names)
    (k ∙ ap (λ V. map (key_or_zero G V s) (points G.size)) e1)
    (m ∙ (λ i. keys_in (e2 i) s.cell (λ z. get_or (f1 i) z 0)))
    (x ∙ (λ i. parted_by (e3 i) s.cell (λ z. get_or (f2 i) z 0))) in
    subst (λ V. IsMade G V X s count parts) w (subst (IsMade G W X s count) (sym p) own)

-- numbers of cells are small
pub room_by : (W W2 met : List ℕ) (c count : ℕ) (key : ℕ → ℕ) → FitsCells W count → W2 ≡ W → met ≡ keys_in W2 c key → count + length met ≤ 512
room_by W W2 met c count key h e m =
    omega (arith, h.few, cell_count_used W count h.numbers, cell_count-le W, ap length m, keys_in-le W2 c key, ap length e)

-- a key for each point
pub length-keys : (G : PairColouring) (W1 keys : List ℕ) (s : CellStep) → keys ≡ map (key_or_zero G W1 s) (points G.size) → length keys ≡ G.size
length-keys G W1 keys s k = ap length k ∙ length-map-range_with_len (key_or_zero G W1 s) 0 G.size
