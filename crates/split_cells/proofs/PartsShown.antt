-- The numbers of parts, a place of the walk on.
use Rattle.std.proofs.Common.{◌≡◌, ◌↔◌, ◌==◌, ◌&&◌, nat_lt, ℕ, ◌+◌, ◌*◌, ◌^◌, ◌<◌, ◌≤◌, Bool, true, false, List, [], ◌∷◌, ◌++◌, length, get_or, set, replicate, map, filter, count_by, ⊎_elim, sym, ap, subst, ◌∙◌, arith}
use Rattle.std.specs.List.{list_any}
use Rattle.std.proofs.lemmas.Bool.{cases_Bool, cases_eq, cases_lt, eqb-true, ltb-true, and_parts}
use Rattle.std.proofs.lemmas.List.{get_or_append_left, get_or_push, get_or-set_same, get_or-set_other, length_push, length-set, get_or-replicate, length-replicate}
use Rattle.std.proofs.lemmas.List.Sums.{count_by-le-length}
use Rattle.std.proofs.lemmas.Nat.{mul-le}
use Rattle.pair_colours.specs.declared.coloured_pairs.TheConstants.{MOST_POINTS}
use Rattle.pair_colours.specs.Colouring.{PairColouring, colour_at}
use Rattle.pair_colours.specs.Naming.{walk, named_of, rank_of}
use Rattle.pair_colours.specs.Rounds.{Alike, IsRound, first_alike}
use Rattle.pair_colours.proofs.Exists.{first_alike-same}
use Rattle.pair_colours.proofs.Names.{InSquare, Each-walk}
use Rattle.trace_text.specs.declared.step_list.Step.TheVariants.{Round}
use Rattle.trace_text.specs.Partition.{IsPartition}
use Rattle.trace_text.specs.Split.{has_smaller_key, later_keys, parted_by, split_of}
use Rattle.pair_colours.proofs.Below.{below, below_none, below_next, met_once}
use Rattle.trace_text.proofs.Parting.{any_holds, key_counts, key_found, moves, smaller_moves, parted_moved, parted_kept, parted_together, rank_of-parted_by, IsPartition-parted_by}
use Rattle.trace_text.proofs.Ranks.{rank_of-le_pairs}
use Rattle.split_cells.specs.PartNumbers.{IsReached, IsShownTo, IsShown}
use Rattle.split_cells.proofs.WalkKeys.{StandsAt, key_inside, key-le, key-alike, colour-le}

module _ (P R : PairColouring) (r : IsRound P R) (named : named_of R ≡ R) (numbers : List ℕ) (seen : List Bool) (fresh place x y : ℕ)
    (s : StandsAt P place x y) (t : IsShownTo P R numbers seen fresh place) where
  abbrev key : ℕ → ℕ → ℕ
  key = first_alike P

  abbrev later : List ℕ
  later = later_keys P key

  -- pairs whose first alike pair stands at this place
  same_key : (u v : ℕ) → u < P.size → v < P.size → key u v ≡ place → key u v ≡ key x y
  same_key u v hu hv e = first_alike-same P u v x y (key-alike P place x y u v s hu hv e)

  same_class : (u v : ℕ) → u < P.size → v < P.size → key u v ≡ place → colour_at P u v ≡ colour_at P x y
  same_class u v hu hv e = (key-alike P place x y u v s hu hv e).own

  -- a place that is no later key counts nothing
  absent : ((u v : ℕ) → u < P.size → v < P.size → has_smaller_key P key u v ≡ true → key u v ≡ place → ⊥) → below later (place + 1) ≡ below later place
  absent never = ⊎_elim
      (λ l. let w = key_found P key (moves P key) place l in absurd (never w.x w.y w.row w.column w.passes w.is))
      (λ l. omega (arith, below_next later place, l))
      (cases_lt 0 (count_by (λ o. place == o) later))

  longer : (class : ℕ) → IsReached P place class → IsReached P (place + 1) class
  longer class w = record { x = w.x; y = w.y; row = w.row; column = w.column; is = w.is; first = omega (arith, w.first) }

  -- a pair whose class has been met before
  pub shown_kept : (colour_at R x y ≡ length numbers → ⊥) → IsShownTo P R numbers seen fresh (place + 1)
  shown_kept ne =
      let le = colour-le P R r named place x y (length numbers) s (λ u v hu hv l. (t.met u v hu hv).1 l) in
      let early : key x y < place = (t.met x y s.row s.column).0 (omega (arith, le, ne)) in
      let before : (u v : ℕ) → u < P.size → v < P.size → key u v < place + 1 → key u v < place = λ u v hu hv l. ⊎_elim
      (λ m. m)
      (λ m. let e : key u v ≡ place = omega (arith, l, m) in absurd (omega (arith, e, early, same_key u v hu hv e)))
      (cases_lt (key u v) place) in
      record {
        met = λ u v hu hv. (λ l. (let m = (t.met u v hu hv).0 l in omega (arith, m)), λ l. (t.met u v hu hv).1 (before u v hu hv l));
        shown = t.shown;
        classes = t.classes;
        reached = λ class l. (
          λ e. longer class ((t.reached class l).0 e),
          λ w. (t.reached class l).1 (record { x = w.x; y = w.y; row = w.row; column = w.column; is = w.is; first = before w.x w.y w.row w.column w.first }),
        );
        next = t.next ∙ ap (λ n. rank_of P + n) (sym (absent (λ u v hu hv m e. omega (arith, e, early, same_key u v hu hv e))));
      }

  -- the pair here is the first of its class of the round
  first_here : colour_at R x y ≡ length numbers → key x y ≡ place
  first_here new = ⊎_elim
      (λ l. absurd (let m = (t.met x y s.row s.column).1 l in omega (arith, m, new)))
      (λ l. omega (arith, l, key-le P place x y s))
      (cases_lt (key x y) place)

  -- then it gets the number of its part
  module _ (new : colour_at R x y ≡ length numbers) (number : ℕ) (right : number ≡ colour_at (split_of P Round) x y) where
    met_more : (u v : ℕ) → u < P.size → v < P.size → (colour_at R u v < length (numbers ++ number ∷ [])) ↔ (key u v < place + 1)
    met_more u v hu hv = (
      λ l. ⊎_elim
          (λ m. (let f = (t.met u v hu hv).0 m in omega (arith, f)))
          (λ m.
          let e : colour_at R u v ≡ colour_at R x y = omega (arith, l, m, new, length_push numbers number) in
          omega (arith, first_here new, first_alike-same P u v x y (r.apart u v x y hu hv s.row s.column e)))
          (cases_lt (colour_at R u v) (length numbers)),
      λ l. ⊎_elim
          (λ m. (let f = (t.met u v hu hv).1 m in omega (arith, f, length_push numbers number)))
          (λ m.
          let e : key u v ≡ place = omega (arith, l, m) in
          omega (arith, new, length_push numbers number, r.together u v x y hu hv s.row s.column (key-alike P place x y u v s hu hv e)))
          (cases_lt (key u v) place),
    )

    shown_more : (u v : ℕ) → u < P.size → v < P.size → colour_at R u v < length (numbers ++ number ∷ [])
        → get_or (numbers ++ number ∷ []) (colour_at R u v) 0 ≡ colour_at (split_of P Round) u v
    shown_more u v hu hv l = ⊎_elim
        (λ m. get_or_append_left numbers (number ∷ []) 0 (colour_at R u v) m ∙ t.shown u v hu hv m)
        (λ m.
        let e : colour_at R u v ≡ colour_at R x y = omega (arith, l, m, new, length_push numbers number) in
        let a : Alike P x y u v = r.apart x y u v s.row s.column hu hv (sym e) in
        get_or_push numbers number 0 (colour_at R u v) (sym (e ∙ new)) ∙ right
        ∙ parted_together P key x y u v s.row s.column hu hv a.own (first_alike-same P x y u v a))
        (cases_lt (colour_at R u v) (length numbers))

    -- what is reached at this place is the class of its pair, or was reached before
    reached_before : (class : ℕ) → IsReached P (place + 1) class → (class ≡ colour_at P x y → ⊥) → IsReached P place class
    reached_before class w ne = record {
      x = w.x;
      y = w.y;
      row = w.row;
      column = w.column;
      is = w.is;
      first = ⊎_elim
          (λ m. m)
          (λ m. absurd (ne (sym w.is ∙ same_class w.x w.y w.row w.column (omega (arith, m, w.first)))))
          (cases_lt (key w.x w.y) place);
    }

  -- a part of a class that has been seen gets the next new number
  pub shown_later : IsPartition P → colour_at R x y ≡ length numbers → get_or seen (colour_at P x y) false ≡ true → IsShownTo P R (numbers ++ fresh ∷ []) seen (fresh + 1) (place + 1)
  shown_later h new e = record {
    met = met_more new fresh right;
    shown = shown_more new fresh right;
    classes = t.classes;
    reached = λ class l. (
      λ q. longer class ((t.reached class l).0 q),
      λ q. ⊎_elim
          (λ same. ap (λ k. get_or seen k false) same ∙ e)
          (λ ne. (t.reached class l).1 (reached_before new fresh right class q ne))
          (cases_eq class (colour_at P x y)),
    );
    next = omega (arith, t.next, below_next later place, once);
  }
    where
      w : IsReached P place (colour_at P x y)
      w = (t.reached (colour_at P x y) (h.below x y s.row s.column)).0 e

      here : key x y ≡ place
      here = first_here new

      moved : has_smaller_key P key x y ≡ true
      moved = smaller_moves P key w.x w.y x y w.row w.column s.row s.column w.is (omega (arith, w.first, here))

      right : fresh ≡ colour_at (split_of P Round) x y
      right = t.next ∙ ap (λ n. rank_of P + below later n) (sym here) ∙ sym (parted_moved P key x y s.row s.column moved)

      once : count_by (λ o. place == o) later ≡ 1
      once =
          let some : 0 < count_by (λ o. place == o) later = subst (λ k. 0 < count_by (λ o. k == o) later) here (key_counts P key (moves P key) x y s.row s.column moved) in
          let one : count_by (λ o. place == o) later ≤ 1 = met_once (map (λ p. key p.0 p.1) (filter (moves P key) (walk P.size))) place in
          omega (arith, some, one)

  -- the first part of a class keeps its number
  pub shown_first : IsPartition P → colour_at R x y ≡ length numbers → get_or seen (colour_at P x y) false ≡ false
      → IsShownTo P R (numbers ++ colour_at P x y ∷ []) (set seen (colour_at P x y) true) fresh (place + 1)
  shown_first h new e = record {
    met = met_more new (colour_at P x y) right;
    shown = shown_more new (colour_at P x y) right;
    classes = length-set seen (colour_at P x y) true ∙ t.classes;
    reached = λ class l. ⊎_elim
        (λ same. (
          λ q. record { x = x; y = y; row = s.row; column = s.column; is = sym same; first = omega (arith, here) },
          λ q. ap (λ k. get_or (set seen (colour_at P x y) true) k false) same ∙ get_or-set_same seen (colour_at P x y) true false (omega (arith, low, t.classes)),
        ))
        (λ ne. (
          λ q. longer class ((t.reached class l).0 (sym (get_or-set_other seen (colour_at P x y) class true false ne) ∙ q)),
          λ q. get_or-set_other seen (colour_at P x y) class true false ne ∙ (t.reached class l).1 (reached_before new (colour_at P x y) right class q ne),
        ))
        (cases_eq class (colour_at P x y));
    next = t.next ∙ ap (λ n. rank_of P + n) (sym (absent none));
  }
    where
      low : colour_at P x y < rank_of P
      low = h.below x y s.row s.column

      here : key x y ≡ place
      here = first_here new

      stays : has_smaller_key P key x y ≡ true → ⊥
      stays m =
          let w = any_holds (λ p. (colour_at P p.0 p.1 == colour_at P x y) && nat_lt (key p.0 p.1) (key x y)) (InSquare P.size) (walk P.size) (Each-walk P.size) m in
          let q = w.0 in
          let both = and_parts (colour_at P q.0 q.1 == colour_at P x y) (nat_lt (key q.0 q.1) (key x y)) w.2 in
          let less = ltb-true _ _ both.1 in
          let z : true ≡ false = sym ((t.reached (colour_at P x y) low).1 (record { x = q.0; y = q.1; row = w.1.0; column = w.1.1; is = eqb-true _ _ both.0; first = omega (arith, less, here) })) ∙ e in
          cc

      kept : has_smaller_key P key x y ≡ false
      kept = ⊎_elim (λ m. absurd (stays m)) (λ m. m) (cases_Bool (has_smaller_key P key x y))

      right : colour_at P x y ≡ colour_at (split_of P Round) x y
      right = sym (parted_kept P key x y s.row s.column kept)

      none : (u v : ℕ) → u < P.size → v < P.size → has_smaller_key P key u v ≡ true → key u v ≡ place → ⊥
      none u v hu hv m f =
          let same : has_smaller_key P key u v ≡ has_smaller_key P key x y =
          λ i. list_any (λ p. (colour_at P p.0 p.1 == same_class u v hu hv f i) && nat_lt (key p.0 p.1) (same_key u v hu hv f i)) (walk P.size) in
          stays (sym same ∙ m)

-- new numbers are small
pub fresh_small : (P R : PairColouring) (numbers : List ℕ) (seen : List Bool) (fresh place : ℕ) → IsPartition P → P.size ≤ MOST_POINTS → IsShownTo P R numbers seen fresh place → fresh + 1 < 2 ^ 32
fresh_small P R numbers seen fresh place h l t =
    let key = first_alike P in
    omega (
      arith,
      t.next,
      count_by-le-length (λ other. nat_lt other place) (later_keys P key),
      rank_of-parted_by P key h,
      rank_of-le_pairs (parted_by P key) (IsPartition-parted_by P key h).colouring,
      mul-le P.size P.size MOST_POINTS MOST_POINTS l l,
    )

-- before the walk nothing is shown
pub shown_start : (P R : PairColouring) (numbers : List ℕ) (seen : List Bool) (fresh : ℕ) → fresh ≡ rank_of P → numbers ≡ [] → seen ≡ replicate fresh false → IsShownTo P R numbers seen fresh 0
shown_start P R numbers seen fresh rank none unseen = record {
  met = λ u v hu hv. (λ l. absurd (omega (arith, l, ap length none)), λ l. absurd (omega (arith, l)));
  shown = λ u v hu hv l. absurd (omega (arith, l, ap length none));
  classes = ap length unseen ∙ length-replicate fresh false ∙ rank;
  reached = λ class l. (
    λ q. let z : true ≡ false = sym q ∙ ap (λ marks. get_or marks class false) unseen ∙ get_or-replicate fresh class false false (omega (arith, l, rank)) in cc,
    λ q. absurd (omega (arith, q.first)),
  );
  next = omega (arith, rank, below_none (later_keys P (first_alike P)));
}

-- and at its end all parts are
pub shown_end : (P R : PairColouring) (numbers : List ℕ) (seen : List Bool) (fresh place : ℕ) → P.size * P.size ≤ place → IsShownTo P R numbers seen fresh place → IsShown P R numbers
shown_end P R numbers seen fresh place e t =
    let inside : (x y : ℕ) → x < P.size → y < P.size → colour_at R x y < length numbers = λ x y hx hy. (t.met x y hx hy).1 (omega (arith, key_inside P x y hx hy, e)) in
    record { inside = inside; is = λ x y hx hy. t.shown x y hx hy (inside x y hx hy) }
