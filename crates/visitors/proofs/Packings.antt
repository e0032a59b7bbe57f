-- Packed entries: what is added behind them changes none, and each number is found.
use Rattle.std.proofs.Common.{◌≡◌, ℕ, zero, suc, ◌+◌, ◌-◌, ◌<◌, ◌≤◌, List, [], ◌∷◌, ◌++◌, length, take, drop, map, get_or, slice_index, Result, Ok, Err, OnErr, ⊎_elim, refl, sym, ap, subst, ◌∙◌, arith}
use Rattle.std.proofs.lemmas.Bool.{cases_lt}
use Rattle.std.proofs.lemmas.List.{length-take-le, length-drop, get_or-take, get_or-drop, get_or_push, get_or_append_left, get_or-append_right, length_push, length-append, take_all, take-append-le, drop-append-le, take-append-drop, map-append, append-nil}
use Rattle.std.proofs.lemmas.List.FromFn.{length-map-range_with_len, get_or-map-range_with_len}
use Rattle.std.proofs.Math.Seq.{drop-append_seam}
use Rattle.pair_colours.specs.Colouring.{points}
use Rattle.pair_colours.proofs.Counts.{points_more}
use Rattle.pair_colours.proofs.ListLemmas.{map_agree, Each-points, Each-weaker}
use Rattle.visitors.specs.Entries.{IsEntry}
use Rattle.visitors.specs.Packing.{piece_at, tail_of, unpacked, all_unpacked, width_before, IsPiece, ArePieces}
use Rattle.visitors.specs.declared.pieces.Piece.{Piece}

abbrev none : Piece
none = record { shared = 0; width = 0; start = 0 }

-- what stands behind a tail does not matter
tail_append : (tails extra : List ℕ) (p : Piece) → p.start + (p.width - p.shared) ≤ length tails → tail_of (tails ++ extra) p ≡ tail_of tails p
tail_append tails extra p l =
    ap (take (p.width - p.shared)) (drop-append-le p.start tails extra (omega (arith, l)))
    ∙ take-append-le (p.width - p.shared) (drop p.start tails) extra (omega (arith, l, length-drop p.start tails))

length-tail : (tails : List ℕ) (p : Piece) → p.start + (p.width - p.shared) ≤ length tails → length (tail_of tails p) ≡ p.width - p.shared
length-tail tails p l = length-take-le (p.width - p.shared) (drop p.start tails) (omega (arith, l, length-drop p.start tails))

piece_append : (pieces more : List Piece) (k : ℕ) → k < length pieces → piece_at (pieces ++ more) k ≡ piece_at pieces k
piece_append pieces more k l = get_or_append_left pieces more none k l

module _ (tails : List ℕ) (pieces : List Piece) (a : ArePieces tails pieces) where
  pub unpacked_append : (extra : List ℕ) (more : List Piece) (k : ℕ) → k < length pieces → unpacked (tails ++ extra) (pieces ++ more) k ≡ unpacked tails pieces k
  unpacked_append extra more zero l =
      ap (tail_of (tails ++ extra)) (piece_append pieces more zero l) ∙ tail_append tails extra (piece_at pieces zero) (a.each zero l).stored
  unpacked_append extra more (suc k) l =
      (λ i. take (piece_append pieces more (suc k) l i).shared (unpacked_append extra more k (omega (arith, l)) i) ++ tail_of (tails ++ extra) (piece_append pieces more (suc k) l i))
      ∙ ap (λ t. take (piece_at pieces (suc k)).shared (unpacked tails pieces k) ++ t) (tail_append tails extra (piece_at pieces (suc k)) (a.each (suc k) l).stored)

  pub length-unpacked : (k : ℕ) → k < length pieces → length (unpacked tails pieces k) ≡ (piece_at pieces k).width
  length-unpacked zero l =
      let p = a.each zero l in
      omega (arith, length-tail tails (piece_at pieces zero) p.stored, p.shares, p.shared)
  length-unpacked (suc k) l =
      let p = a.each (suc k) l in
      let q : Piece = piece_at pieces (suc k) in
      omega (arith, length-append (take q.shared (unpacked tails pieces k)) (tail_of tails q), length-take-le q.shared (unpacked tails pieces k) (omega (arith, p.shares, length-unpacked k (omega (arith, l)))), length-tail tails q p.stored, p.shared)

  -- a number of the shared prefix is that of the entry before
  pub number_shared : (k place : ℕ) → suc k < length pieces → place < (piece_at pieces (suc k)).shared
      → (slice_index (unpacked tails pieces (suc k)) place ≡ slice_index (unpacked tails pieces k) place) × (place < (piece_at pieces k).width)
  number_shared k place l m =
      let p = a.each (suc k) l in
      let q : Piece = piece_at pieces (suc k) in
      let len = length-take-le q.shared (unpacked tails pieces k) (omega (arith, p.shares, length-unpacked k (omega (arith, l)))) in
      (get_or_append_left (take q.shared (unpacked tails pieces k)) (tail_of tails q) 0 place (omega (arith, m, len)) ∙ get_or-take q.shared (unpacked tails pieces k) place 0 m, omega (arith, m, p.shares))

  first_not_shared : (l : 0 < length pieces) → (piece_at pieces 0).shared ≡ 0
  first_not_shared l = omega (arith, (a.each 0 l).shares)

  -- the others are stored
  pub number_stored : (k place : ℕ) → k < length pieces → (piece_at pieces k).shared ≤ place → place < (piece_at pieces k).width
      → slice_index (unpacked tails pieces k) place ≡ slice_index tails ((piece_at pieces k).start + (place - (piece_at pieces k).shared))
  number_stored zero place l m n =
      let q : Piece = piece_at pieces zero in
      let z = first_not_shared l in
      get_or-take (q.width - q.shared) (drop q.start tails) place 0 (omega (arith, z, n))
      ∙ get_or-drop q.start tails place 0
      ∙ ap (λ s. get_or tails (q.start + s) 0) (omega (arith, z))
  number_stored (suc k) place l m n =
      let p = a.each (suc k) l in
      let q : Piece = piece_at pieces (suc k) in
      let len = length-take-le q.shared (unpacked tails pieces k) (omega (arith, p.shares, length-unpacked k (omega (arith, l)))) in
      get_or-append_right (take q.shared (unpacked tails pieces k)) (tail_of tails q) q.shared place 0 len m
      ∙ get_or-take (q.width - q.shared) (drop q.start tails) (place - q.shared) 0 (omega (arith, m, n))
      ∙ get_or-drop q.start tails (place - q.shared) 0

  -- one entry back, where the number is shared
  pub number_before : (at place : ℕ) → at < length pieces → place < (piece_at pieces at).shared
      → (1 ≤ at) × (slice_index (unpacked tails pieces (at - 1)) place ≡ slice_index (unpacked tails pieces at) place) × (place < (piece_at pieces (at - 1)).width)
  number_before zero place l m = let z = first_not_shared l in absurd (omega (arith, z, m))
  number_before (suc k) place l m =
      let e : k ≡ suc k - 1 = omega arith in
      let r = number_shared k place l m in
      (omega arith, ap (λ n. slice_index (unpacked tails pieces n) place) (sym e) ∙ sym r.0, subst (λ n. place < (piece_at pieces n).width) e r.1)

  -- entries that are only followed by more numbers are the same
  pub all_append : (extra : List ℕ) → all_unpacked (tails ++ extra) pieces ≡ all_unpacked tails pieces
  all_append extra = map_agree (unpacked (tails ++ extra) pieces) (unpacked tails pieces) (points (length pieces))
      (Each-weaker (λ k. k < length pieces) (λ k. unpacked (tails ++ extra) pieces k ≡ unpacked tails pieces k) same (points (length pieces)) (Each-points (length pieces)))
    where
      same : (k : ℕ) → k < length pieces → unpacked (tails ++ extra) pieces k ≡ unpacked tails pieces k
      same k l = ap (λ ps. unpacked (tails ++ extra) ps k) (sym (append-nil pieces)) ∙ unpacked_append extra [] k l

  piece_longer : (extra : List ℕ) (before : ℕ) (p : Piece) → IsPiece tails before p → IsPiece (tails ++ extra) before p
  piece_longer extra before p q = record { shares = q.shares; shared = q.shared; stored = omega (arith, q.stored, length-append tails extra); narrow = q.narrow }

  pub pieces_append : (extra : List ℕ) → ArePieces (tails ++ extra) pieces
  pieces_append extra = record { each = λ k l. piece_longer extra (width_before pieces k) (piece_at pieces k) (a.each k l) }

  -- one entry more, of which so many first numbers are those of the entry before it
  module _ (entry : List ℕ) (p : Piece) (width : p.width ≡ length entry) (start : p.start ≡ length tails) (narrow : length entry ≤ 16)
      (shared : p.shared ≤ length entry)
      (before : (k : ℕ) → k + 1 ≡ length pieces → p.shared ≤ (piece_at pieces k).width)
      (some : 0 < p.shared → 0 < length pieces)
      (same : (k : ℕ) → k + 1 ≡ length pieces → take p.shared (unpacked tails pieces k) ≡ take p.shared entry) where
    abbrev tail : List ℕ
    tail = drop p.shared entry

    abbrev longer : List ℕ
    longer = tails ++ tail

    new_tail : tail_of longer p ≡ tail
    new_tail =
        ap (λ s. take (p.width - p.shared) (drop s longer)) start
        ∙ ap (take (p.width - p.shared)) (drop-append_seam tails tail)
        ∙ take_all (p.width - p.shared) tail (omega (arith, length-drop p.shared entry, width))

    new_entry : (n : ℕ) → n ≡ length pieces → unpacked longer (pieces ++ p ∷ []) n ≡ entry
    new_entry zero e =
        let z : p.shared ≡ 0 = ⊎_elim (λ (l : 0 < p.shared). absurd (omega (arith, some l, e))) (λ (l : p.shared ≤ 0). omega (arith, l)) (cases_lt 0 p.shared) in
        ap (tail_of longer) (get_or_push pieces p none 0 (sym e)) ∙ new_tail ∙ ap (λ s. drop s entry) z
    new_entry (suc n) e =
        let last : n + 1 ≡ length pieces = omega (arith, e) in
        (λ i. take (get_or_push pieces p none (suc n) (sym e) i).shared (unpacked_append tail (p ∷ []) n (omega (arith, e)) i) ++ tail_of longer (get_or_push pieces p none (suc n) (sym e) i))
        ∙ (λ i. same n last i ++ new_tail i)
        ∙ take-append-drop p.shared entry

    pub all_push : all_unpacked longer (pieces ++ p ∷ []) ≡ all_unpacked tails pieces ++ entry ∷ []
    all_push =
        let f = unpacked longer (pieces ++ p ∷ []) in
        let n : ℕ = length pieces in
        ap (λ k. map f (points k)) (length_push pieces p)
        ∙ ap (map f) (points_more n)
        ∙ map-append f (points n) (n ∷ [])
        ∙ (λ i. olds i ++ new_entry n refl i ∷ [])
      where
        olds : map (unpacked longer (pieces ++ p ∷ [])) (points (length pieces)) ≡ all_unpacked tails pieces
        olds = map_agree (unpacked longer (pieces ++ p ∷ [])) (unpacked tails pieces) (points (length pieces))
            (Each-weaker (λ k. k < length pieces) (λ k. unpacked longer (pieces ++ p ∷ []) k ≡ unpacked tails pieces k) (unpacked_append tail (p ∷ [])) (points (length pieces)) (Each-points (length pieces)))

    pub pieces_push : ArePieces longer (pieces ++ p ∷ [])
    pieces_push = record {
      each = λ k l. ⊎_elim
          (λ (m : k < length pieces). old k m)
          (λ (m : length pieces ≤ k). new k (omega (arith, l, m, length_push pieces p)))
          (cases_lt k (length pieces));
    }
      where
        before_same : (k : ℕ) → k ≤ length pieces → width_before (pieces ++ p ∷ []) k ≡ width_before pieces k
        before_same zero l = refl
        before_same (suc k) l = ap (λ (q : Piece). q.width) (piece_append pieces (p ∷ []) k (omega (arith, l)))

        old : (k : ℕ) → k < length pieces → IsPiece longer (width_before (pieces ++ p ∷ []) k) (piece_at (pieces ++ p ∷ []) k)
        old k m =
            subst (IsPiece longer (width_before (pieces ++ p ∷ []) k)) (sym (piece_append pieces (p ∷ []) k m))
            (subst (λ w. IsPiece longer w (piece_at pieces k)) (sym (before_same k (omega (arith, m)))) (piece_longer tail (width_before pieces k) (piece_at pieces k) (a.each k m)))

        within : (k : ℕ) → k ≡ length pieces → p.shared ≤ width_before pieces k
        within zero e = ⊎_elim (λ (l : 0 < p.shared). absurd (omega (arith, some l, e))) (λ (l : p.shared ≤ 0). l) (cases_lt 0 p.shared)
        within (suc k) e = before k (omega (arith, e))

        new : (k : ℕ) → k ≡ length pieces → IsPiece longer (width_before (pieces ++ p ∷ []) k) (piece_at (pieces ++ p ∷ []) k)
        new k e =
            subst (IsPiece longer (width_before (pieces ++ p ∷ []) k)) (sym (get_or_push pieces p none k (sym e)))
            (record {
              shares = omega (arith, within k e, before_same k (omega (arith, e)));
              shared = omega (arith, shared, width);
              stored = omega (arith, start, length-append tails tail, length-drop p.shared entry, width);
              narrow = omega (arith, width, narrow);
            })

-- an entry in the list of all
pub entry_unpacked : (tails : List ℕ) (pieces : List Piece) (k : ℕ) → k < length pieces → get_or (all_unpacked tails pieces) k [] ≡ unpacked tails pieces k
entry_unpacked tails pieces k l = get_or-map-range_with_len (unpacked tails pieces) 0 (length pieces) k k [] l (omega arith)

pub length-all : (tails : List ℕ) (pieces : List Piece) → length (all_unpacked tails pieces) ≡ length pieces
length-all tails pieces = length-map-range_with_len (unpacked tails pieces) 0 (length pieces)

-- what is read of the entries
module _ (tails : List ℕ) (pieces : List Piece) (a : ArePieces tails pieces) (met : List (List ℕ)) (e : all_unpacked tails pieces ≡ met) (k : ℕ) (l : k < length met) where
  pub inside_read : k < length pieces
  inside_read = omega (arith, l, ap length e, length-all tails pieces)

  pub entry_read : unpacked tails pieces k ≡ get_or met k []
  entry_read = sym (entry_unpacked tails pieces k inside_read) ∙ ap (λ all. get_or all k []) e

  pub width_read : (piece_at pieces k).width ≡ length (get_or met k [])
  width_read = sym (length-unpacked tails pieces a k inside_read) ∙ ap length entry_read

-- an entry is met: what was found of it, and what was stored
pub packed_more : (tails : List ℕ) (pieces : List Piece) → ArePieces tails pieces → (entry : List ℕ) → IsEntry entry
    → (ts : List ℕ) (ps : List Piece) → ts ≡ tails → ps ≡ pieces → (shared start : ℕ) → start ≡ length tails → shared ≤ length entry
    → (0 < shared → 0 < length ps)
    → ((k : ℕ) → k + 1 ≡ length ps → shared ≤ (piece_at ps k).width)
    → ((k : ℕ) → k + 1 ≡ length ps → take shared (unpacked ts ps k) ≡ take shared entry)
    → (tails' : List ℕ) (pieces' : List Piece) → tails' ≡ tails ++ take (length entry - shared) (drop shared entry) → pieces' ≡ pieces ++ (record { shared = shared; width = length entry; start = start }) ∷ []
    → (all_unpacked tails' pieces' ≡ all_unpacked tails pieces ++ entry ∷ []) × ArePieces tails' pieces'
packed_more tails pieces a entry g ts ps et ep shared start es le some before same tails' pieces' stored f =
    let e : tails' ≡ tails ++ drop shared entry = stored ∙ ap (λ xs. tails ++ xs) (take_all (length entry - shared) (drop shared entry) (omega (arith, length-drop shared entry))) in
    let p : Piece = record { shared = shared; width = length entry; start = start } in
    let some' = subst (λ (xs : List Piece). 0 < shared → 0 < length xs) ep some in
    let before' = subst (λ (xs : List Piece). (k : ℕ) → k + 1 ≡ length xs → shared ≤ (piece_at xs k).width) ep before in
    let same' = subst (λ (xs : List Piece). (k : ℕ) → k + 1 ≡ length xs → take shared (unpacked tails xs k) ≡ take shared entry) ep
    (subst (λ (xs : List ℕ). (k : ℕ) → k + 1 ≡ length ps → take shared (unpacked xs ps k) ≡ take shared entry) et same) in (
      (λ i. all_unpacked (e i) (f i)) ∙ all_push tails pieces a entry p refl es g.width le before' some' same',
      subst (λ xs. ArePieces xs pieces') (sym e) (subst (ArePieces (tails ++ drop shared entry)) (sym f) (pieces_push tails pieces a entry p refl es g.width le before' some' same')),
    )

-- numbers behind the others, of which no entry knows
pub packed_same : (tails : List ℕ) (pieces : List Piece) → ArePieces tails pieces → (tails' extra : List ℕ) → tails' ≡ tails ++ extra → all_unpacked tails' pieces ≡ all_unpacked tails pieces
packed_same tails pieces a tails' extra e = ap (λ ts. all_unpacked ts pieces) e ∙ all_append tails pieces a extra

pub on_err_from : {T E P : Type 0} (r : Result T E) → P → OnErr r P
on_err_from (Ok v) p = tt
on_err_from (Err e) p = p
