-- Blocks of colours by their heads.
use Rattle.std.proofs.Common.{◌≡◌, ◌==◌, ◌↔◌, ℕ, ◌<◌, ◌≤◌, true, false, bit_and, List, length, filter, slice_index, ⊎_elim, sym, ap, subst, ◌∙◌, arith}
use Rattle.std.specs.Int.Bits.{bit_or}
use Rattle.std.proofs.lemmas.Bool.{cases_lt, cases_Bool, eqb-true, eq-eqb, both_ways}
use Rattle.std.proofs.lemmas.Bool.Decides.{Decides-eqb, Decides-like, same_from_decides}
use Rattle.pair_colours.specs.Colouring.{PairColouring, points}
use Rattle.pair_colours.specs.ColourSets.{is_in}
use Rattle.pair_colours.specs.Naming.{rank_of}
use Rattle.struct_consts.specs.ClassData.{IsConfiguration}
use Rattle.colour_wl.specs.BlockSums.{places_of, transposed, product_at}
use Rattle.colour_wl.specs.Fusions.{IsFusion}
use Rattle.colour_wl.proofs.Merged.{blocks_from_coherent}
use Rattle.good_subsets.specs.GoodSets.{IsBlock}
use Rattle.good_subsets.specs.Transposed.{IsTurned}
use Rattle.good_subsets.proofs.BlockPlaces.{is_in-places_of}
use Rattle.good_subsets.proofs.Blocks.{transposes_block, transposed-below}
use Rattle.visitors.specs.Masks.{is_member, members_of}
use Rattle.visitors.proofs.MaskSets.{is_in-members_of}
use Rattle.mergings.specs.Searches.{block_at, AreHeads, HasBlocks, IsHead, AreConstant, AreSound, IsJoined, IsLeast, IsExtended}
use Rattle.mergings.proofs.Unions.{union_left, union_right, union_cases, union_none, no_common, no_members}
use Rattle.pair_colours.proofs.ListLemmas.{filter_points_agree}

-- a block as a mask: two colours are in it exactly where it has the number
pub block_number : (n : ℕ) (a : List ℕ) (mask : ℕ) → length a ≡ n → (b : IsBlock a (members_of n mask)) → (c : ℕ) → c < n → is_member mask c ≡ (slice_index a c == b.number)
block_number n a mask e b c l =
    sym (is_in-members_of n mask c l) ∙ ap (λ s. is_in s c) b.places ∙ is_in-places_of a b.number c (omega (arith, l, e))

pub least_below : (set head c : ℕ) → IsLeast set head → is_member set c ≡ true → head ≤ c
least_below set head c l t = ⊎_elim
    (λ (m : c < head). absurd (both_ways _ (l.below c m) t))
    (λ m. m)
    (cases_lt c head)

-- a set that is apart from the blocks, as a further one
module _ (n : ℕ) (heads new : List ℕ) (covered set head : ℕ) (h : AreHeads n heads covered) (apart : bit_and covered set ≡ 0) (l : IsLeast set head) (low : head < n) (j : IsJoined n set head heads new) where
  -- no head of another block is in the set
  outside : (c : ℕ) → c < n → is_member set c ≡ false → is_member set (slice_index heads c) ≡ false
  outside c m f = ⊎_elim
      (λ (t : is_member set (slice_index heads c) ≡ true). ⊎_elim
      (λ k. absurd (no_common covered set (slice_index heads c) apart (h.kept c m k) t))
      (λ k. absurd (both_ways _ f (subst (λ d. is_member set d ≡ true) (h.free c m k) t)))
      (cases_Bool (is_member covered c)))
      (λ q. q)
      (cases_Bool (is_member set (slice_index heads c)))

  foreign : (c : ℕ) → c < n → is_member set c ≡ false → slice_index heads c ≡ head → ⊥
  foreign c m f e = both_ways _ (outside c m f) (subst (λ d. is_member set d ≡ true) (sym e) l.has)

  pub heads_join : AreHeads n new (bit_or covered set)
  heads_join = record {
    len = j.len ∙ h.len;
    low = λ c m. ⊎_elim
        (λ (t : is_member set c ≡ true). omega (arith, j.own c m t, least_below set head c l t))
        (λ (f : is_member set c ≡ false). omega (arith, j.others c m f, h.low c m))
        (cases_Bool (is_member set c));
    again = λ c m. ⊎_elim
        (λ (t : is_member set c ≡ true). let e : slice_index new c ≡ head = j.own c m t in ap (slice_index new) e ∙ j.own head low l.has ∙ sym e)
        (λ (f : is_member set c ≡ false).
        let e : slice_index new c ≡ slice_index heads c = j.others c m f in
        let inside : slice_index heads c < n = omega (arith, h.low c m, m) in
        ap (slice_index new) e ∙ j.others (slice_index heads c) inside (outside c m f) ∙ h.again c m ∙ sym e)
        (cases_Bool (is_member set c));
    free = λ c m u. let q = union_none covered set c u in j.others c m q.1 ∙ h.free c m q.0;
    kept = λ c m u. ⊎_elim
        (λ (t : is_member set c ≡ true). union_right covered set (slice_index new c) (subst (λ d. is_member set d ≡ true) (sym (j.own c m t)) l.has))
        (λ (f : is_member set c ≡ false).
        let k : is_member covered c ≡ true = was_covered c u f in
        union_left covered set (slice_index new c) (subst (λ d. is_member covered d ≡ true) (sym (j.others c m f)) (h.kept c m k)))
        (cases_Bool (is_member set c));
  }
    where
      was_covered : (c : ℕ) → is_member (bit_or covered set) c ≡ true → is_member set c ≡ false → is_member covered c ≡ true
      was_covered c u f = ⊎_elim (λ k. k) (λ k. absurd (both_ways _ f k)) (union_cases covered set c u)

  pub blocks_join : (a : List ℕ) → length a ≡ n → HasBlocks n a heads covered → IsBlock a (members_of n set) → HasBlocks n a new (bit_or covered set)
  blocks_join a len w b = record { each = λ c d lc ld u. ⊎_elim (own c d lc ld) (other c d lc ld u) (cases_Bool (is_member set c)) }
    where
      number : (c : ℕ) → c < n → is_member set c ≡ true → slice_index a c ≡ b.number
      number c m t = eqb-true _ _ (sym (block_number n a set len b c m) ∙ t)

      stays : (c d : ℕ) → c < n → d < n → is_member set c ≡ true → slice_index a c ≡ slice_index a d → is_member set d ≡ true
      stays c d lc ld t e = block_number n a set len b d ld ∙ eq-eqb _ _ (sym e ∙ number c lc t)

      own : (c d : ℕ) → c < n → d < n → is_member set c ≡ true → (slice_index a c ≡ slice_index a d) ↔ (slice_index new c ≡ slice_index new d)
      own c d lc ld t = (
        λ e. j.own c lc t ∙ sym (j.own d ld (stays c d lc ld t e)),
        λ e. ⊎_elim
            (λ (s : is_member set d ≡ true). number c lc t ∙ sym (number d ld s))
            (λ (f : is_member set d ≡ false). absurd (foreign d ld f (sym (j.others d ld f) ∙ sym e ∙ j.own c lc t)))
            (cases_Bool (is_member set d)),
      )

      other : (c d : ℕ) → c < n → d < n → is_member (bit_or covered set) c ≡ true → is_member set c ≡ false → (slice_index a c ≡ slice_index a d) ↔ (slice_index new c ≡ slice_index new d)
      other c d lc ld u f =
          let k : is_member covered c ≡ true = ⊎_elim (λ k. k) (λ k. absurd (both_ways _ f k)) (union_cases covered set c u) in
          ⊎_elim
          (λ (s : is_member set d ≡ true). (
            λ e. absurd (both_ways _ f (stays d c ld lc s (sym e))),
            λ e. absurd (foreign c lc f (sym (j.others c lc f) ∙ e ∙ j.own d ld s)),
          ))
          (λ (s : is_member set d ≡ false). (
            λ e. j.others c lc f ∙ (w.each c d lc ld k).0 e ∙ sym (j.others d ld s),
            λ e. (w.each c d lc ld k).1 (sym (j.others c lc f) ∙ e ∙ j.others d ld s),
          ))
          (cases_Bool (is_member set d))

pub turned_block : (K : PairColouring) → IsConfiguration K → (a : List ℕ) (set turned : ℕ) → IsFusion K a → IsTurned K set turned → IsBlock a (members_of (rank_of K) set) → IsBlock a (members_of (rank_of K) turned)
turned_block K h a set turned f t b = subst (IsBlock a) (sym t.members) (transposes_block K h a (members_of (rank_of K) set) f b)

-- one set more, and its transposes
pub extended_one : (K : PairColouring) (heads new : List ℕ) (covered set head : ℕ) → AreHeads (rank_of K) heads covered → bit_and covered set ≡ 0 → IsLeast set head → head < rank_of K
    → IsJoined (rank_of K) set head heads new → IsExtended K heads covered set new (bit_or covered set)
extended_one K heads new covered set head h z l low j = record {
  are = heads_join (rank_of K) heads new covered set head h z l low j;
  kept = λ c m. union_left covered set c;
  own = λ c m. union_right covered set c;
  has = λ a f w b. blocks_join (rank_of K) heads new covered set head h z l low j a f.growth.len w b;
}

pub extended_both : (K : PairColouring) → IsConfiguration K → (heads mid new : List ℕ) (covered set turned other all : ℕ) → IsExtended K heads covered set mid all → IsTurned K set turned → bit_and all turned ≡ 0
    → IsLeast turned other → other < rank_of K → IsJoined (rank_of K) turned other mid new → IsExtended K heads covered set new (bit_or all turned)
extended_both K h heads mid new covered set turned other all x t z l low j = record {
  are = heads_join (rank_of K) mid new all turned other x.are z l low j;
  kept = λ c m u. union_left all turned c (x.kept c m u);
  own = λ c m u. union_left all turned c (x.own c m u);
  has = λ a f w b. blocks_join (rank_of K) mid new all turned other x.are z l low j a f.growth.len (x.has a f w b) (turned_block K h a set turned f t b);
}

-- a colour and its head have one number in a string with these blocks
pub head_number : (n : ℕ) (a heads : List ℕ) (covered : ℕ) → AreHeads n heads covered → HasBlocks n a heads covered → (c : ℕ) → c < n → slice_index a c ≡ slice_index a (slice_index heads c)
head_number n a heads covered h w c l = ⊎_elim
    (λ (k : is_member covered c ≡ true). let inside : slice_index heads c < n = omega (arith, h.low c l, l) in (w.each c (slice_index heads c) l inside k).1 (sym (h.again c l)))
    (λ (k : is_member covered c ≡ false). ap (slice_index a) (sym (h.free c l k)))
    (cases_Bool (is_member covered c))

-- the block of a head is one of the string
pub head_block : (n : ℕ) (a heads : List ℕ) (covered : ℕ) → length a ≡ n → HasBlocks n a heads covered → (x : ℕ) → x < n → IsHead heads covered x → block_at n heads x ≡ places_of a (slice_index a x)
head_block n a heads covered len w x l h =
    filter_points_agree (λ c. slice_index heads c == x) (λ c. slice_index a c == slice_index a x) n
    (λ c m. same_from_decides _ _
    (Decides-eqb (slice_index heads c) x)
    (Decides-like _
    (λ e. sym ((w.each x c l m h.has).0 (sym e)) ∙ h.own)
    (λ e. sym ((w.each x c l m h.has).1 (h.own ∙ sym e)))
    (Decides-eqb (slice_index a c) (slice_index a x))))
    ∙ ap (λ m. filter (λ c. slice_index a c == slice_index a x) (points m)) (sym len)

-- so the blocks of a fusion have constant products
pub blocks_constant : (K : PairColouring) → IsConfiguration K → (a heads : List ℕ) (covered : ℕ) → IsFusion K a → AreHeads (rank_of K) heads covered → HasBlocks (rank_of K) a heads covered → AreConstant K heads covered
blocks_constant K h a heads covered f t w = record {
  each = λ x lx hx. record {
    each = λ y k ly lk hy.
        let n : ℕ = rank_of K in
        let left = head_block n a heads covered f.growth.len w x lx hx in
        let right = head_block n a heads covered f.growth.len w y ly hy in
        let inside : slice_index heads k < n = omega (arith, t.low k lk, lk) in
        (λ i. product_at K (left i) (right i) k)
        ∙ (blocks_from_coherent K h a f.growth.len f.coherent).constant_products k (slice_index heads k) lk inside (head_number n a heads covered t w k lk) (slice_index a x) (slice_index a y)
        ∙ (λ i. product_at K (sym left i) (sym right i) (slice_index heads k));
  };
}

-- and their transposes are in one block, and so on
pub blocks_sound : (K : PairColouring) → IsConfiguration K → (a heads : List ℕ) (covered : ℕ) → IsFusion K a → AreHeads (rank_of K) heads covered → ((c : ℕ) → c < rank_of K → is_member covered c ≡ true)
    → HasBlocks (rank_of K) a heads covered → AreSound K heads
blocks_sound K h a heads covered f t all w = record {
  each = λ c l.
      let n : ℕ = rank_of K in
      let d : ℕ = slice_index heads c in
      let inside : d < n = omega (arith, t.low c l, l) in
      let same : slice_index a c ≡ slice_index a d = head_number n a heads covered t w c l in
      let b = blocks_from_coherent K h a f.growth.len f.coherent in
      let lc = transposed-below K h c l in
      let ld = transposed-below K h d inside in
      record {
        turned = (w.each (transposed K c) (transposed K d) lc ld (all (transposed K c) lc)).0 ((b.closed_under_transpose c d l inside).0 same);
        diagonal = (b.splits_diagonal c d l inside same, b.splits_diagonal d c inside l (sym same));
      };
}

-- with no blocks
pub heads_none : (n : ℕ) (heads : List ℕ) → n ≤ 16 → length heads ≡ 16 → ((c : ℕ) → c < 16 → slice_index heads c ≡ c) → AreHeads n heads 0
heads_none n heads small len own = record {
  len = len;
  low = λ c l. omega (arith, own c (omega (arith, l, small)));
  again = λ c l. ap (slice_index heads) (own c (omega (arith, l, small)));
  free = λ c l u. own c (omega (arith, l, small));
  kept = λ c l u. absurd (no_members c u);
}

pub blocks_none : (n : ℕ) (a heads : List ℕ) → HasBlocks n a heads 0
blocks_none n a heads = record { each = λ c d lc ld u. absurd (no_members c u) }

pub constant_none : (K : PairColouring) (heads : List ℕ) → AreConstant K heads 0
constant_none K heads = record { each = λ x lx hx. absurd (no_members x hx.has) }
