-- What each block of a fusion passes.
use Rattle.std.proofs.Common.{◌≡◌, ◌==◌, ℕ, ◌<◌, List, length, filter, slice_index, refl, sym, ap, subst, ◌∙◌, arith}
use Rattle.std.proofs.lemmas.Bool.Decides.{Decides-eqb, Decides-like, same_from_decides}
use Rattle.pair_colours.specs.Colouring.{PairColouring, points}
use Rattle.pair_colours.specs.ColourSets.{is_in}
use Rattle.pair_colours.specs.Naming.{rank_of}
use Rattle.pair_colours.specs.Subsets.{subsets, IsSetBelow}
use Rattle.pair_colours.specs.IntersectionNumber.{pair_of_class}
use Rattle.pair_colours.proofs.SortedLists.{In}
use Rattle.pair_colours.proofs.SubsetLemmas.{subsets_listed}
use Rattle.pair_colours.proofs.ThoseLemmas.{those_has}
use Rattle.struct_consts.specs.ClassData.{IsConfiguration}
use Rattle.colour_wl.specs.Fusions.{IsFusion}
use Rattle.colour_wl.specs.BlockSums.{places_of, product_at, transposed, IsDiagonalColour}
use Rattle.colour_wl.proofs.Classes.{colour_at-below, pair_of_class-holds}
use Rattle.colour_wl.proofs.Merged.{transposed-everywhere, blocks_from_coherent}
use Rattle.good_subsets.specs.GoodSets.{IsBlock, IsGood, IsGoodSets}
use Rattle.good_subsets.specs.Transposed.{transposes}
use Rattle.good_subsets.proofs.BlockPlaces.{In-places_of, In-places_of_from, is_in-places_of, Contains_at, Contains_from_at, places_below}
use Rattle.pair_colours.proofs.ListLemmas.{filter_points_agree}

-- a block of a fusion is the block of each of its colours
pub block_of : (a set : List ℕ) (c : ℕ) → IsBlock a set → In c set → (c < length a) × (set ≡ places_of a (slice_index a c))
block_of a set c b i =
    let r = In-places_of_from a b.number c (subst (In c) b.places i) in
    (r.0, b.places ∙ ap (places_of a) (sym r.1))

-- two blocks with a common colour are the same
pub blocks_meet : (a left right : List ℕ) (c : ℕ) → IsBlock a left → IsBlock a right → In c left → In c right → left ≡ right
blocks_meet a left right c l r i j = (block_of a left c l i).1 ∙ sym (block_of a right c r j).1

-- each colour has a block
pub own_block : (a : List ℕ) (c : ℕ) → c < length a → IsBlock a (places_of a (slice_index a c)) × In c (places_of a (slice_index a c))
own_block a c l = (
  record { number = slice_index a c; used = Contains_from_at a (slice_index a c) c l refl; places = refl },
  In-places_of a (slice_index a c) c l refl,
)

-- the product of two blocks of a fusion has one coefficient at all colours of a block
pub product_constant : (K : PairColouring) → IsConfiguration K → (a left right set : List ℕ) → IsFusion K a → IsBlock a left → IsBlock a right → IsBlock a set
    → (k l : ℕ) → In k set → In l set → product_at K left right k ≡ product_at K left right l
product_constant K h a left right set f bl br b k l i j =
    let n = f.growth.len in
    let p = In-places_of_from a b.number k (subst (In k) b.places i) in
    let q = In-places_of_from a b.number l (subst (In l) b.places j) in
    let at : (m : ℕ) → product_at K left right m ≡ product_at K (places_of a bl.number) (places_of a br.number) m = λ m i. product_at K (bl.places i) (br.places i) m in
    at k
    ∙ (blocks_from_coherent K h a n f.coherent).constant_products k l (omega (arith, p.0, n)) (omega (arith, q.0, n)) (p.1 ∙ sym q.1) bl.number br.number
    ∙ sym (at l)

-- a block of a fusion has diagonal colours alone or none
pub diagonal_constant : (K : PairColouring) → IsConfiguration K → (a set : List ℕ) → IsFusion K a → IsBlock a set → (k l : ℕ) → In k set → In l set → IsDiagonalColour K k → IsDiagonalColour K l
diagonal_constant K h a set f b k l i j d =
    let n = f.growth.len in
    let p = In-places_of_from a b.number k (subst (In k) b.places i) in
    let q = In-places_of_from a b.number l (subst (In l) b.places j) in
    (blocks_from_coherent K h a n f.coherent).splits_diagonal k l (omega (arith, p.0, n)) (omega (arith, q.0, n)) (p.1 ∙ sym q.1) d

pub transposed-below : (K : PairColouring) → IsConfiguration K → (c : ℕ) → c < rank_of K → transposed K c < rank_of K
transposed-below K h c l = let p = pair_of_class-holds K h c l in colour_at-below K h (pair_of_class K c).1 (pair_of_class K c).0 p.column p.row

transposed-twice : (K : PairColouring) → IsConfiguration K → (c : ℕ) → c < rank_of K → transposed K (transposed K c) ≡ c
transposed-twice K h c l = let p = pair_of_class-holds K h c l in transposed-everywhere K h (pair_of_class K c).1 (pair_of_class K c).0 p.column p.row ∙ p.colour

-- those of a block of a fusion are a block
pub transposes_block : (K : PairColouring) → IsConfiguration K → (a set : List ℕ) → IsFusion K a → IsBlock a set → IsBlock a (transposes K set)
transposes_block K h a set f b =
    let n = f.growth.len in
    let at = Contains_at a b.number b.used in
    let c : ℕ = at.0 in
    let low : c < rank_of K = omega (arith, at.1, n) in
    let t : ℕ = transposed K c in
    let tlow : t < rank_of K = transposed-below K h c low in
    let blocks = blocks_from_coherent K h a n f.coherent in
    let agree : (d : ℕ) → d < rank_of K → is_in set (transposed K d) ≡ (slice_index a d == slice_index a t) = λ d l.
    let inside : transposed K d < length a = omega (arith, transposed-below K h d l, n) in
    ap (λ s. is_in s (transposed K d)) b.places
    ∙ is_in-places_of a b.number (transposed K d) inside
    ∙ same_from_decides _ _
    (Decides-eqb (slice_index a (transposed K d)) b.number)
    (Decides-like _
    (λ e. let q = (blocks.closed_under_transpose d t l tlow).0 e in q ∙ ap (slice_index a) (transposed-twice K h c low) ∙ at.2)
    (λ e. (blocks.closed_under_transpose d t l tlow).1 (e ∙ sym at.2 ∙ ap (slice_index a) (sym (transposed-twice K h c low))))
    (Decides-eqb (slice_index a d) (slice_index a t))) in
    record {
      number = slice_index a t;
      used = Contains_from_at a (slice_index a t) t (omega (arith, tlow, n)) refl;
      places = filter_points_agree (λ d. is_in set (transposed K d)) (λ d. slice_index a d == slice_index a t) (rank_of K) agree ∙ ap (λ m. filter (λ d. slice_index a d == slice_index a t) (points m)) (sym n);
    }

-- what each good set passes: each test may leave out a set that fails it
pub record PassesTests (K : PairColouring) (set : List ℕ) : Type 0 where
  pub diagonal : (k l : ℕ) → In k set → In l set → IsDiagonalColour K k → IsDiagonalColour K l
  pub transposed_whole : (c : ℕ) → In c set → In c (transposes K set) → set ≡ transposes K set
  pub square : (k l : ℕ) → In k set → In l set → product_at K set set k ≡ product_at K set set l
  pub turned_square : (k l : ℕ) → In k set → In l set → product_at K set (transposes K set) k ≡ product_at K set (transposes K set) l

pub good_passes : (K : PairColouring) → IsConfiguration K → (set : List ℕ) → IsGood K set → PassesTests K set
good_passes K h set g =
    let t = transposes_block K h g.fusion set g.is_fusion g.block in
    record {
      diagonal = λ k l i j. diagonal_constant K h g.fusion set g.is_fusion g.block k l i j;
      transposed_whole = λ c i j. blocks_meet g.fusion set (transposes K set) c g.block t i j;
      square = λ k l i j. product_constant K h g.fusion set set set g.is_fusion g.block g.block g.block k l i j;
      turned_square = λ k l i j. product_constant K h g.fusion set (transposes K set) set g.is_fusion g.block t g.block k l i j;
    }

-- the list of good sets has each of them
pub good_listed : (K : PairColouring) (sets : List (List ℕ)) → IsGoodSets K sets → (set : List ℕ) → IsGood K set → In set sets
good_listed K sets l set g =
    let a : List ℕ = g.fusion in
    let len = g.is_fusion.growth.len in
    let below : IsSetBelow (length a) (places_of a g.block.number) = places_below a g.block.number in
    let own : IsSetBelow (rank_of K) set = subst (IsSetBelow (rank_of K)) (sym g.block.places) (subst (λ n. IsSetBelow n (places_of a g.block.number)) len below) in
    those_has (IsGood K) (subsets (rank_of K)) sets l set (subsets_listed (rank_of K) set own) g
