-- What a step makes of a partition, and what it keeps.
use Rattle.std.proofs.Common.{◌≡◌, ◌==◌, ℕ, ◌+◌, ◌<◌, length, ⊎_elim, sym, ap, subst, ◌∙◌, arith, if◌then◌else◌}
use Rattle.std.proofs.lemmas.Bool.{cases_eq, ne_eqb}
use Rattle.std.proofs.lemmas.Bool.Decides.{Decides-eqb, Decides-like, same_from_decides}
use Rattle.pair_colours.specs.Colouring.{PairColouring, IsColouring, Refines, colour_at, triangles}
use Rattle.pair_colours.specs.Closure.{Coherent}
use Rattle.pair_colours.specs.Naming.{rank_of}
use Rattle.pair_colours.specs.Rounds.{Alike}
use Rattle.pair_colours.proofs.Exists.{first_alike-same, first_alike-alike}
use Rattle.pair_colours.proofs.Rounds.{alike_in}
use Rattle.trace_text.specs.declared.step_list.Step.{Step}
use Rattle.trace_text.specs.declared.step_list.Step.TheVariants.{Diag, Flip, Tri, Round}
use Rattle.trace_text.specs.Partition.{IsPartition}
use Rattle.trace_text.specs.Split.{later_keys, key_in_class, key_of, split_of, IsAllowed, IsSplit}
use Rattle.trace_text.proofs.Parting.{IsApart, smaller_found, parted_together, rank_of-parted_by, IsPartition-parted_by, parted_by-refines}

key_in_class-same : (P : PairColouring) (k : ℕ) (key : ℕ → ℕ → ℕ) (x y u v : ℕ) → colour_at P x y ≡ colour_at P u v → key x y ≡ key u v → key_in_class P k key x y ≡ key_in_class P k key u v
key_in_class-same P k key x y u v e f = λ i. if e i == k then f i else 0

-- pairs that are alike have one key
pub key_of-alike : (P : PairColouring) (s : Step) (x y u v : ℕ) → Alike P x y u v → key_of P s x y ≡ key_of P s u v
key_of-alike P (Diag k) x y u v a =
    key_in_class-same P k (λ x y. if x == y then 0 else 1) x y u v a.own
    (ap (λ b. if b then 0 else 1) (same_from_decides _ _ (Decides-eqb x y) (Decides-like _ a.diagonal.1 a.diagonal.0 (Decides-eqb u v))))
key_of-alike P (Flip k other) x y u v a = key_in_class-same P k (λ x y. if colour_at P y x == other then 0 else 1) x y u v a.own (ap (λ c. if c == other then 0 else 1) a.turned)
key_of-alike P (Tri k left right) x y u v a = key_in_class-same P k (λ x y. triangles P x y left right) x y u v a.own (a.counts left right)
key_of-alike P Round x y u v a = first_alike-same P x y u v a

-- a key on one class is there alone
key_in_class-apart : (P : PairColouring) (k : ℕ) (key : ℕ → ℕ → ℕ) → IsApart P (key_in_class P k key)
key_in_class-apart P k key = record {
  one = λ x y u v hx hy hu hv h e.
      let some = smaller_found P (key_in_class P k key) x y h in
      ⊎_elim
      (λ i. ⊎_elim (λ j. i ∙ sym j) (λ out. absurd (omega (arith, some, zero_outside u v out, e))) (cases_eq (colour_at P u v) k))
      (λ out. absurd (omega (arith, some, zero_outside x y out)))
      (cases_eq (colour_at P x y) k);
}
  where
    zero_outside : (x y : ℕ) → (colour_at P x y ≡ k → ⊥) → key_in_class P k key x y ≡ 0
    zero_outside x y out = ap (λ b. if b then key x y else 0) (ne_eqb _ _ out)

pub key_of-apart : (P : PairColouring) (s : Step) → IsApart P (key_of P s)
key_of-apart P (Diag k) = key_in_class-apart P k (λ x y. if x == y then 0 else 1)
key_of-apart P (Flip k other) = key_in_class-apart P k (λ x y. if colour_at P y x == other then 0 else 1)
key_of-apart P (Tri k left right) = key_in_class-apart P k (λ x y. triangles P x y left right)
key_of-apart P Round = record { one = λ x y u v hx hy hu hv h e. (first_alike-alike P x y u v hx hy hu hv e).own }

-- so they stay together
pub split_of-alike : (P : PairColouring) (s : Step) (x y u v : ℕ) → x < P.size → y < P.size → u < P.size → v < P.size
    → Alike P x y u v → colour_at (split_of P s) x y ≡ colour_at (split_of P s) u v
split_of-alike P s x y u v hx hy hu hv a = parted_together P (key_of P s) x y u v hx hy hu hv a.own (key_of-alike P s x y u v a)

-- and a coherent colouring below P is below its split
pub coherent_below_split : (Q P : PairColouring) (s : Step) → IsColouring Q → Coherent Q → Refines Q P → Refines Q (split_of P s)
coherent_below_split Q P s q h r = record {
  sizes = r.sizes;
  classes = λ x y u v hx hy hu hv e.
      split_of-alike P s x y u v (to x hx) (to y hy) (to u hu) (to v hv) (alike_in Q P q h r x y u v hx hy hu hv e);
}
  where
    to : (z : ℕ) → z < Q.size → z < P.size
    to z l = omega (arith, l, r.sizes)

pub split_keeps_coherent : (Q P P2 : PairColouring) (s : Step) → IsColouring Q → Coherent Q → Refines Q P → IsSplit P s P2 → Refines Q P2
split_keeps_coherent Q P P2 s q h r d = subst (Refines Q) (sym d.is) (coherent_below_split Q P s q h r)

-- a split of a partition is a partition, which refines it and has as many more classes as there are parts but one
pub IsPartition-split_of : (P : PairColouring) (s : Step) → IsPartition P → IsPartition (split_of P s)
IsPartition-split_of P s h = IsPartition-parted_by P (key_of P s) h

pub rank_grows : (P : PairColouring) (s : Step) → IsPartition P → IsAllowed P s → rank_of P < rank_of (split_of P s)
rank_grows P s h a = omega (arith, rank_of-parted_by P (key_of P s) h, a.parts)

pub split_of-refines : (P : PairColouring) (s : Step) → IsPartition P → Refines (split_of P s) P
split_of-refines P s h = parted_by-refines P (key_of P s) h (key_of-apart P s)

-- the same of what a step splits P into
pub split_is_partition : (P P2 : PairColouring) (s : Step) → IsPartition P → IsSplit P s P2 → IsPartition P2
split_is_partition P P2 s h d = subst IsPartition (sym d.is) (IsPartition-split_of P s h)

pub split_refines : (P P2 : PairColouring) (s : Step) → IsPartition P → IsSplit P s P2 → Refines P2 P
split_refines P P2 s h d = subst (λ A. Refines A P) (sym d.is) (split_of-refines P s h)

pub split_rank : (P P2 : PairColouring) (s : Step) → IsPartition P → IsSplit P s P2 → rank_of P2 ≡ rank_of P + length (later_keys P (key_of P s))
split_rank P P2 s h d = ap rank_of d.is ∙ rank_of-parted_by P (key_of P s) h
