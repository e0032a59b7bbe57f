-- Steps that lead on from a partition, each by a split.
use Rattle.std.proofs.Common.{◌≡◌, ℕ, ◌+◌, ◌≤◌, List, [], ◌∷◌, ◌++◌, length, sym, ap, subst, ◌∙◌, arith}
use Rattle.pair_colours.specs.Colouring.{PairColouring, IsColouring, Refines}
use Rattle.pair_colours.specs.Closure.{Coherent}
use Rattle.pair_colours.specs.Naming.{rank_of}
use Rattle.pair_colours.proofs.Places.{Refines-trans, Refines-refl}
use Rattle.trace_text.specs.declared.step_list.Step.{Step}
use Rattle.trace_text.specs.Partition.{IsPartition}
use Rattle.trace_text.specs.Split.{split_of, IsAllowed, IsSplit, Lead, partition_after}
use Rattle.trace_text.proofs.Splits.{coherent_below_split, IsPartition-split_of, rank_grows, split_of-refines}

-- steps that lead somewhere lead to the partition after them
pub lead_after : (steps : List Step) (P P2 : PairColouring) → Lead steps P P2 → P2 ≡ partition_after P steps
lead_after [] P P2 l = l
lead_after (s ∷ steps) P P2 l = lead_after steps (split_of P s) P2 l.1

-- and steps that are led on
pub lead_more : (steps : List Step) (s : Step) (P P1 P2 : PairColouring) → Lead steps P P1 → IsSplit P1 s P2 → Lead (steps ++ s ∷ []) P P2
lead_more [] s P P1 P2 l d = let e : P1 ≡ P = l in (subst (λ A. IsAllowed A s) e d.allowed, d.is ∙ ap (λ A. split_of A s) e)
lead_more (t ∷ steps) s P P1 P2 l d = (l.0, lead_more steps s (split_of P t) P1 P2 l.1 d)

-- what a list of splits keeps
pub record IsBelow (P P2 : PairColouring) (count : ℕ) : Type 0 where
  pub partition : IsPartition P2
  pub refines : Refines P2 P
  pub keeps : (Q : PairColouring) → IsColouring Q → Coherent Q → Refines Q P → Refines Q P2
  pub rank : rank_of P + count ≤ rank_of P2

pub lead_below : (steps : List Step) (P P2 : PairColouring) → IsPartition P → Lead steps P P2 → IsBelow P P2 (length steps)
lead_below [] P P2 h l =
    let e : P ≡ P2 = sym l in
    subst (λ A. IsBelow P A 0) e (record { partition = h; refines = Refines-refl P; keeps = λ Q q c r. r; rank = omega arith })
lead_below (s ∷ steps) P P2 h l =
    let again = lead_below steps (split_of P s) P2 (IsPartition-split_of P s h) l.1 in
    record {
      partition = again.partition;
      refines = Refines-trans P2 (split_of P s) P again.refines (split_of-refines P s h);
      keeps = λ Q q c r. again.keeps Q q c (coherent_below_split Q P s q c r);
      rank = omega (arith, again.rank, rank_grows P s h l.0);
    }
