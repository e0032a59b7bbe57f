-- Rounds made one after the other, each on the naming of the one before.
use Rattle.std.proofs.Common.{◌≡◌, ◌↔◌, ℕ, ◌*◌, ◌-◌, ◌/◌, ◌%◌, ◌^◌, ◌<◌, ◌≤◌, List, [], ◌∷◌, ◌++◌, length, ⊎_elim, refl, sym, ap, subst, ◌∙◌, arith}
use Rattle.std.specs.Prelude.{slice_index}
use Rattle.std.specs.List.{AllByRecursion}
use Rattle.std.proofs.lemmas.Nat.{mul-le}
use Rattle.pair_colours.specs.declared.coloured_pairs.TheConstants.{MOST_POINTS}
use Rattle.pair_colours.specs.Colouring.{PairColouring, IsColouring, Refines, IsSamePartition, colour_at}
use Rattle.pair_colours.specs.Naming.{rank_of, named_of}
use Rattle.pair_colours.specs.Rounds.{IsRound}
use Rattle.pair_colours.proofs.ListLemmas.{Each-append}
use Rattle.pair_colours.proofs.Names.{named_of-same}
use Rattle.pair_colours.proofs.Places.{Refines-trans, row_below, column_below, at_place}
use Rattle.trace_text.specs.declared.step_list.Step.{Step}
use Rattle.trace_text.specs.declared.step_list.Step.TheVariants.{Round}
use Rattle.trace_text.specs.Partition.{IsPartition}
use Rattle.trace_text.specs.Split.{HasParts, Lead, split_of, partition_after}
use Rattle.trace_text.specs.RoundChains.{AreRounds}
use Rattle.trace_text.proofs.Leads.{lead_after, lead_more, lead_below}
use Rattle.trace_text.proofs.Partitions.{IsPartition-named_of}
use Rattle.trace_text.proofs.Ranks.{rank_of-le_pairs}
use Rattle.trace_text.proofs.RoundChains.{rounds_from_lead}
use Rattle.trace_text.proofs.RoundSteps.{
  IsSamePartition-refl,
  IsSamePartition-trans,
  IsAllowed-round,
  has_parts_or_not,
  idle_refines,
  rank_of-idle_round,
  rank_of-round,
  rank_of-same,
  round_is_split,
  round_of_same,
}
use Rattle.trace_text.proofs.Splits.{IsPartition-split_of, split_of-refines}
use Rattle.wl_refine.proofs.Leading.{classes_left}

-- a colouring that is named is a partition
pub IsPartition-named : (A : PairColouring) → IsColouring A → named_of A ≡ A → IsPartition A
IsPartition-named A a e = subst IsPartition e (IsPartition-named_of A a)

-- its colours are below the number of pairs
pub colours_below : (A : PairColouring) → IsPartition A → (p : ℕ) → p < length A.colours → slice_index A.colours p < length A.colours
colours_below A h p l =
    let some = h.colouring.has_points in
    let k : p < A.size * A.size = omega (arith, l, h.colouring.has_pairs) in
    let b : colour_at A (p / A.size) (p % A.size) < rank_of A = h.below (p / A.size) (p % A.size) (row_below A.size p some k) (column_below A.size p some) in
    omega (arith, b, at_place A p, rank_of-le_pairs A h.colouring, h.colouring.has_pairs)

-- a round, named, makes the same colouring exactly where it is idle
pub idle_round : (P R : PairColouring) → IsPartition P → named_of P ≡ P → IsRound P R → named_of R ≡ R → (R.colours ≡ P.colours) ↔ (¬ HasParts P Round)
idle_round P R h n s m = (
  λ e. let same : R ≡ P = λ i. record { size = s.sizes i; colours = e i } in (rank_of-idle_round P R h s).0 (ap rank_of same),
  λ idle.
      let split = round_is_split P R h s in
      let finer : Refines R P = Refines-trans R (split_of P Round) P split.finer (split_of-refines P Round h) in
      let coarser : Refines P R = Refines-trans P (split_of P Round) R (idle_refines P h idle) split.coarser in
      ap (λ (A : PairColouring). A.colours) (sym m ∙ named_of-same R P s.colouring h.colouring finer coarser ∙ n),
)

-- where it makes another, some class had two parts
pub parts_from_change : (P R : PairColouring) → IsPartition P → named_of P ≡ P → IsRound P R → named_of R ≡ R → ¬ (R.colours ≡ P.colours) → HasParts P Round
parts_from_change P R h n s m other = ⊎_elim (λ parts. parts) (λ idle. absurd (other ((idle_round P R h n s m).1 idle))) (has_parts_or_not P Round)

-- the steps are rounds, each a split, from the start to a partition whose classes are those of `last`, which is named
pub record AreMade (start : PairColouring) (steps : List Step) (last : PairColouring) : Type 0 where
  pub there : PairColouring
  pub each : AllByRecursion (λ s. s ≡ Round) steps
  pub leads : Lead steps start there
  pub same : IsSamePartition last there
  pub colouring : IsColouring last
  pub named : named_of last ≡ last

pub made_none : (start : PairColouring) (steps : List Step) → IsColouring start → named_of start ≡ start → steps ≡ [] → AreMade start steps start
made_none start steps c n e = subst (λ l. AreMade start l start) (sym e) (record {
  there = start;
  each = tt;
  leads = refl;
  same = IsSamePartition-refl start;
  colouring = c;
  named = n;
})

pub made_more : (start : PairColouring) (steps new : List Step) (last round : PairColouring) → IsPartition start → AreMade start steps last
    → IsRound last round → named_of round ≡ round → ¬ (round.colours ≡ last.colours) → new ≡ steps ++ Round ∷ [] → AreMade start new round
made_more start steps new last round h m s n other e =
    let here = IsPartition-named last m.colouring m.named in
    let there = (lead_below steps start m.there h m.leads).partition in
    let same = round_of_same last m.there here there m.same in
    let parts : HasParts m.there Round = same.0.0 (parts_from_change last round here m.named s n other) in
    subst (λ l. AreMade start l round) (sym e) (record {
      there = split_of m.there Round;
      each = Each-append (λ (t : Step). t ≡ Round) steps (Round ∷ []) m.each (refl, tt);
      leads = lead_more steps Round start m.there (split_of m.there Round) m.leads (record { allowed = IsAllowed-round m.there parts; is = refl });
      same = IsSamePartition-trans round (split_of last Round) (split_of m.there Round) (round_is_split last round here s) same.1;
      colouring = s.colouring;
      named = n;
    })

-- each round adds classes, and there are no more than pairs
pub round_adds : (start : PairColouring) (steps : List Step) (last round : PairColouring) → AreMade start steps last
    → IsRound last round → named_of round ≡ round → ¬ (round.colours ≡ last.colours) → classes_left round < classes_left last
round_adds start steps last round m s n other =
    let here = IsPartition-named last m.colouring m.named in
    let parts : HasParts last Round = parts_from_change last round here m.named s n other in
    let ranks = rank_of-same round (split_of last Round) s.colouring (IsPartition-split_of last Round here).colouring (round_is_split last round here s) in
    let squares : round.size * round.size ≡ last.size * last.size = λ i. s.sizes i * s.sizes i in
    omega (arith, ranks, rank_of-round last here, parts, rank_of-le_pairs round s.colouring, squares)

pub few_made : (start : PairColouring) (steps : List Step) (last : PairColouring) → IsPartition start → AreMade start steps last → last.size ≤ MOST_POINTS
    → length steps < 2 ^ 32 - 1
few_made start steps last h m limit =
    let below = lead_below steps start m.there h m.leads in
    let ranks = rank_of-same last m.there m.colouring below.partition.colouring m.same in
    omega (arith, below.rank, ranks, rank_of-le_pairs last m.colouring, limit, mul-le last.size last.size MOST_POINTS MOST_POINTS limit limit)

-- where the next round makes the same colouring, these are all
pub made_all : (start : PairColouring) (steps : List Step) (last round : PairColouring) → IsPartition start → AreMade start steps last
    → IsRound last round → named_of round ≡ round → round.colours ≡ last.colours → AreRounds steps start
made_all start steps last round h m s n e =
    let here = IsPartition-named last m.colouring m.named in
    let there = (lead_below steps start m.there h m.leads).partition in
    let same = round_of_same last m.there here there m.same in
    let idle = (idle_round last round here m.named s n).0 e in
    rounds_from_lead steps start m.there m.each m.leads (λ parts. idle (same.0.1 parts))

pub made_end : (start : PairColouring) (steps : List Step) (last : PairColouring) → AreMade start steps last → IsSamePartition last (partition_after start steps)
made_end start steps last m = subst (IsSamePartition last) (lead_after steps start m.there m.leads) m.same
