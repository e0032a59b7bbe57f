-- The step `R`: one round of refinement, idle exactly on a coherent partition.
use Rattle.std.proofs.Common.{◌≡◌, ◌↔◌, ℕ, ◌+◌, ◌<◌, List, [], ◌∷◌, length, cond, ◌⊎◌, inl, inr, ⊎_elim, refl, sym, ap, subst, ◌∙◌, arith}
use Rattle.std.proofs.lemmas.Bool.{cases_lt, cases_eq}
use Rattle.std.proofs.lemmas.List.Elements.{All-nil}
use Rattle.std.proofs.lemmas.List.Sorted.{sum_by-IsPermutation}
use Rattle.pair_colours.specs.Colouring.{PairColouring, IsColouring, Refines, IsSamePartition}
use Rattle.pair_colours.specs.Closure.{Coherent}
use Rattle.pair_colours.specs.Naming.{rank_of}
use Rattle.pair_colours.specs.Rounds.{Alike, IsRound, first_alike}
use Rattle.pair_colours.proofs.Exists.{first_alike-same, first_alike-alike}
use Rattle.pair_colours.proofs.Names.{named_of-same}
use Rattle.pair_colours.proofs.Places.{Refines-refl, Refines-trans}
use Rattle.pair_colours.proofs.Rounds.{alike_in, sides, sorts, triangles-over, IsPermutation-sides}
use Rattle.trace_text.specs.declared.step_list.Step.{Step}
use Rattle.trace_text.specs.declared.step_list.Step.TheVariants.{Round}
use Rattle.trace_text.specs.Partition.{IsPartition, meet_of}
use Rattle.trace_text.specs.Split.{later_keys, key_of, HasParts, split_of, IsAllowed, partition_after}
use Rattle.trace_text.specs.RoundChains.{AreRounds}
use Rattle.trace_text.proofs.Meeting.{IsNamedMeet-meet_of}
use Rattle.trace_text.proofs.Partitions.{rank_of-named_of}
use Rattle.trace_text.proofs.Parting.{two_keys, parted_together, parted_apart, rank_of-parted_by}
use Rattle.trace_text.proofs.Reaching.{coherent_from, coherent_no_step}
use Rattle.trace_text.proofs.Splits.{key_of-apart, IsPartition-split_of}
use Rattle.pair_colours.proofs.Meets.{IsNamedMeet-unique}

-- one partition: a relation that is reflexive, symmetric and transitive
pub IsSamePartition-refl : (A : PairColouring) → IsSamePartition A A
IsSamePartition-refl A = record { finer = Refines-refl A; coarser = Refines-refl A }

pub IsSamePartition-sym : (A B : PairColouring) → IsSamePartition A B → IsSamePartition B A
IsSamePartition-sym A B s = record { finer = s.coarser; coarser = s.finer }

pub IsSamePartition-trans : (A B C : PairColouring) → IsSamePartition A B → IsSamePartition B C → IsSamePartition A C
IsSamePartition-trans A B C s t = record { finer = Refines-trans A B C s.finer t.finer; coarser = Refines-trans C B A t.coarser s.coarser }

-- the split by a round has the classes of the pairs that are alike
pub IsRound-split_of : (P : PairColouring) → IsPartition P → IsRound P (split_of P Round)
IsRound-split_of P h = record {
  colouring = (IsPartition-split_of P Round h).colouring;
  sizes = refl;
  apart = λ x y u v hx hy hu hv e.
      first_alike-alike P x y u v hx hy hu hv (parted_apart P (first_alike P) h (key_of-apart P Round) x y u v hx hy hu hv e).1;
  together = λ x y u v hx hy hu hv a. parted_together P (first_alike P) x y u v hx hy hu hv a.own (first_alike-same P x y u v a);
}

-- it has as many classes more as there are later keys
pub rank_of-round : (P : PairColouring) → IsPartition P → rank_of (split_of P Round) ≡ rank_of P + length (later_keys P (first_alike P))
rank_of-round P h = rank_of-parted_by P (first_alike P) h

-- the colouring that a round leaves as it is, is coherent
pub coherent_from_round : (P R : PairColouring) → IsRound P R → Refines P R → Coherent P
coherent_from_round P R s r = coherent_from P (λ x hx y hy u hu v hv e. s.apart x y u v hx hy hu hv (r.classes x y u v hx hy hu hv e))

-- and a round does not split a coherent one
pub round_of_coherent : (P R : PairColouring) → IsColouring P → Coherent P → IsRound P R → Refines P R
round_of_coherent P R p h s = record {
  sizes = sym s.sizes;
  classes = λ x y u v hx hy hu hv e. s.together x y u v hx hy hu hv (alike_in P P p h (Refines-refl P) x y u v hx hy hu hv e);
}

-- where no class has two parts, a round leaves the partition as it is
pub idle_refines : (P : PairColouring) → IsPartition P → ¬ HasParts P Round → Refines P (split_of P Round)
idle_refines P h idle = record {
  sizes = refl;
  classes = λ x y u v hx hy hu hv e. ⊎_elim
      (λ k. parted_together P (first_alike P) x y u v hx hy hu hv e k)
      (λ ne. absurd (idle (two_keys P (first_alike P) x y u v hx hy hu hv e ne)))
      (cases_eq (first_alike P x y) (first_alike P u v));
}

-- a round may be made where some class has two parts
pub IsAllowed-round : (P : PairColouring) → HasParts P Round → IsAllowed P Round
IsAllowed-round P parts = record { names = All-nil (λ number. number < rank_of P); parts = parts }

-- the law: a round is idle exactly on a coherent partition
pub round_is_idle_on_coherent : (P : PairColouring) → IsPartition P → (¬ HasParts P Round) ↔ Coherent P
round_is_idle_on_coherent P h = (
  λ idle. coherent_from_round P (split_of P Round) (IsRound-split_of P h) (idle_refines P h idle),
  λ c parts. coherent_no_step P h c Round (IsAllowed-round P parts),
)

-- it is idle or not
pub has_parts_or_not : (P : PairColouring) (s : Step) → HasParts P s ⊎ ¬ HasParts P s
has_parts_or_not P s = ⊎_elim (λ l. inr (λ h. omega (arith, l, h))) (λ l. inl l) (cases_lt (length (later_keys P (key_of P s))) 1)

-- pairs that are alike in a colouring are alike in each one that it refines
pub Alike-coarser : (A B : PairColouring) → IsColouring A → Refines A B → (x y u v : ℕ) → x < A.size → y < A.size → u < A.size → v < A.size
    → Alike A x y u v → Alike B x y u v
Alike-coarser A B a r x y u v hx hy hu hv l =
    let same = IsPermutation-sides A x y u v l.counts in
    record {
      diagonal = l.diagonal;
      own = r.classes x y u v hx hy hu hv l.own;
      turned = r.classes y x v u hy hx hv hu l.turned;
      counts = λ i j.
          triangles-over A B a r x y i j hx hy
          ∙ sym (sum_by-IsPermutation (λ w. cond (sorts A B i j w) 1 0) (sides A x y) (sides A u v) same)
          ∙ sym (triangles-over A B a r u v i j hu hv);
    }

-- so the rounds of the finer of two colourings refine those of the coarser
pub rounds_refine : (A B R S : PairColouring) → IsColouring A → Refines A B → IsRound A R → IsRound B S → Refines R S
rounds_refine A B R S a r s t = record {
  sizes = s.sizes ∙ r.sizes ∙ sym t.sizes;
  classes = λ x y u v hx hy hu hv e.
      t.together x y u v (on x hx) (on y hy) (on u hu) (on v hv)
      (Alike-coarser A B a r x y u v (to x hx) (to y hy) (to u hu) (to v hv) (s.apart x y u v (to x hx) (to y hy) (to u hu) (to v hv) e));
}
  where
    to : (z : ℕ) → z < R.size → z < A.size
    to z l = omega (arith, l, s.sizes)

    on : (z : ℕ) → z < R.size → z < B.size
    on z l = omega (arith, l, s.sizes, r.sizes)

-- rounds of one partition are one partition
pub rounds_same : (A B R S : PairColouring) → IsColouring A → IsColouring B → IsSamePartition A B → IsRound A R → IsRound B S → IsSamePartition R S
rounds_same A B R S a b same s t = record { finer = rounds_refine A B R S a same.finer s t; coarser = rounds_refine B A S R b same.coarser t s }

-- a round of a partition has the classes of the split
pub round_is_split : (P R : PairColouring) → IsPartition P → IsRound P R → IsSamePartition R (split_of P Round)
round_is_split P R h s = rounds_same P P R (split_of P Round) h.colouring h.colouring (IsSamePartition-refl P) s (IsRound-split_of P h)

-- colourings of one partition have one rank
pub rank_of-same : (A B : PairColouring) → IsColouring A → IsColouring B → IsSamePartition A B → rank_of A ≡ rank_of B
rank_of-same A B a b s = sym (rank_of-named_of A a) ∙ ap rank_of (named_of-same A B a b s.finer s.coarser) ∙ rank_of-named_of B b

-- a round has the rank of the partition exactly where the step is idle
pub rank_of-idle_round : (P R : PairColouring) → IsPartition P → IsRound P R → (rank_of R ≡ rank_of P) ↔ (¬ HasParts P Round)
rank_of-idle_round P R h s =
    let e = rank_of-same R (split_of P Round) s.colouring (IsPartition-split_of P Round h).colouring (round_is_split P R h s) in (
      λ same parts. omega (arith, same, parts, e, rank_of-round P h),
      λ idle. ⊎_elim (λ l. omega (arith, l, e, rank_of-round P h)) (λ l. absurd (idle l)) (cases_lt (length (later_keys P (first_alike P))) 1),
    )

-- and so exactly on a coherent partition
pub rank_of-coherent_round : (P R : PairColouring) → IsPartition P → IsRound P R → (rank_of R ≡ rank_of P) ↔ Coherent P
rank_of-coherent_round P R h s =
    let idle = rank_of-idle_round P R h s in
    let coherent = round_is_idle_on_coherent P h in
    (λ e. coherent.0 (idle.0 e), λ c. idle.1 (coherent.1 c))

-- what is idle on a partition, and what it is split into, depend on its classes alone
pub round_of_same : (P Q : PairColouring) → IsPartition P → IsPartition Q → IsSamePartition P Q
    → (HasParts P Round ↔ HasParts Q Round) × IsSamePartition (split_of P Round) (split_of Q Round)
round_of_same P Q p q s =
    let split = rounds_same P Q (split_of P Round) (split_of Q Round) p.colouring q.colouring s (IsRound-split_of P p) (IsRound-split_of Q q) in
    let before = rank_of-same P Q p.colouring q.colouring s in
    let after = rank_of-same (split_of P Round) (split_of Q Round) (IsPartition-split_of P Round p).colouring (IsPartition-split_of Q Round q).colouring split in (
      (λ parts. omega (arith, parts, before, after, rank_of-round P p, rank_of-round Q q), λ parts. omega (arith, parts, before, after, rank_of-round P p, rank_of-round Q q)),
      split,
    )

-- so rounds of a partition are rounds of another with its classes
pub AreRounds-same : (steps : List Step) (P Q : PairColouring) → IsPartition P → IsPartition Q → IsSamePartition P Q → AreRounds steps P
    → AreRounds steps Q × IsSamePartition (partition_after P steps) (partition_after Q steps)
AreRounds-same [] P Q p q s a = (λ parts. a ((round_of_same P Q p q s).0.1 parts), s)
AreRounds-same (step ∷ steps) P Q p q s a =
    let r = round_of_same P Q p q s in
    let p2 = IsPartition-split_of P Round p in
    let q2 = IsPartition-split_of Q Round q in
    let again = AreRounds-same steps (split_of P Round) (split_of Q Round) p2 q2 r.1 a.2 in (
      (a.0, r.0.0 a.1, again.0),
      subst (λ t. IsSamePartition (partition_after (split_of P t) steps) (partition_after (split_of Q t) steps)) (sym a.0) again.1,
    )

-- the meet with a colouring depends on its classes alone
pub meet_of-same : (C P Q : PairColouring) → IsColouring C → C.size ≡ P.size → IsSamePartition P Q → meet_of C P ≡ meet_of C Q
meet_of-same C P Q c size s =
    let m = IsNamedMeet-meet_of C P c size in
    let n = IsNamedMeet-meet_of C Q c (size ∙ s.finer.sizes) in
    IsNamedMeet-unique C Q (meet_of C P) (meet_of C Q) (record {
      colouring = m.colouring;
      first = m.first;
      second = Refines-trans (meet_of C P) P Q m.second s.finer;
      together = λ x y u v hx hy hu hv e f.
          let to = λ (z : ℕ) (l : z < C.size). let k : z < Q.size = omega (arith, l, size, s.finer.sizes) in k in
          m.together x y u v hx hy hu hv e (s.coarser.classes x y u v (to x hx) (to y hy) (to u hu) (to v hv) f);
      named = m.named;
    }) n
