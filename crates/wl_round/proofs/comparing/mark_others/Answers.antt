use Rattle.std.proofs.Common.{◌≡◌, ◌<◌, ◌+◌, List, ℕ, Bool, length, get_or, sym, subst, arith}
use Rattle.std.proofs.lemmas.Bool.{OnTrue_from, OnFalse_from, OnTrue_at, OnFalse_at}
use Rattle.wl_round.specs.Sides.{colouring_of}
use Rattle.wl_round.specs.Comparing.{AlikeAt}
use Rattle.wl_round.proofs.CompareLemmas.{AreAlike-from, HasUnlike-from, IsFoundTo, IsFoundTo-like, IsFoundTo-start, IsFoundTo-unlike, IsMarked-from, IsMarkedTo, IsMarkedTo-first, IsMarkedTo-like, IsMarkedTo-unlike, alike_at, alike_pairs}
use Rattle.wl_round.proofs.comparing.mark_others.Goals as goal
use Rattle.wl_round.proofs.comparing.mark_others.Goals.{then-is_alike, else-is_alike}

pub loop-a-init : goal.loop-a-init
loop-a-init c =
    let P = colouring_of c.args.tables.now in
    let members = c.args.members.now in
    record {
      ready = c.requires.ready;
      marked = IsMarkedTo-first P members c.args.marks.now (omega (arith, c.requires.inside 0 c.requires.some, c.requires.marks));
      found = IsFoundTo-start P members;
    }

pub loop-a-preserved : goal.loop-a-preserved
loop-a-preserved c =
    let P = colouring_of c.args.tables.now in
    let members = c.args.members.now in
    let a = c.loop-a.a in
    let old = c.args.marks.now in
    let marks = c.loop-a.marks in
    let i = c.loop-a.invariant in
    let first = c.pair_at-first in
    let own = c.pair_at in
    let inside : get_or members a 0 < length marks = omega (arith, c.requires.inside a c.loop-a-test.true, c.requires.marks, i.marked.len) in
    record {
      ready = c.is_alike.ensures.ready;
      marked = elim c.if-is_alike.branch [
        | then-is_alike w ↦
            let like : AlikeAt P (get_or members 0 0) (get_or members a 0) =
            alike_at P (get_or members 0 0) (get_or members a 0) first.result.x first.result.y own.result.x own.result.y first.ensures.x first.ensures.y own.ensures.x own.ensures.y
            (OnTrue_at w.if-is_alike.true c.is_alike.ensures.yes) in
            subst (λ (l : List ℕ). IsMarkedTo P members (a + 1) old l) (sym w.marks-is) (IsMarkedTo-like P members a old marks inside i.marked like)
        | else-is_alike w ↦
            let unlike : ¬ AlikeAt P (get_or members 0 0) (get_or members a 0) = λ like.
            OnFalse_at w.if-is_alike.false c.is_alike.ensures.no
            (alike_pairs P (get_or members 0 0) (get_or members a 0) first.result.x first.result.y own.result.x own.result.y first.ensures.x first.ensures.y own.ensures.x own.ensures.y like) in
            subst (λ (l : List ℕ). IsMarkedTo P members (a + 1) old l) (sym w.marks-is) (IsMarkedTo-unlike P members a old marks inside i.marked unlike)
      ];
      found = elim c.if-is_alike.branch [
        | then-is_alike w ↦
            let like : AlikeAt P (get_or members 0 0) (get_or members a 0) =
            alike_at P (get_or members 0 0) (get_or members a 0) first.result.x first.result.y own.result.x own.result.y first.ensures.x first.ensures.y own.ensures.x own.ensures.y
            (OnTrue_at w.if-is_alike.true c.is_alike.ensures.yes) in
            subst (λ (f : Bool). IsFoundTo P members (a + 1) f) (sym w.found-is) (IsFoundTo-like P members a c.loop-a.found like i.found)
        | else-is_alike w ↦
            let unlike : ¬ AlikeAt P (get_or members 0 0) (get_or members a 0) = λ like.
            OnFalse_at w.if-is_alike.false c.is_alike.ensures.no
            (alike_pairs P (get_or members 0 0) (get_or members a 0) first.result.x first.result.y own.result.x own.result.y first.ensures.x first.ensures.y own.ensures.x own.ensures.y like) in
            subst (λ (f : Bool). IsFoundTo P members (a + 1) f) (sym w.found-is) (IsFoundTo-unlike P members a unlike)
      ];
    }

pub returns-clause-marked : goal.returns-clause-marked
returns-clause-marked c =
    let end : c.loop-a.a ≡ length c.args.members.now = omega (arith, c.requires.some, c.loop-a.auto.a-end, c.loop-a-test.false) in
    IsMarked-from (colouring_of c.args.tables.now) c.args.members.now c.loop-a.a c.args.marks.now c.loop-a.marks end c.loop-a.invariant.marked

pub returns-clause-some : goal.returns-clause-some
returns-clause-some c = OnTrue_from _ _ (λ e.
    let end : c.loop-a.a ≡ length c.args.members.now = omega (arith, c.requires.some, c.loop-a.auto.a-end, c.loop-a-test.false) in
    HasUnlike-from (colouring_of c.args.tables.now) c.args.members.now c.loop-a.a c.args.marks.now c.loop-a.marks c.loop-a.found end e c.loop-a.invariant.marked c.loop-a.invariant.found)

pub returns-clause-none : goal.returns-clause-none
returns-clause-none c = OnFalse_from _ _ (λ e.
    let end : c.loop-a.a ≡ length c.args.members.now = omega (arith, c.requires.some, c.loop-a.auto.a-end, c.loop-a-test.false) in
    AreAlike-from (colouring_of c.args.tables.now) c.args.members.now c.loop-a.a c.loop-a.found end e c.loop-a.invariant.found)
