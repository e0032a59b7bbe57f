use Rattle.std.proofs.Common.{◌≡◌, ◌++◌, ◌∷◌, [], ℕ, length, sym, ap, ◌∙◌, arith}
use Rattle.std.proofs.lemmas.List.{length_push}
use Rattle.visitors.specs.Entries.{Met}
use Rattle.visitors.specs.Packing.{all_unpacked}
use Rattle.visitors.proofs.Packings.{length-all, packed_more, packed_same, on_err_from}
use Rattle.visitors.proofs.packed.PackedVisitor.meet.Goals as goal

pub returns-in_err-store_tail-clause-err : goal.returns-in_err-store_tail-clause-err
returns-in_err-store_tail-clause-err c =
    on_err_from _ (packed_same c.self.inside.tails.items c.self.inside.pieces.items c.self.invariant.1 _ c.in_err-store_tail.ensures.err.0 c.in_err-store_tail.ensures.err.1 ∙ ap (λ (v : Met). v.met) c.self.view_is)

pub returns-in_err-push-clause-err : goal.returns-in_err-push-clause-err
returns-in_err-push-clause-err c =
    on_err_from _
    (ap (all_unpacked c.store_tail.new.tails.items) c.in_err-push.ensures.items
    ∙ packed_same c.self.inside.tails.items c.self.inside.pieces.items c.self.invariant.1 _ _ c.in_ok-store_tail.ensures.ok
    ∙ ap (λ (v : Met). v.met) c.self.view_is)

pub invariant_of-self-2 : goal.invariant_of-self-2
invariant_of-self-2 c =
    let f = c.shared_with_last-shared.ensures in
    let tails = c.self.inside.tails.items in
    let pieces = c.self.inside.pieces.items in
    let start : c.len-start.result ≡ length tails = omega (arith, c.len-start.ensures, c.self.inside.tails.ok) in
    let met = ap (λ (v : Met). length v.met) c.self.view_is in
    let room = ap (λ (v : Met). v.room) c.self.view_is in (
      omega (arith, ap length c.in_ok-push.ensures.items, length_push pieces (record { shared = c.shared_with_last-shared.result; width = length c.args.entry.now; start = c.len-start.result }), c.requires.space, met, room, length-all tails pieces),
      (packed_more tails pieces c.self.invariant.1 c.args.entry.now c.requires.entry _ _ c.deref.ensures.value c.deref-2.ensures.value c.shared_with_last-shared.result c.len-start.result start f.width f.some f.before f.same _ _ c.in_ok-store_tail.ensures.ok c.in_ok-push.ensures.items).1,
    )

pub returns-clause-ok : goal.returns-clause-ok
returns-clause-ok c =
    let f = c.shared_with_last-shared.ensures in
    let tails = c.self.inside.tails.items in
    let pieces = c.self.inside.pieces.items in
    let start : c.len-start.result ≡ length tails = omega (arith, c.len-start.ensures, c.self.inside.tails.ok) in
    (packed_more tails pieces c.self.invariant.1 c.args.entry.now c.requires.entry _ _ c.deref.ensures.value c.deref-2.ensures.value c.shared_with_last-shared.result c.len-start.result start f.width f.some f.before f.same _ _ c.in_ok-store_tail.ensures.ok c.in_ok-push.ensures.items).0
    ∙ ap (λ (v : Met). v.met ++ c.args.entry.now ∷ []) c.self.view_is

pub returns-clause-stop : goal.returns-clause-stop
returns-clause-stop c =
    let all : ℕ = length (all_unpacked c.store_tail.new.tails.items c.push.new.self.items) in
    let same : c.len.result ≡ all = omega (arith, c.len.ensures, c.push.new.self.ok, length-all c.store_tail.new.tails.items c.push.new.self.items) in
    (λ e. sym same ∙ c.next_after.ensures.0 e, λ l. let full : all ≡ c.self.inside.room = l in c.next_after.ensures.1 (same ∙ full))
