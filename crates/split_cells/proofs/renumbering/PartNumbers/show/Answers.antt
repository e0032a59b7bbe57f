use Rattle.std.proofs.Common.{◌≡◌, ◌+◌, ◌^◌, ◌<◌, ◌++◌, ◌∷◌, [], ℕ, List, length, get_or, set, true, false, sym, ap, subst, ◌∙◌, arith}
use Rattle.std.proofs.lemmas.List.{get_or_read}
use Rattle.pair_colours.specs.Colouring.{colour_at}
use Rattle.split_cells.specs.PartNumbers.{IsShownTo}
use Rattle.split_cells.proofs.WalkKeys.{stands_at}
use Rattle.split_cells.proofs.PartsShown.{shown_kept, shown_later, shown_first, fresh_small}
use Rattle.split_cells.proofs.renumbering.PartNumbers.show.Goals as goal

pub returns-then-get-len : goal.returns-then-get-len
returns-then-get-len c =
    let P = c.args.partition.now in
    let R = c.args.round.now in
    let self = c.args.self.now in
    let x = c.pair_on_walk-x.result.0 in
    let y = c.pair_on_walk-x.result.1 in
    let s = stands_at P c.size.result c.args.place c.pair_on_walk-x.result c.size.ensures.points c.pair_on_walk-x.ensures.pair c.pair_on_walk-x.ensures.row c.pair_on_walk-x.ensures.column in
    shown_kept P R c.requires.round c.requires.named self.numbers.items self.seen.items self.fresh c.args.place x y s c.requires.shown
    (λ e. c.if-get-len.true (omega (arith, c.get.ensures, c.len.ensures, e)))

pub overflow_add-self : goal.overflow_add-self
overflow_add-self c =
    let self = c.args.self.now in
    let small : self.fresh + 1 < 2 ^ 32 =
    fresh_small c.args.partition.now c.args.round.now self.numbers.items self.seen.items self.fresh c.args.place c.requires.partition c.size.ensures.within.limit c.requires.shown in
    omega arith

pub returns-then-index : goal.returns-then-index
returns-then-index c =
    let P = c.args.partition.now in
    let R = c.args.round.now in
    let self = c.args.self.now in
    let x = c.pair_on_walk-x.result.0 in
    let y = c.pair_on_walk-x.result.1 in
    let s = stands_at P c.size.result c.args.place c.pair_on_walk-x.result c.size.ensures.points c.pair_on_walk-x.ensures.pair c.pair_on_walk-x.ensures.row c.pair_on_walk-x.ensures.column in
    let new : colour_at R x y ≡ length self.numbers.items = omega (arith, c.get.ensures, c.len.ensures, c.if-get-len.false) in
    let low : c.get-class.result < length self.seen.items = omega (arith, c.requires.partition.below x y s.row s.column, c.get-class.ensures, c.requires.shown.classes) in
    let seen : get_or self.seen.items (colour_at P x y) false ≡ true =
    ap (λ k. get_or self.seen.items k false) (sym c.get-class.ensures) ∙ sym (get_or_read self.seen.items c.get-class.result c.index.result.now low c.index.ensures false) ∙ c.if-index.true in
    subst (λ (l : List ℕ). IsShownTo P R l self.seen.items (self.fresh + 1) (c.args.place + 1)) (sym c.in_ok-push.ensures.items)
    (shown_later P R c.requires.round c.requires.named self.numbers.items self.seen.items self.fresh c.args.place x y s c.requires.shown c.requires.partition new seen)

pub returns : goal.returns
returns c =
    let P = c.args.partition.now in
    let R = c.args.round.now in
    let self = c.args.self.now in
    let x = c.pair_on_walk-x.result.0 in
    let y = c.pair_on_walk-x.result.1 in
    let s = stands_at P c.size.result c.args.place c.pair_on_walk-x.result c.size.ensures.points c.pair_on_walk-x.ensures.pair c.pair_on_walk-x.ensures.row c.pair_on_walk-x.ensures.column in
    let new : colour_at R x y ≡ length self.numbers.items = omega (arith, c.get.ensures, c.len.ensures, c.if-get-len.false) in
    let low : c.get-class.result < length self.seen.items = omega (arith, c.requires.partition.below x y s.row s.column, c.get-class.ensures, c.requires.shown.classes) in
    let unseen : get_or self.seen.items (colour_at P x y) false ≡ false =
    ap (λ k. get_or self.seen.items k false) (sym c.get-class.ensures) ∙ sym (get_or_read self.seen.items c.get-class.result c.index.result.now low c.index.ensures false) ∙ c.if-index.false in
    let items : c.push-2.new.self.items ≡ self.numbers.items ++ colour_at P x y ∷ [] = c.in_ok-push-2.ensures.items ∙ ap (λ k. self.numbers.items ++ k ∷ []) c.get-class.ensures in
    subst (λ (l : List ℕ). IsShownTo P R l (set self.seen.items c.get-class.result true) self.fresh (c.args.place + 1)) (sym items)
    (subst (λ (k : ℕ). IsShownTo P R (self.numbers.items ++ colour_at P x y ∷ []) (set self.seen.items k true) self.fresh (c.args.place + 1)) (sym c.get-class.ensures)
    (shown_first P R c.requires.round c.requires.named self.numbers.items self.seen.items self.fresh c.args.place x y s c.requires.shown c.requires.partition new unseen))
