use Rattle.std.proofs.Common.{◌≡◌, ◌+◌, ◌*◌, ◌/◌, ◌%◌, map, sym, ap, ◌∙◌, arith}
use Rattle.std.proofs.lemmas.Nat.{div-mul-add, mod-mul-add}
use Rattle.pair_colours.specs.Colouring.{points}
use Rattle.split_cells.proofs.BuildLemmas.{points_more}
use Rattle.split_cells.proofs.CellLemmas.{few_pairs}
use Rattle.split_cells.proofs.sizes.Size.new.Goals as goal

pub overflow_mul-pairs : goal.overflow_mul-pairs
overflow_mul-pairs c = omega (arith, few_pairs c.args.points c.requires)

pub overflow_cast-x : goal.overflow_cast-x
overflow_cast-x c = omega (arith, c.requires, c.loop-x-test.true)

pub overflow_cast-y : goal.overflow_cast-y
overflow_cast-y c = omega (arith, c.requires, c.loop-y-test.true)

pub loop-y-preserved : goal.loop-y-preserved
loop-y-preserved c =
    let n = c.args.points in
    let x = c.loop-x.x in
    let y = c.loop-y.y in
    let hy = c.loop-y-test.true in
    record {
      first = points_more (λ p. p / n) n x y x c.loop-y.firsts.items c.push.new.self.items hy c.loop-y.invariant.first (sym (div-mul-add x n y hy)) c.in_ok-push.ensures.items;
      second = points_more (λ p. p % n) n x y y c.loop-y.seconds.items c.push-in-loop-y.new.self.items hy c.loop-y.invariant.second (sym (mod-mul-add x n y hy)) c.in_ok-push-2.ensures.items;
    }

pub invariant_of-result : goal.invariant_of-result
invariant_of-result c =
    let n = c.args.points in
    let end : c.loop-x.x ≡ n = omega (arith, c.loop-x.auto.x-end, c.loop-x-test.false) in
    record {
      limit = c.requires;
      first = c.loop-x.invariant.first ∙ ap (λ m. map (λ p. p / n) (points (m * n))) end;
      second = c.loop-x.invariant.second ∙ ap (λ m. map (λ p. p % n) (points (m * n))) end;
    }

pub loop-x-init : goal.loop-x-init
loop-x-init c =
    let n = c.args.points in
    let none : 0 ≡ 0 * n = omega arith in
    record {
      first = c.in_ok-firsts.ensures.items ∙ ap (λ m. map (λ p. p / n) (points m)) none;
      second = c.in_ok-seconds.ensures.items ∙ ap (λ m. map (λ p. p % n) (points m)) none;
    }

pub loop-y-init : goal.loop-y-init
loop-y-init c =
    let n = c.args.points in
    let row : c.loop-x.x * n ≡ c.loop-x.x * n + 0 = omega arith in
    record {
      first = c.loop-x.invariant.first ∙ ap (λ m. map (λ p. p / n) (points m)) row;
      second = c.loop-x.invariant.second ∙ ap (λ m. map (λ p. p % n) (points m)) row;
    }

pub loop-x-preserved : goal.loop-x-preserved
loop-x-preserved c =
    let n = c.args.points in
    let x = c.loop-x.x in
    let row : x * n + c.loop-y.y ≡ (x + 1) * n = omega (arith, c.loop-y.auto.y-end, c.loop-y-test.false) in
    record {
      first = c.loop-y.invariant.first ∙ ap (λ m. map (λ p. p / n) (points m)) row;
      second = c.loop-y.invariant.second ∙ ap (λ m. map (λ p. p % n) (points m)) row;
    }
