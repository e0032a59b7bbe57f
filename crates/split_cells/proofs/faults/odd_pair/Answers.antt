use Rattle.std.proofs.Common.{◌≡◌, ◌*◌, ◌<◌, true, false, not, get_or, ⊎_elim, sym, ap, subst, ◌∙◌, below_more, arith}
use Rattle.std.proofs.lemmas.Bool.{cases_Bool, OnTrue_at, OnFalse_at}
use Rattle.trace_text.specs.declared.step_list.Step.{Step}
use Rattle.split_cells.specs.Pairs.{partition_of}
use Rattle.split_cells.specs.Faults.{SplitsTwo}
use Rattle.wl_round.specs.CodeCounts.{AreSides, IsCountOf}
use Rattle.split_cells.specs.Fellows.{HasCodeCounts}
use Rattle.split_cells.proofs.FellowPairs.{AreSidesOf-from, sum_counts, splits_codes, AreSides-of, IsCountOf-codes}
use Rattle.split_cells.proofs.faults.odd_pair.Goals as goal

pub exceeding-requires-clause-sides : goal.exceeding-requires-clause-sides
exceeding-requires-clause-sides c =
    let pairs = c.args.pairs.now in
    let n = pairs.size in
    let codes = c.args.codes.now in
    let q = get_or c.args.members.now c.loop-a.a 0 in
    let left = c.left-left.result.now in
    let right = c.right-right.result.now in
    let sides = AreSidesOf-from n codes q left right c.points-size.result c.first.result c.second.result c.points-size.ensures c.first.ensures c.second.ensures
    c.left-left.ensures.len c.left-left.ensures.entries c.right-right.ensures.len c.right-right.ensures.entries in
    let inside : q < n * n = omega (arith, (c.requires.fellows c.loop-a.a c.loop-a-test.true).inside, c.requires.classed.bound) in
    subst (AreSides left right) (sym (c.loop-a.auto.got ∙ c.requires.got_len))
    (AreSides-of pairs c.requires.classed c.requires.settled c.requires.homes codes c.requires.coded q left right inside sides)

pub exceeding-requires-clause-want : goal.exceeding-requires-clause-want
exceeding-requires-clause-want c =
    subst (λ m. IsCountOf m c.args.want.now) (sym (c.left-left.ensures.len ∙ c.points-size.ensures))
    (IsCountOf-codes c.args.pairs.now c.args.codes.now (get_or c.args.members.now 0 0) c.args.want.now c.requires.want)

pub returns-in-Some-clause-some : goal.returns-in-Some-clause-some
returns-in-Some-clause-some c =
    let pairs = c.args.pairs.now in
    let n = pairs.size in
    let codes = c.args.codes.now in
    let p = get_or c.args.members.now 0 0 in
    let q = get_or c.args.members.now c.loop-a.a 0 in
    let left = c.left-left.result.now in
    let right = c.right-right.result.now in
    let sides = AreSidesOf-from n codes q left right c.points-size.result c.first.result c.second.result c.points-size.ensures c.first.ensures c.second.ensures
    c.left-left.ensures.len c.left-left.ensures.entries c.right-right.ensures.len c.right-right.ensures.entries in
    let fellow = c.requires.fellows c.loop-a.a c.loop-a-test.true in
    let first = c.requires.fellows 0 c.requires.some in
    let hp : p < n * n = omega (arith, first.inside, c.requires.classed.bound) in
    let hq : q < n * n = omega (arith, fellow.inside, c.requires.classed.bound) in
    let found = c.in-Some.ensures.some in
    let hz : c.in-Some.z < n = omega (arith, found.0, sides.left_len) in
    subst (λ (s : Step). SplitsTwo (partition_of pairs) pairs.parting.rank s) (sym c.step_over.ensures)
    (splits_codes pairs c.requires.classed c.requires.settled c.requires.homes codes c.requires.coded p q c.in-Some.z left right c.args.want.now hp hq hz fellow.same c.requires.want sides found.1)

pub loop-a-preserved : goal.loop-a-preserved
loop-a-preserved c =
    let pairs = c.args.pairs.now in
    let n = pairs.size in
    let codes = c.args.codes.now in
    let q = get_or c.args.members.now c.loop-a.a 0 in
    let left = c.left-left.result.now in
    let right = c.right-right.result.now in
    let sides = AreSidesOf-from n codes q left right c.points-size.result c.first.result c.second.result c.points-size.ensures c.first.ensures c.second.ensures
    c.left-left.ensures.len c.left-left.ensures.entries c.right-right.ensures.len c.right-right.ensures.entries in
    let counts : HasCodeCounts pairs codes q c.args.want.now = record { is = λ code. sym (c.in_default.ensures.none code) ∙ sum_counts n codes q left right sides code } in
    record {
      up = λ e. ⊎_elim (λ t. let z : true ≡ false = sym e ∙ ap not t in cc) (λ f. OnFalse_at f c.in_default.ensures.down) (cases_Bool c.loop-a.up);
      down = λ e. ⊎_elim (λ t. OnTrue_at t c.in_default.ensures.up) (λ f. let z : false ≡ true = sym e ∙ ap not f in cc) (cases_Bool c.loop-a.up);
      like = below_more _ _ c.loop-a.invariant.like counts;
    }
