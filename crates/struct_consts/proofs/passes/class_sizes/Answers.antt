use Rattle.std.proofs.Common.{◌≡◌, ◌+◌, ◌<◌, get_or, set, length, ap, ◌∙◌, arith}
use Rattle.std.proofs.lemmas.List.{get_or_default}
use Rattle.struct_consts.proofs.PassLemmas.{colour_low, size_small, sizes_more}
use Rattle.struct_consts.proofs.passes.class_sizes.Goals as goal

pub index_mut-requires : goal.index_mut-requires
index_mut-requires c =
    let K = c.args.k.now in
    let i = c.loop-colour.colour-index in
    let same = c.colours-colour-items.ensures.colours in
    let known = colour_low K c.args.rank i c.colours-colour-items.ensures.within.colouring c.requires (omega (arith, c.loop-colour-test.true, ap length same)) in
    omega (arith, known, ap (λ ys. get_or ys i 0) same, c.loop-colour.invariant.len)

pub overflow_add-index_mut : goal.overflow_add-index_mut
overflow_add-index_mut c =
    let K = c.args.k.now in
    let i = c.loop-colour.colour-index in
    let sizes = c.loop-colour.sizes.items in
    let same = c.colours-colour-items.ensures.colours in
    let colour = get_or c.colours-colour-items.result.now i 0 in
    let low = colour_low K c.args.rank i c.colours-colour-items.ensures.within.colouring c.requires (omega (arith, c.loop-colour-test.true, ap length same)) in
    let known : colour < c.args.rank = omega (arith, low, ap (λ ys. get_or ys i 0) same) in
    let at : c.index_mut.result.now ≡ get_or sizes colour 0 = c.index_mut.ensures.value ∙ get_or_default sizes colour c.index_mut.result.now 0 (omega (arith, known, c.loop-colour.invariant.len)) in
    omega (arith, at, c.loop-colour.invariant.each colour known, size_small K colour i c.colours-colour-items.ensures.within)

pub loop-colour-preserved : goal.loop-colour-preserved
loop-colour-preserved c =
    let K = c.args.k.now in
    let i = c.loop-colour.colour-index in
    let sizes = c.loop-colour.sizes.items in
    let same = c.colours-colour-items.ensures.colours in
    let colour = get_or c.colours-colour-items.result.now i 0 in
    let is : colour ≡ get_or K.colours i 0 = ap (λ ys. get_or ys i 0) same in
    let inside : i < length K.colours = omega (arith, c.loop-colour-test.true, ap length same) in
    let low = colour_low K c.args.rank i c.colours-colour-items.ensures.within.colouring c.requires inside in
    let known : colour < c.args.rank = omega (arith, low, is) in
    let at : c.index_mut.result.now ≡ get_or sizes colour 0 = c.index_mut.ensures.value ∙ get_or_default sizes colour c.index_mut.result.now 0 (omega (arith, known, c.loop-colour.invariant.len)) in
    sizes_more K c.args.rank i colour sizes (set sizes colour (c.index_mut.result.now + 1)) inside is known (ap (λ v. set sizes colour (v + 1)) at) c.loop-colour.invariant
