use Rattle.std.proofs.Common.{◌<◌, subst, arith}
use Rattle.pair_colours.specs.Naming.{rank_of}
use Rattle.mergings.specs.Searches.{IsJoined}
use Rattle.mergings.proofs.HeadLemmas.{extended_one, extended_both}
use Rattle.mergings.proofs.searching.joined.Goals as goal

pub returns-then-all-turned-ne0 : goal.returns-then-all-turned-ne0
returns-then-all-turned-ne0 c =
    let K = c.args.k.now in
    let j = subst (λ n. IsJoined n c.args.set c.args.head c.args.heads.now c.join.new.heads) c.rank-rank.ensures.value c.join.ensures in
    extended_one K c.args.heads.now c.join.new.heads c.args.covered c.args.set c.args.head c.requires.heads c.requires.apart c.requires.least c.requires.head j

pub returns-then-other-rank : goal.returns-then-other-rank
returns-then-other-rank c =
    let K = c.args.k.now in
    let j = subst (λ n. IsJoined n c.args.set c.args.head c.args.heads.now c.join.new.heads) c.rank-rank.ensures.value c.join.ensures in
    extended_one K c.args.heads.now c.join.new.heads c.args.covered c.args.set c.args.head c.requires.heads c.requires.apart c.requires.least c.requires.head j

pub returns : goal.returns
returns c =
    let K = c.args.k.now in
    let j = subst (λ n. IsJoined n c.args.set c.args.head c.args.heads.now c.join.new.heads) c.rank-rank.ensures.value c.join.ensures in
    let other = c.least_of-other.result in
    let inside : other < c.rank-rank.result = omega (arith, c.least_of-other.ensures.inside, c.if-other-rank.false) in
    let low : other < rank_of K = omega (arith, inside, c.rank-rank.ensures.value) in
    let i = subst (λ n. IsJoined n c.args.turned other c.join.new.heads c.join-2.new.heads) c.rank-rank.ensures.value c.join-2.ensures in
    let one = extended_one K c.args.heads.now c.join.new.heads c.args.covered c.args.set c.args.head c.requires.heads c.requires.apart c.requires.least c.requires.head j in
    extended_both K c.rank-rank.ensures.configuration c.args.heads.now c.join.new.heads c.join-2.new.heads c.args.covered c.args.set c.args.turned other _ one c.requires.turned c.if-all-turned-ne0.false (c.least_of-other.ensures.least inside) low i
