use Rattle.std.proofs.Common.{sym, subst}
use Rattle.std.proofs.lemmas.Bool.{both_ways}
use Rattle.pair_colours.specs.Naming.{rank_of}
use Rattle.mergings.specs.Searches.{AreHeads, IsExtended}
use Rattle.mergings.proofs.SearchLemmas.{met_no, cut_no, turned_no, constant_no}
use Rattle.mergings.proofs.searching.extended.Goals as goal

pub returns-then-covered-set-ne0-clause-none : goal.returns-then-covered-set-ne0-clause-none
returns-then-covered-set-ne0-clause-none c = λ _.
    met_no c.args.k.now c.args.prefix.now c.args.heads.now c.args.covered c.args.set c.args.head c.requires.heads c.requires.set c.requires.least c.requires.low c.requires.free c.if-covered-set-ne0.true

pub returns-then-not-fits-clause-none : goal.returns-then-not-fits-clause-none
returns-then-not-fits-clause-none c = λ _. cut_no c.args.k.now c.args.prefix.now c.args.heads.now c.args.covered c.args.set c.requires.prefix (λ v k. both_ways _ c.if-not-fits.true (c.fits.ensures v k))

pub returns-then-not-fits-2-clause-none : goal.returns-then-not-fits-2-clause-none
returns-then-not-fits-2-clause-none c = λ _.
    turned_no c.args.k.now c.rank-rank.ensures.configuration c.args.prefix.now c.args.heads.now c.args.covered c.args.set c.transposes_of-turned.result c.requires.prefix c.transposes_of-turned.ensures
    (λ v k. both_ways _ c.if-not-fits-2.true (c.fits-2.ensures v k))

pub returns-then-not-are_constant-clause-none : goal.returns-then-not-are_constant-clause-none
returns-then-not-are_constant-clause-none c = λ _.
    constant_no c.args.k.now c.rank-rank.ensures.configuration c.args.prefix.now c.args.heads.now c.args.covered c.args.set c.joined-all.new.heads c.joined-all.result
    (subst (λ h. IsExtended c.args.k.now h c.args.covered c.args.set c.joined-all.new.heads c.joined-all.result) c.copy_from_slice.ensures.after c.joined-all.ensures)
    (λ a. both_ways _ c.if-not-are_constant.true (c.are_constant.ensures.1 a))

pub joined-all-requires-clause-heads : goal.joined-all-requires-clause-heads
joined-all-requires-clause-heads c = subst (λ h. AreHeads (rank_of c.args.k.now) h c.args.covered) (sym c.copy_from_slice.ensures.after) c.requires.heads

pub returns-clause-some : goal.returns-clause-some
returns-clause-some c = subst (λ h. IsExtended c.args.k.now h c.args.covered c.args.set c.joined-all.new.heads c.joined-all.result) c.copy_from_slice.ensures.after c.joined-all.ensures
