use Rattle.std.proofs.Common.{arith}
use Rattle.std.proofs.lemmas.List.{nil_from_length}
use Rattle.scheme_tests.proofs.SearchLemmas.{spread_start, search_end}
use Rattle.scheme_tests.proofs.spans.reached.Goals as goal

pub spread-requires : goal.spread-requires
spread-requires c = spread_start c.args.k.now c.args.class c.in-Some.x c.loop-x.marks.items c.loop-x.waiting.items c.pop.new.self.items c.in-Some.ensures.items c.loop-x.invariant

pub returns : goal.returns
returns c = search_end c.args.k.now c.args.class c.loop-x.marks.items c.loop-x.waiting.items (nil_from_length c.loop-x.waiting.items (omega (arith, c.in_default.ensures.cases.0, c.loop-x.waiting.ok))) c.loop-x.invariant
