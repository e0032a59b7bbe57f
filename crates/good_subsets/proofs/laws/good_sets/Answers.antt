use Rattle.pair_colours.specs.Naming.{rank_of}
use Rattle.pair_colours.specs.Subsets.{subsets}
use Rattle.pair_colours.proofs.ThoseLemmas.{those_unique}
use Rattle.good_subsets.specs.GoodSets.{IsGood}
use Rattle.good_subsets.proofs.Deciding.{good_sets_exist}
use Rattle.good_subsets.proofs.laws.good_sets.Goals as goal

pub returns : goal.returns
returns c = record {
  exists = good_sets_exist;
  unique = λ K xs ys. those_unique (IsGood K) (subsets (rank_of K)) xs ys;
}
