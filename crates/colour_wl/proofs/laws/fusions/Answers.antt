use Rattle.pair_colours.specs.Closure.{Coherent}
use Rattle.pair_colours.specs.Naming.{rank_of}
use Rattle.colour_wl.specs.GrowthStrings.{growth_strings, IsBefore}
use Rattle.colour_wl.specs.Fusions.{merge}
use Rattle.pair_colours.proofs.ThoseLemmas.{those_unique}
use Rattle.colour_wl.proofs.Existing.{fusions_exist, fusions_after_exist}
use Rattle.colour_wl.proofs.Resumed.{fusions_resumed}
use Rattle.colour_wl.proofs.laws.fusions.Goals as goal

pub returns-clause-one : goal.returns-clause-one
returns-clause-one c = record {
  exists = fusions_exist;
  unique = λ K xs ys. those_unique (λ a. Coherent (merge K a)) (growth_strings (rank_of K)) xs ys;
  exists_after = fusions_after_exist;
  unique_after = λ K after xs ys. those_unique (λ a. IsBefore after a × Coherent (merge K a)) (growth_strings (rank_of K)) xs ys;
}

pub returns-clause-resume : goal.returns-clause-resume
returns-clause-resume c = fusions_resumed
