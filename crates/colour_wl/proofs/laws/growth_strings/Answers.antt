use Rattle.std.proofs.Common.{[]}
use Rattle.colour_wl.specs.GrowthStrings.{growth_strings, IsBefore}
use Rattle.pair_colours.proofs.SortedLists.{In_from_Contains, Contains_from_In}
use Rattle.colour_wl.proofs.Members.{pairs_from_Ordered}
use Rattle.colour_wl.proofs.Growth.{growth_strings_grow, growth_strings_listed, Ordered-growth_from}
use Rattle.colour_wl.proofs.laws.growth_strings.Goals as goal

pub returns : goal.returns
returns c = record {
  all = λ r a. (λ h. growth_strings_grow r a (In_from_Contains (growth_strings r) a h), λ g. Contains_from_In (growth_strings r) a (growth_strings_listed r a g));
  in_order = λ r. pairs_from_Ordered IsBefore (growth_strings r) (Ordered-growth_from r []);
}
