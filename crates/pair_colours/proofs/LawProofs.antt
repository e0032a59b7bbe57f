-- The proofs of the laws, under the names by which crates above cite them.
use Rattle.pair_colours.specs.Closure.{ClosureExists, ClosureIsUnique, NamedClosureExists, NamedClosureIsUnique, ClosureIsRaw}
use Rattle.pair_colours.specs.ColourSets.{ColourSetOrNot, EdgeSetOrNot}
use Rattle.pair_colours.specs.ClosedSet.{ClosedSetsExist, ClosedSetsAreUnique}
use Rattle.pair_colours.specs.Subsets.{SubsetsAreAll}
use Rattle.pair_colours.proofs.Exists as exists
use Rattle.pair_colours.proofs.Closures as closures
use Rattle.pair_colours.proofs.RawClosures as raw
use Rattle.pair_colours.proofs.ColourSets as sets
use Rattle.pair_colours.proofs.SubsetLemmas as subsets
use Rattle.pair_colours.proofs.ClosedSets as closed

-- every colouring has a closure, and its closures have one naming
pub closure_exists : ClosureExists
closure_exists = exists.closure_exists

pub closure_is_unique : ClosureIsUnique
closure_is_unique = closures.closure_is_unique

-- so it has the closure, and one alone
pub named_closure_exists : NamedClosureExists
named_closure_exists = closures.named_closure_exists

pub named_closure_is_unique : NamedClosureIsUnique
named_closure_is_unique = closures.named_closure_is_unique

-- the closure of a raw colouring is raw
pub closure_is_raw : ClosureIsRaw
closure_is_raw = raw.IsRawColouring-closure

-- a list of numbers is a set of colours or not, and an edge set or not
pub colour_set_or_not : ColourSetOrNot
colour_set_or_not = sets.colour_set_or_not

pub edge_set_or_not : EdgeSetOrNot
edge_set_or_not = sets.edge_set_or_not

-- the list of subsets has all of them, in the order of their bit numbers
pub subsets_are_all : SubsetsAreAll
subsets_are_all = subsets.subsets_are_all

-- every colouring has one list of closed sets
pub closed_sets_exist : ClosedSetsExist
closed_sets_exist = closed.closed_sets_exist

pub closed_sets_are_unique : ClosedSetsAreUnique
closed_sets_are_unique = closed.closed_sets_are_unique
