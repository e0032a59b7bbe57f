-- The proofs of the laws, under the names by which crates above cite them.
use Rattle.std.proofs.Common.{length, ap, ◌∙◌}
use Rattle.std.proofs.lemmas.List.FromFn.{length-range_with_len}
use Rattle.colour_wl.specs.GrowthStrings.{next_number}
use Rattle.colour_wl.proofs.NamedMerges.{first_met-growth}
use Rattle.schur_rings.specs.Laws.{GroupOrNot, GrowthCounts, RingExists, RingIsFirstRow, RingIsUnique}
use Rattle.schur_rings.proofs.AxiomLemmas as axioms
use Rattle.schur_rings.proofs.RingLemmas as rings

-- a colouring is the table of a group, or not
pub group_or_not : GroupOrNot
group_or_not = axioms.group_or_not

-- each list has one closure on the elements, which is row 0 of the closure of its Cayley colouring
pub ring_exists : RingExists
ring_exists = rings.ring_exists

pub ring_is_unique : RingIsUnique
ring_is_unique = rings.ring_is_unique

pub ring_is_first_row : RingIsFirstRow
ring_is_first_row = rings.ring_is_first_row

-- how many numbers of a growth string are different
pub growth_counts : GrowthCounts
growth_counts n g h = ap length (first_met-growth n g h) ∙ length-range_with_len 0 (next_number g)
