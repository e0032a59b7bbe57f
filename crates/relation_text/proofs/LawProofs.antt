-- The proofs of the laws, under the names by which crates above cite them.
use Rattle.std.proofs.Common.{refl}
use Rattle.relation_text.specs.Law as law
use Rattle.relation_text.specs.Limits.{AreLimits}
use Rattle.relation_text.proofs.RawColours as raw
use Rattle.relation_text.proofs.ReadBack as written
use Rattle.relation_text.proofs.Readings as readings

pub reads_or_fails : law.ReadsOrFails
reads_or_fails = readings.reads_or_fails

pub reading_has_no_fault : law.ReadingHasNoFault
reading_has_no_fault = readings.no_fault-read

pub fault_has_no_reading : law.FaultHasNoReading
fault_has_no_reading = readings.fault_has_no_reading

pub reading_is_unique : law.ReadingIsUnique
reading_is_unique = readings.reading_is_unique

pub reading_is_raw : law.ReadingIsRaw
reading_is_raw = raw.reading_is_raw

pub graph_is_read_back : law.GraphIsReadBack
graph_is_read_back = written.graph_read_back

pub digraph_is_read_back : law.DigraphIsReadBack
digraph_is_read_back = written.digraph_read_back

pub limits : AreLimits
limits = record { bytes = refl }
