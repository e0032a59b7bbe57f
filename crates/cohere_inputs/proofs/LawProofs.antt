-- The proofs of the laws, under the names by which crates above cite them.
use Rattle.std.proofs.Common.{refl}
use Rattle.cohere_inputs.specs.Law.{NoneOrFirstBad, NoneIsFirst, FirstBadIsUnique, InputsExist, InputsAreGood, TraceHasFewLines}
use Rattle.cohere_inputs.specs.Limits.{AreLimits}
use Rattle.cohere_inputs.proofs.ClaimLength as lengths
use Rattle.cohere_inputs.proofs.FirstBad as files

pub none_or_first_bad : NoneOrFirstBad
none_or_first_bad = files.none_or_first_bad

pub none_is_first : NoneIsFirst
none_is_first = files.none_is_first

pub first_bad_is_unique : FirstBadIsUnique
first_bad_is_unique = files.first_bad_is_unique

pub inputs_exist : InputsExist
inputs_exist = files.inputs_exist

pub inputs_are_good : InputsAreGood
inputs_are_good = files.inputs_are_good

pub trace_has_few_lines : TraceHasFewLines
trace_has_few_lines = lengths.few_lines

pub limits : AreLimits
limits = record { line = refl }
