-- The proofs of the laws, under the names by which crates above cite them.
use Rattle.std.proofs.Common.{refl}
use Rattle.script_text.specs.Limits.{AreLimits}
use Rattle.script_text.specs.Script.{ScriptIsUnique, ScriptOrFault, ScriptHasNoFault, FaultHasNoScript}
use Rattle.script_text.proofs.ScriptLaw as scripts

pub script_is_unique : ScriptIsUnique
script_is_unique = scripts.script_is_unique

pub script_or_fault : ScriptOrFault
script_or_fault = scripts.script_or_fault

pub script_has_no_fault : ScriptHasNoFault
script_has_no_fault = scripts.script_has_no_fault

pub fault_has_no_script : FaultHasNoScript
fault_has_no_script = scripts.fault_has_no_script

pub limits : AreLimits
limits = record { bytes = refl; lines = refl; mergings = refl; products = refl }
