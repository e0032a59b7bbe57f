-- What is known of a file that was loaded and read.
use Rattle.std.proofs.Common.{◌≡◌, ◌≤◌, ℕ, List, length, sym, ap, subst, ◌∙◌}
use Rattle.std.specs.Prelude.{Option, Some, None, IfSome}
use Rattle.pair_colours.specs.Colouring.{PairColouring}
use Rattle.scheme_io.specs.Files.{Files, Holds}
use Rattle.relation_text.specs.Faults.{IsFaultOf, relation_fault}
use Rattle.relation_text.specs.declared.faults.RelationFault.{RelationFault}
use Rattle.relation_text.specs.declared.faults.RelationFault.TheVariants.{Text, NoMemory}
use Rattle.relation_text.specs.declared.faults.RelationWord.{RelationWord}
use Rattle.relation_text.specs.declared.reading.TheConstants.{MOST_RELATION}
use Rattle.relation_text.specs.Relation.{IsRelationText}
use Rattle.cohere_inputs.specs.declared.faults.FileFault.TheVariants.{Relation}
use Rattle.script_text.specs.Script.{IsScript}
use Rattle.script_text.specs.declared.acts.Line.{Line}
use Rattle.script_text.specs.declared.limits.TheConstants.{MOST_SCRIPT}
use Rattle.cohere_inputs.specs.Needs.{relation_need}
use Rattle.cohere_inputs.specs.Bad.{IsRelationFile, IsScriptFile, IsFault}
use Rattle.cohere_inputs.specs.Unread.{IsCause, unread_relation}

-- the file that was loaded is the relation that was read of it
pub relation_file : (files : Option Files) (name : List ℕ) (line : ℕ) (bytes view : List ℕ) (C : PairColouring) → view ≡ bytes → Holds files name bytes → length bytes ≤ MOST_RELATION
    → IsRelationText view line C → IfSome files (λ files. IsRelationFile files name line C)
relation_file None name line bytes view C same found short read = tt
relation_file (Some files) name line bytes view C same found short read =
    record { bytes = bytes; file = record { holds = found; short = short }; reads = subst (λ (b : List ℕ). IsRelationText b line C) same read }

-- and its fault is that of the file
relation_fault_of : (files : Option Files) (name : List ℕ) (line : ℕ) (bytes view : List ℕ) (what : RelationWord) (at : ℕ) → view ≡ bytes → Holds files name bytes → length bytes ≤ MOST_RELATION
    → relation_fault view line ≡ Some (what, at) → IfSome files (λ files. IsFault files (relation_need name line) (Relation what at))
relation_fault_of None name line bytes view what at same found short fault = tt
relation_fault_of (Some files) name line bytes view what at same found short fault =
    (bytes, record { holds = found; short = short }, ap (λ b. relation_fault b line) (sym same) ∙ fault)

-- so a fault of reading is a cause
pub relation_cause : (files : Option Files) (name : List ℕ) (line : ℕ) (bytes view : List ℕ) (fault : RelationFault) (rose : Type 0) → view ≡ bytes → Holds files name bytes → length bytes ≤ MOST_RELATION
    → IsFaultOf fault (relation_fault view line) → IsCause files (relation_need name line) (unread_relation fault) rose
relation_cause files name line bytes view (Text what at) rose same found short fault = (relation_fault_of files name line bytes view what at same found short fault, λ e. absurd cc)
relation_cause files name line bytes view NoMemory rose same found short fault = tt

-- the file that was loaded is the script that was read of it
pub script_file : (files : Option Files) (name bytes view : List ℕ) (lines : List Line) → view ≡ bytes → Holds files name bytes → length bytes ≤ MOST_SCRIPT
    → IsScript view lines → IfSome files (λ files. IsScriptFile files name lines)
script_file None name bytes view lines same found short read = tt
script_file (Some files) name bytes view lines same found short read =
    record { bytes = bytes; file = record { holds = found; short = short }; reads = subst (λ (b : List ℕ). IsScript b lines) same read }
