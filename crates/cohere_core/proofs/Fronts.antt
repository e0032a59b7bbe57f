-- What was added before a fault.
use Rattle.std.proofs.Common.{◌≡◌, ℕ, List, Option, sym, subst}
use Rattle.std.proofs.KnownBytes.{Appends-nil}
use Rattle.scheme_io.specs.Bytes.{AppendsPart}
use Rattle.cohere_core.specs.declared.answering.SessionFault.{SessionFault}
use Rattle.cohere_core.specs.declared.answering.SessionFault.TheVariants.{SinkFailed, NoMemory}
use Rattle.cohere_core.specs.Added.{AddsUntil}

-- before the first byte of a text, memory is wanting
pub nothing_until : (IsText : List ℕ → Type 0) (t : List ℕ) (w : Option (List ℕ)) → IsText t → AddsUntil NoMemory IsText w w
nothing_until IsText t w is = record { text = t; count = 0; is = is; proper = λ e. absurd cc; added = Appends-nil w }

-- a part of a text was written before the sink failed
pub part_until : (IsText : List ℕ → Type 0) (t view : List ℕ) (old new : Option (List ℕ)) → IsText t → view ≡ t → AppendsPart old new view → AddsUntil SinkFailed IsText old new
part_until IsText t view old new is same part =
    record { text = view; count = part.0; is = subst IsText (sym same) is; proper = λ e. part.1; added = part.2 }

-- what was added before a fault is a front of another text too
pub until_other : (fault : SessionFault) (IsText IsOther : List ℕ → Type 0) (old new : Option (List ℕ)) → ((t : List ℕ) → IsText t → IsOther t) → AddsUntil fault IsText old new
    → AddsUntil fault IsOther old new
until_other fault IsText IsOther old new other h = record { text = h.text; count = h.count; is = other h.text h.is; proper = h.proper; added = h.added }
