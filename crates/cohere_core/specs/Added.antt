-- What was added to an output, where some texts may be added.
use Rattle.std.specs.Prelude.{◌≡◌, ◌<◌, ℕ, List, length, take, Option}
use Rattle.std.specs.Io.KnownBytes.{Appends}
use Rattle.cohere_core.specs.declared.answering.SessionFault.{SessionFault}
use Rattle.cohere_core.specs.declared.answering.SessionFault.TheVariants.{SinkFailed}

-- such a text was added
abbrev pub AddsText : (List ℕ → Type 0) → Option (List ℕ) → Option (List ℕ) → Type 0
AddsText IsText old new = (t : List ℕ) × IsText t × Appends old new t

-- a front of such a text was added
abbrev pub AddsFront : (List ℕ → Type 0) → Option (List ℕ) → Option (List ℕ) → Type 0
AddsFront IsText old new = (t : List ℕ) × (n : ℕ) × IsText t × Appends old new (take n t)

-- a front of such a text was added, and not the whole
abbrev pub AddsProperFront : (List ℕ → Type 0) → Option (List ℕ) → Option (List ℕ) → Type 0
AddsProperFront IsText old new = (t : List ℕ) × (n : ℕ) × IsText t × (n < length t) × Appends old new (take n t)

-- the front of such a text after which a fault came: where the sink failed, not the whole
pub record AddsUntil (fault : SessionFault) (IsText : List ℕ → Type 0) (old new : Option (List ℕ)) : Type 0 where
  pub text : List ℕ
  pub count : ℕ
  pub is : IsText text
  pub proper : fault ≡ SinkFailed → count < length text
  pub added : Appends old new (take count text)
