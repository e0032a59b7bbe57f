-- What was added to a sink.
use Rattle.std.specs.Prelude.{ℕ, ◌⊎◌, List, take, Option}
use Rattle.std.specs.Io.KnownBytes.{Appends}
use Rattle.scheme_io.specs.Count.{Rose}

-- the line was added, or, only where the sink's faults rose, a prefix of it
abbrev pub AddsLine : {D : Type 0} → (D → Option (List ℕ)) → (D → ℕ) → D → D → List ℕ → Type 0
AddsLine written faults old new line =
    Appends (written old) (written new) line
    ⊎ ((n : ℕ) × Appends (written old) (written new) (take n line) × Rose (faults old) (faults new))
