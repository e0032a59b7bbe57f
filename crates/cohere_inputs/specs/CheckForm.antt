-- The forms `check TRACE` and `check-cells TRACE`: their words.
use Rattle.std.specs.Prelude.{ℕ, List, [], ◌∷◌, Option, Some, None}

-- the name of the trace's file, where the words after `check` or `check-cells` are one
abbrev pub check_in : List (List ℕ) → Option (List ℕ)
check_in (trace ∷ []) = Some trace
check_in _ = None
