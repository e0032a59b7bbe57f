-- The answers of a start.
use Rattle.std.specs.Prelude.{Result, Err, Bool, true, false}
use Rattle.scheme_io.specs.declared.store.StartFault.{StartFault}
use Rattle.scheme_io.specs.declared.store.StartFault.TheVariants.{Failed}

-- the start answered that it failed
abbrev pub has_failed : Result (Unit {0}) StartFault → Bool
has_failed (Err Failed) = true
has_failed _ = false
