-- The words of the program.
use Rattle.std.specs.Prelude.{ℕ, List, [], ◌∷◌, map, String, string_bytes, codes, bytes_eq, Option, None, option_map, IfSome, if◌then◌else◌}
use Rattle.std.specs.declared.alloc.Global.{Global}
use Rattle.cohere_inputs.specs.Task.{Task, Run, Check, Demo, Ask, CheckCells, Table}
use Rattle.cohere_inputs.specs.RunForm.{run_in}
use Rattle.cohere_inputs.specs.CheckForm.{check_in}
use Rattle.cohere_inputs.specs.DemoForm.{demo_in}
use Rattle.cohere_inputs.specs.AskForms.{ring_in, cells_in, lattice_in}
use Rattle.cohere_inputs.specs.TableForm.{table_in}

-- the bytes of each word
abbrev pub texts : List (String Global) → List (List ℕ)
texts words = map string_bytes words

-- what the words ask for, where they fit a form of a neighbour of the script
abbrev pub further_task : List ℕ → List (List ℕ) → Option Task
further_task word words =
    if bytes_eq word (codes "ring") then option_map Ask (ring_in words)
    else (if bytes_eq word (codes "cells") then option_map Ask (cells_in words)
    else (if bytes_eq word (codes "check-cells") then option_map CheckCells (check_in words)
    else (if bytes_eq word (codes "table") then option_map Table (table_in words)
    else (if bytes_eq word (codes "lattice") then option_map Ask (lattice_in words) else None))))

-- what the words ask for, where they fit a form
abbrev pub task_of : List (List ℕ) → Option Task
task_of [] = None
task_of (word ∷ words) =
    if bytes_eq word (codes "run") then option_map Run (run_in words)
    else (if bytes_eq word (codes "check") then option_map Check (check_in words)
    else (if bytes_eq word (codes "demo") then option_map Demo (demo_in words) else further_task word words))

-- it holds of what the words ask for
abbrev pub IfAsked : List (String Global) → (Task → Type 0) → Type 0
IfAsked words P = IfSome (task_of (texts words)) P
