-- One-line answers to edits and to refused lines.
use Rattle.std.specs.Prelude.{ℕ, List, ◌++◌, codes, decimal}

-- an accepted edit, an undo or a redo, with the size and the rank of the closure afterwards
abbrev pub ok_text : ℕ → ℕ → List ℕ
ok_text points rank = codes "ok points " ++ decimal points ++ codes " rank " ++ decimal rank ++ codes "\n"

-- a line that is refused
abbrev pub refused_text_of : List ℕ → List ℕ
refused_text_of word = codes "refused " ++ word ++ codes "\n"
