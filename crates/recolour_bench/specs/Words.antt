-- The words of refusals.
use Rattle.std.specs.Prelude.{ℕ, List, codes}
use Rattle.recolour_bench.specs.declared.edits.EditFault.{EditFault}
use Rattle.recolour_bench.specs.declared.edits.EditFault.TheVariants.{PointRange, ColourRange, ColourAbsent, NotGrowth, NotHomogeneous, TooManyPoints, HistoryFull, NothingToUndo, NothingToRedo, NoMemory}

-- a refusal has the name of its variant
abbrev pub edit_word : EditFault → List ℕ
edit_word PointRange = codes "PointRange"
edit_word ColourRange = codes "ColourRange"
edit_word ColourAbsent = codes "ColourAbsent"
edit_word NotGrowth = codes "NotGrowth"
edit_word NotHomogeneous = codes "NotHomogeneous"
edit_word TooManyPoints = codes "TooManyPoints"
edit_word HistoryFull = codes "HistoryFull"
edit_word NothingToUndo = codes "NothingToUndo"
edit_word NothingToRedo = codes "NothingToRedo"
edit_word NoMemory = codes "NoMemory"
