-- How the faults of scripts are named.
use Rattle.std.specs.Prelude.{ℕ, List, codes}
use Rattle.script_text.specs.declared.faults.ScriptWord.{ScriptWord}
use Rattle.script_text.specs.declared.faults.ScriptWord.TheVariants.{TooManyLines, BadByte, UnknownWord, WrongCount, BadNumber, BadLimit, BadName, TooManyProducts}

-- the word of a fault is the name of its variant
abbrev pub script_word : ScriptWord → List ℕ
script_word TooManyLines = codes "TooManyLines"
script_word BadByte = codes "BadByte"
script_word UnknownWord = codes "UnknownWord"
script_word WrongCount = codes "WrongCount"
script_word BadNumber = codes "BadNumber"
script_word BadLimit = codes "BadLimit"
script_word BadName = codes "BadName"
script_word TooManyProducts = codes "TooManyProducts"
