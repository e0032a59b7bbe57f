-- How the faults of relation texts are named.
use Rattle.std.specs.Prelude.{ℕ, List, codes}
use Rattle.relation_text.specs.declared.faults.RelationWord.{RelationWord}
use Rattle.relation_text.specs.declared.faults.RelationWord.TheVariants.{NoLine, BadByte, SizeForm, NoPoints, TooManyPoints, WrongLength, PadBits, MatrixHead, MatrixNumber, MatrixCount, ColourTooLarge}

-- the word of a fault is the name of its variant
abbrev pub relation_word : RelationWord → List ℕ
relation_word NoLine = codes "NoLine"
relation_word BadByte = codes "BadByte"
relation_word SizeForm = codes "SizeForm"
relation_word NoPoints = codes "NoPoints"
relation_word TooManyPoints = codes "TooManyPoints"
relation_word WrongLength = codes "WrongLength"
relation_word PadBits = codes "PadBits"
relation_word MatrixHead = codes "MatrixHead"
relation_word MatrixNumber = codes "MatrixNumber"
relation_word MatrixCount = codes "MatrixCount"
relation_word ColourTooLarge = codes "ColourTooLarge"
