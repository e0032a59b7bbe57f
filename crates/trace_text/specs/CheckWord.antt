-- How the bad lines of claims are named.
use Rattle.std.specs.Prelude.{ℕ, List, codes}
use Rattle.trace_text.specs.declared.check_words.CheckWord.{CheckWord}
use Rattle.trace_text.specs.declared.check_words.CheckWord.TheVariants.{StageNotRefining, NoSuchClass, IdleStep, NotCoherent, WrongClosure}

-- the word of a bad line is the name of its variant
abbrev pub check_word : CheckWord → List ℕ
check_word StageNotRefining = codes "StageNotRefining"
check_word NoSuchClass = codes "NoSuchClass"
check_word IdleStep = codes "IdleStep"
check_word NotCoherent = codes "NotCoherent"
check_word WrongClosure = codes "WrongClosure"
