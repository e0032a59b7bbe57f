use Rattle.std.proofs.Common.{◌≡◌, take}
use Rattle.std.specs.Prelude.{map}
use Rattle.cohere_inputs.specs.NumberWords.{number_in}
use Rattle.cohere_inputs.specs.Words.{texts}
use Rattle.cohere_inputs.proofs.number_words.numbers_of.Given as goal

abbrev pub invariant-loop-word : goal.invariant-loop-word
invariant-loop-word l = l.list.items ≡ map number_in (texts (take l.word-index l.fn.words))
