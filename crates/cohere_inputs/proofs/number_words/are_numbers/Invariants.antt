use Rattle.std.proofs.Common.{◌≡◌, true, take}
use Rattle.std.specs.List.{list_all}
use Rattle.cohere_inputs.specs.NumberWords.{is_number}
use Rattle.cohere_inputs.specs.Words.{texts}
use Rattle.cohere_inputs.proofs.number_words.are_numbers.Given as goal

abbrev pub invariant-loop-word : goal.invariant-loop-word
invariant-loop-word l = list_all is_number (texts (take l.word-index l.fn.words)) ≡ true
