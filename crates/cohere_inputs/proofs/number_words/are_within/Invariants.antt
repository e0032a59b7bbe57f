use Rattle.std.proofs.Common.{◌≡◌, true, take}
use Rattle.std.specs.Prelude.{◌&&◌, nat_le}
use Rattle.std.specs.List.{list_all}
use Rattle.cohere_inputs.specs.NumberWords.{number_in}
use Rattle.cohere_inputs.specs.Words.{texts}
use Rattle.cohere_inputs.proofs.number_words.are_within.Given as goal

abbrev pub invariant-loop-word : goal.invariant-loop-word
invariant-loop-word l = list_all (λ word. nat_le 1 (number_in word) && nat_le (number_in word) l.fn.limit) (texts (take l.word-index l.fn.words)) ≡ true
