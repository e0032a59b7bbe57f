use Rattle.std.proofs.Common.{◌≡◌, ◌++◌, map}
use Rattle.script_text.specs.Answers.{texts}
use Rattle.script_text.proofs.reading.texts_of.Given as goal

-- the words so far and those that are left are all of them
abbrev pub invariant-loop-word : goal.invariant-loop-word
invariant-loop-word l = texts l.texts.items ++ map (λ word. word.bytes) l.word-iterator ≡ map (λ word. word.bytes) l.fn.words
