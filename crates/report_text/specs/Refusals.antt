-- Answers that are refused.
use Rattle.std.specs.Prelude.{◌≡◌, ◌⊎◌, ℕ, List}
use Rattle.report_text.specs.EditLines.{refused_text_of}

-- t refuses with the word where the condition fails; where it holds, so does the answer
abbrev pub RefusedUnless : Type 0 → List ℕ → List ℕ → Type 0 → Type 0
RefusedUnless condition word t answer = (¬ condition × (t ≡ refused_text_of word)) ⊎ (condition × answer)
