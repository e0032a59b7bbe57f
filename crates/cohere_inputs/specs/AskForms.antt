-- The forms `ring TABLE COLOUR...`, `cells RELATION COLOUR...` and `lattice RELATION [I J]`: their words.
use Rattle.std.specs.Prelude.{ℕ, List, [], ◌∷◌, Option, Some, None, option_map}
use Rattle.text_lines.specs.Number.{number_of}
use Rattle.cohere_inputs.specs.NumberWords.{some_numbers_in}
use Rattle.cohere_inputs.specs.Task.{Question, Ring, Cells, Lattice, Common, AskWords}

-- what is asked of the relation in this file
abbrev pub ask_of : List ℕ → Question → AskWords
ask_of relation question = record { relation = relation; question = question }

-- the words after `ring`
abbrev pub ring_in : List (List ℕ) → Option AskWords
ring_in [] = None
ring_in (table ∷ words) = option_map (λ colours. ask_of table (Ring colours)) (some_numbers_in words)

-- the words after `cells`
abbrev pub cells_in : List (List ℕ) → Option AskWords
cells_in [] = None
cells_in (relation ∷ words) = option_map (λ colours. ask_of relation (Cells colours)) (some_numbers_in words)

-- two places in the list of fusions
abbrev pub places_of : Option ℕ → Option ℕ → Option Question
places_of (Some i) (Some j) = Some (Common i j)
places_of _ _ = None

-- the words after the relation
abbrev pub lattice_question : List (List ℕ) → Option Question
lattice_question [] = Some Lattice
lattice_question (i ∷ j ∷ []) = places_of (number_of i) (number_of j)
lattice_question _ = None

-- the words after `lattice`
abbrev pub lattice_in : List (List ℕ) → Option AskWords
lattice_in [] = None
lattice_in (relation ∷ words) = option_map (ask_of relation) (lattice_question words)
