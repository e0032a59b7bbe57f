-- The language of scripts: which words ask for which act. (It is this project's own.)
use Rattle.std.specs.Prelude.{◌≡◌, ◌≢◌, ℕ, ◌<◌, ◌≤◌, ◌⊎◌, List, [], ◌∷◌, length, codes, Some, None}
use Rattle.std.specs.List.{AllZip}
use Rattle.text_lines.specs.Number.{IsNumberForm}
use Rattle.script_text.specs.declared.acts.Act.{Act}
use Rattle.script_text.specs.declared.acts.Act.TheVariants.{Set, Both, Fix, Join, Adopt, Fuse, Direct, Wreath, Undo, Redo, Show, Raw, Classes, Constants, Tests, Array, Closed, Quotient, Sub, Close, Good, Mergings, Trace, Write}
use Rattle.script_text.specs.declared.acts.GraphForm.TheVariants.{Graph6, Digraph6}
use Rattle.script_text.specs.declared.limits.TheConstants.{MOST_MERGINGS}

-- the words are these first ones, and then the numbers in the number form
abbrev pub Spells : List (List ℕ) → List ℕ → List (List ℕ) → Type 0
Spells [] numbers words = AllZip IsNumberForm words numbers
Spells (first ∷ firsts) numbers [] = ⊥
Spells (first ∷ firsts) numbers (word ∷ words) = (word ≡ first) × Spells firsts numbers words

-- one or more numbers
abbrev pub AreSome : List ℕ → Type 0
AreSome numbers = 0 < length numbers

-- how many fusions one line may ask for
abbrev pub IsLimit : ℕ → Type 0
IsLimit most = (1 ≤ most) × (most ≤ MOST_MERGINGS)

-- the versions of traces that a line may ask for
abbrev pub IsTraceVersion : ℕ → Type 0
IsTraceVersion version = (version ≡ 1) ⊎ (version ≡ 2)

-- the words of a line ask for the act
abbrev pub AsksFor : List (List ℕ) → Act → Type 0
AsksFor words (Set x y colour) = Spells (codes "set" ∷ []) (x ∷ y ∷ colour ∷ []) words
AsksFor words (Both x y colour) = Spells (codes "both" ∷ []) (x ∷ y ∷ colour ∷ []) words
AsksFor words (Fix x) = Spells (codes "fix" ∷ []) (x ∷ []) words
AsksFor words (Join keep gone) = Spells (codes "join" ∷ []) (keep ∷ gone ∷ []) words
AsksFor words Adopt = words ≡ codes "adopt" ∷ []
AsksFor words (Fuse string) = AreSome string × Spells (codes "fuse" ∷ []) string words
AsksFor words (Direct file) = (file ≢ codes "-") × (words ≡ codes "direct" ∷ file ∷ [])
AsksFor words (Wreath file) = (file ≢ codes "-") × (words ≡ codes "wreath" ∷ file ∷ [])
AsksFor words Undo = words ≡ codes "undo" ∷ []
AsksFor words Redo = words ≡ codes "redo" ∷ []
AsksFor words Show = words ≡ codes "show" ∷ []
AsksFor words Raw = words ≡ codes "raw" ∷ []
AsksFor words Classes = words ≡ codes "classes" ∷ []
AsksFor words Constants = words ≡ codes "constants" ∷ []
AsksFor words Tests = words ≡ codes "tests" ∷ []
AsksFor words (Array set) = AreSome set × Spells (codes "array" ∷ []) set words
AsksFor words Closed = words ≡ codes "closed" ∷ []
AsksFor words (Quotient set) = AreSome set × Spells (codes "quotient" ∷ []) set words
AsksFor words (Sub x set) = AreSome set × Spells (codes "sub" ∷ []) (x ∷ set) words
AsksFor words (Close string) = AreSome string × Spells (codes "close" ∷ []) string words
AsksFor words Good = words ≡ codes "good" ∷ []
AsksFor words (Mergings most None) = IsLimit most × Spells (codes "mergings" ∷ []) (most ∷ []) words
AsksFor words (Mergings most (Some after)) = IsLimit most × AreSome after
    × ((word : List ℕ) × IsNumberForm word most × Spells (codes "mergings" ∷ word ∷ codes "after" ∷ []) after words)
AsksFor words (Trace version) =
    ((version ≡ 1) × (words ≡ codes "trace" ∷ []))
    ⊎ ((version ≡ 2) × (words ≡ codes "trace" ∷ codes "2" ∷ []))
AsksFor words (Write Graph6 set) = AreSome set × Spells (codes "write" ∷ codes "graph6" ∷ []) set words
AsksFor words (Write Digraph6 set) = AreSome set × Spells (codes "write" ∷ codes "digraph6" ∷ []) set words
