-- The words that lines of a script begin with, and what may follow each. (The language is this project's own.)
use Rattle.std.specs.Prelude.{ℕ, ◌==◌, ◌||◌, not, nat_le, Bool, true, false, List, [], ◌∷◌, ◌++◌, take, drop, codes, Option, find, bytes_eq}
use Rattle.script_text.specs.declared.keywords.Keyword.{Keyword}
use Rattle.script_text.specs.declared.keywords.Keyword.TheVariants.{Set, Both, Fix, Join, Adopt, Fuse, Direct, Wreath, Undo, Redo, Show, Raw, Classes, Constants, Tests, Array, Closed, Quotient, Sub, Close, Good, Mergings, Trace, Write}

-- how the keyword is spelled
abbrev pub spelling : Keyword → List ℕ
spelling Set = codes "set"
spelling Both = codes "both"
spelling Fix = codes "fix"
spelling Join = codes "join"
spelling Adopt = codes "adopt"
spelling Fuse = codes "fuse"
spelling Direct = codes "direct"
spelling Wreath = codes "wreath"
spelling Undo = codes "undo"
spelling Redo = codes "redo"
spelling Show = codes "show"
spelling Raw = codes "raw"
spelling Classes = codes "classes"
spelling Constants = codes "constants"
spelling Tests = codes "tests"
spelling Array = codes "array"
spelling Closed = codes "closed"
spelling Quotient = codes "quotient"
spelling Sub = codes "sub"
spelling Close = codes "close"
spelling Good = codes "good"
spelling Mergings = codes "mergings"
spelling Trace = codes "trace"
spelling Write = codes "write"

abbrev pub keywords : List Keyword
keywords =
    Set ∷ Both ∷ Fix ∷ Join ∷ Adopt ∷ Fuse ∷ Direct ∷ Wreath
    ∷ Undo ∷ Redo ∷ Show ∷ Raw ∷ Classes ∷ Constants ∷ Tests ∷ Array
    ∷ Closed ∷ Quotient ∷ Sub ∷ Close ∷ Good ∷ Mergings ∷ Trace ∷ Write ∷ []

-- the keyword that a word is, if it is one
unfoldable pub keyword_of : List ℕ → Option Keyword
keyword_of word = find (λ keyword. bytes_eq word (spelling keyword)) keywords

-- how many words may follow the keyword
abbrev pub allows : Keyword → ℕ → Bool
allows Set count = count == 3
allows Both count = count == 3
allows Fix count = count == 1
allows Join count = count == 2
allows Fuse count = nat_le 1 count
allows Direct count = count == 1
allows Wreath count = count == 1
allows Array count = nat_le 1 count
allows Quotient count = nat_le 1 count
allows Close count = nat_le 1 count
allows Sub count = nat_le 2 count
allows Mergings count = (count == 1) || nat_le 3 count
allows Trace count = nat_le count 1
allows Write count = nat_le 2 count
allows _ count = count == 0

-- the words that follow have another word in the place of `after`, of the `2` of a trace, or of the name of a graph format
abbrev pub has_unknown_word : Keyword → List (List ℕ) → Bool
has_unknown_word Mergings (most ∷ word ∷ words) = not (bytes_eq word (codes "after"))
has_unknown_word Trace (word ∷ words) = not (bytes_eq word (codes "2"))
has_unknown_word Write (word ∷ words) = not (bytes_eq word (codes "graph6") || bytes_eq word (codes "digraph6"))
has_unknown_word _ _ = false

-- of the words that follow, those in the places of numbers
abbrev pub number_words : Keyword → List (List ℕ) → List (List ℕ)
number_words Direct words = []
number_words Wreath words = []
number_words Mergings words = take 1 words ++ drop 2 words
number_words Trace words = []
number_words Write words = drop 1 words
number_words _ words = words

-- the keyword is followed by the name of a file
abbrev pub names_file : Keyword → Bool
names_file Direct = true
names_file Wreath = true
names_file _ = false
