-- What can be wrong with a line: one test for each fault, which holds where the fault is there. The order of the tests is TooManyLines,
-- BadByte, UnknownWord, WrongCount, BadNumber, BadLimit, BadName, TooManyProducts. (The faults are this project's own.)
use Rattle.std.specs.Prelude.{ℕ, ◌==◌, ◌&&◌, ◌||◌, not, nat_le, nat_lt, if◌then◌else◌, Bool, true, false, List, [], ◌∷◌, ◌++◌, length, map, take, slice_get, slice_index, count_by, codes, bytes_eq, Option, is_some, option_map}
use Rattle.std.specs.List.{list_all, filter_map, enumerate_from}
use Rattle.std.specs.Option.{option_map_or}
use Rattle.text_lines.specs.Lines.{lines_of}
use Rattle.text_lines.specs.Number.{number_of}
use Rattle.text_lines.specs.Part.{Part}
use Rattle.text_lines.specs.Words.{words_of}
use Rattle.pair_colours.specs.Tests.{first_that_holds}
use Rattle.script_text.specs.declared.faults.ScriptWord.{ScriptWord}
use Rattle.script_text.specs.declared.faults.ScriptWord.TheVariants.{TooManyLines, BadByte, UnknownWord, WrongCount, BadNumber, BadLimit, BadName, TooManyProducts}
use Rattle.script_text.specs.declared.limits.TheConstants.{MOST_LINES, MOST_MERGINGS, MOST_PRODUCTS}
use Rattle.script_text.specs.declared.keywords.Keyword.{Keyword}
use Rattle.script_text.specs.declared.keywords.Keyword.TheVariants.{Direct, Wreath, Mergings}
use Rattle.script_text.specs.Keyword.{keyword_of, allows, has_unknown_word, number_words, names_file}

-- the words of a line, without their places
abbrev pub word_texts : Part → List (List ℕ)
word_texts line = map (λ word. word.bytes) (words_of line)

-- the line is neither blank nor a comment: it has a word, and its first word does not begin with `#`, the byte 35
abbrev pub asks : List (List ℕ) → Bool
asks [] = false
asks (first ∷ words) = not (slice_index first 0 == 35)

-- a tab, the byte 9, or a printable character of ASCII
abbrev pub is_script_byte : ℕ → Bool
is_script_byte b = (b == 9) || (nat_le 32 b && nat_le b 126)

-- the word is in the number form
abbrev pub is_number : List ℕ → Bool
is_number word = is_some (number_of word)

-- some word in the place of a number is not in the number form
abbrev pub has_bad_number : Keyword → List (List ℕ) → Bool
has_bad_number keyword words = not (list_all is_number (number_words keyword words))

-- no number of fusions that a line may ask for: 0, or above the limit
abbrev pub is_beyond_limit : ℕ → Bool
is_beyond_limit most = (most == 0) || nat_lt MOST_MERGINGS most

-- such a number stands behind `mergings`
abbrev pub has_bad_limit : Keyword → List (List ℕ) → Bool
has_bad_limit Mergings (word ∷ words) = option_map_or is_beyond_limit (number_of word) false
has_bad_limit _ _ = false

-- `-` stands in the place of the name of a file
abbrev pub has_bad_name : Keyword → List (List ℕ) → Bool
has_bad_name Direct (word ∷ words) = bytes_eq word (codes "-")
has_bad_name Wreath (word ∷ words) = bytes_eq word (codes "-")
has_bad_name _ _ = false

-- a test, with the word of its fault
abbrev pub Test : Type 0
Test = Bool × ScriptWord

-- the tests of the words behind a keyword where they are known and as many as it allows
abbrev pub content_tests : Keyword → List (List ℕ) → List Test
content_tests keyword words =
    (has_bad_number keyword words, BadNumber)
    ∷ (has_bad_limit keyword words, BadLimit)
    ∷ (has_bad_name keyword words, BadName)
    ∷ []

-- the tests of the words behind a keyword
abbrev pub keyword_tests : Keyword → List (List ℕ) → List Test
keyword_tests keyword words =
    (has_unknown_word keyword words, UnknownWord)
    ∷ (not (allows keyword (length words)), WrongCount)
    ∷ content_tests keyword words

-- the tests of the words of a line
abbrev pub word_tests : List (List ℕ) → List Test
word_tests [] = []
word_tests (first ∷ words) = option_map_or (λ keyword. keyword_tests keyword words) (keyword_of first) ((true, UnknownWord) ∷ [])

-- the tests of a line by itself; of a blank line or a comment only the first
abbrev pub text_tests : Part → List Test
text_tests line =
    (not (list_all is_script_byte line.bytes), BadByte)
    ∷ (if asks (word_texts line) then word_tests (word_texts line) else [])

-- the words are of a product line, which takes the relation of a file
abbrev pub starts_product : List (List ℕ) → Bool
starts_product [] = false
starts_product (first ∷ words) = option_map_or names_file (keyword_of first) false

abbrev pub is_product : Part → Bool
is_product line = starts_product (word_texts line)

-- the tests of a line with this number, where the text has so many product lines up to it
abbrev pub line_tests : ℕ → ℕ → Part → List Test
line_tests number products line =
    (nat_lt MOST_LINES number, TooManyLines)
    ∷ text_tests line
    ++ (is_product line && nat_lt MOST_PRODUCTS products, TooManyProducts) ∷ []

-- how many product lines the text has up to the line with this number
abbrev pub products_to : List Part → ℕ → ℕ
products_to lines number = count_by is_product (take number lines)

-- the number of a line that has a fault, with its first fault
abbrev pub fault_at : List Part → ℕ × Part → Option (ℕ × ScriptWord)
fault_at lines (number, line) = option_map (λ what. (number, what)) (first_that_holds (line_tests number (products_to lines number) line))

-- those of all lines that have one, in order
abbrev pub faults_of : List Part → List (ℕ × ScriptWord)
faults_of lines = filter_map (fault_at lines) (enumerate_from 1 lines)

-- the first of them
abbrev pub script_fault : List ℕ → Option (ℕ × ScriptWord)
script_fault text = slice_get (faults_of (lines_of text)) 0
