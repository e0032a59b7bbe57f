-- The answer of `table`.
use Rattle.std.specs.Prelude.{ℕ, ◌+◌, Bool, nat_lt, List, [], ◌∷◌, ◌++◌, length, map, filter, Option, Some, None, codes, decimal}
use Rattle.std.specs.List.{flat_map}
use Rattle.text_lines.specs.Joined.{spaced}
use Rattle.report_text.specs.Constants.{triples}
use Rattle.report_text.specs.EditLines.{refused_text_of}
use Rattle.array_tables.specs.Parameters.{IntersectionArray, diameter_of, indices, number_of, point_count}
use Rattle.array_tables.specs.Refusal.{table_refusal}
use Rattle.array_tables.specs.declared.refusals.TableFault.{TableFault}
use Rattle.array_tables.specs.declared.refusals.TableFault.TheVariants.{FirstC, Parts, Valency, TooManyPoints, Negative, Division, NoMemory}

-- the triples (k, i, j) of distances with these k and i, by j; and those with this k, by i
abbrev pub row_triples : IntersectionArray → ℕ → ℕ → List (ℕ × ℕ × ℕ)
row_triples A k i = map (λ j. (k, i, j)) (indices A)

abbrev pub level_triples : IntersectionArray → ℕ → List (ℕ × ℕ × ℕ)
level_triples A k = flat_map (row_triples A k) (indices A)

-- the number q(i, j; k) is not 0
abbrev pub is_nonzero_in : IntersectionArray → ℕ × ℕ × ℕ → Bool
is_nonzero_in A t = nat_lt 0 (number_of A t.1 t.2 t.0)

-- the triples of a list at which it is not
abbrev pub nonzero_among : IntersectionArray → List (ℕ × ℕ × ℕ) → List (ℕ × ℕ × ℕ)
nonzero_among A triples = filter (is_nonzero_in A) triples

-- of all triples, in the order of the structure constants: by k, then i, then j
abbrev pub nonzero_triples : IntersectionArray → List (ℕ × ℕ × ℕ)
nonzero_triples A = nonzero_among A (triples (diameter_of A + 1))

-- the line of a triple: i, j, k and q(i, j; k)
abbrev pub number_line : IntersectionArray → ℕ × ℕ × ℕ → List ℕ
number_line A t = spaced (t.1 ∷ t.2 ∷ t.0 ∷ number_of A t.1 t.2 t.0 ∷ []) ++ codes "\n"

-- the points, the rank, which is one more than the diameter, how many numbers are not 0, and a line for each of these
abbrev pub table_text_of : IntersectionArray → List ℕ
table_text_of A =
    codes "table points " ++ decimal (point_count A) ++ codes " rank " ++ decimal (diameter_of A + 1) ++ codes " entries " ++ decimal (length (nonzero_triples A)) ++ codes "\n"
    ++ flat_map (number_line A) (nonzero_triples A)

-- the word of a test that fails, with its indices; want of memory is no test
abbrev pub fault_words : TableFault → List ℕ
fault_words FirstC = codes "FirstC"
fault_words (Parts i) = codes "Parts " ++ decimal i
fault_words (Valency i) = codes "Valency " ++ decimal i
fault_words (TooManyPoints i) = codes "TooManyPoints " ++ decimal i
fault_words (Negative i j k) = codes "Negative " ++ spaced (i ∷ j ∷ k ∷ [])
fault_words (Division i j k) = codes "Division " ++ spaced (i ∷ j ∷ k ∷ [])
fault_words NoMemory = codes "NoMemory"

-- the text of a table that is not refused, and the line of a refusal
abbrev pub answer_by : IntersectionArray → Option TableFault → List ℕ
answer_by A None = table_text_of A
answer_by A (Some fault) = refused_text_of (fault_words fault)

-- the answer for an array
abbrev pub table_answer_of : IntersectionArray → List ℕ
table_answer_of A = answer_by A (table_refusal A)
