-- Rows that are to come: their faults are those of their places.
use Rattle.std.proofs.Common.{◌≡◌, ℕ, zero, suc, ◌+◌, true, false, cond, List, [], ◌∷◌, ◌++◌, length, drop, Option, Some, None, refl, sym, ap, ◌∙◌, arith, inl, inr}
use Rattle.std.specs.Prelude.{option_map}
use Rattle.std.proofs.Math.Seq.{drop-append_seam}
use Rattle.std.proofs.lemmas.Bool.{cases_Bool}
use Rattle.std.proofs.lemmas.List.FromFn.{length-map-range_with_len}
use Rattle.pair_colours.specs.Colouring.{PairColouring}
use Rattle.trace_text.specs.declared.trace_faults.TraceFault.{TraceFault}
use Rattle.trace_text.specs.declared.trace_faults.TraceFault.TheVariants.{Text, NoMemory}
use Rattle.trace_text.specs.declared.trace_faults.TraceWord.{TraceWord}
use Rattle.trace_text.specs.declared.trace_faults.TraceWord.TheVariants.{Row}
use Rattle.trace_text.specs.TraceFault.{Place, at_row, at_closure_row, is_row_line, next_row, next_closure_row, fault_from, fault_on}
use Rattle.trace_text.specs.Reading.{IsFaultOf, rows_fault}
use Rattle.text_lines.specs.Rows.{matrix_row, matrix_lines}

-- where k rows of n colours are to come, `place k` is expected
pub record AreRowPlaces (n : ℕ) (place : ℕ → Place) : Type 0 where
  pub early : (k line : ℕ) → fault_from line (place (suc k)) [] ≡ Some (line, Row)
  pub row : (k line : ℕ) (bytes : List ℕ) (rest : List (List ℕ)) → is_row_line n bytes ≡ true
      → fault_from line (place (suc k)) (bytes ∷ rest) ≡ fault_from (line + 1) (place k) rest
  pub other : (k line : ℕ) (bytes : List ℕ) (rest : List (List ℕ)) → is_row_line n bytes ≡ false
      → fault_from line (place (suc k)) (bytes ∷ rest) ≡ Some (line, Row)

pub stage_rows : (v n : ℕ) → AreRowPlaces n (next_row v n)
stage_rows v n = record {
  early = λ k line. refl;
  row = λ k line bytes rest t. ap (λ b. fault_on line (at_row v n k) (cond b (Some (next_row v n k)) None) (λ next. fault_from (line + 1) next rest)) t;
  other = λ k line bytes rest f. ap (λ b. fault_on line (at_row v n k) (cond b (Some (next_row v n k)) None) (λ next. fault_from (line + 1) next rest)) f;
}

pub closure_rows : (n : ℕ) → AreRowPlaces n (next_closure_row n)
closure_rows n = record {
  early = λ k line. refl;
  row = λ k line bytes rest t. ap (λ b. fault_on line (at_closure_row n k) (cond b (Some (next_closure_row n k)) None) (λ next. fault_from (line + 1) next rest)) t;
  other = λ k line bytes rest f. ap (λ b. fault_on line (at_closure_row n k) (cond b (Some (next_closure_row n k)) None) (λ next. fault_from (line + 1) next rest)) f;
}

-- the first line that is no row
rows_at_fault : (n : ℕ) (place : ℕ → Place) → AreRowPlaces n place → (k line at : ℕ) (lines : List (List ℕ)) → rows_fault n k line lines ≡ Some at
    → fault_from line (place k) lines ≡ Some (at, Row)
rows_at_fault n place p zero line at lines e = absurd cc
rows_at_fault n place p (suc k) line at [] e = let same : line ≡ at = cc in p.early k line ∙ ap (λ l. Some (l, Row)) same
rows_at_fault n place p (suc k) line at (bytes ∷ rest) e = elim (cases_Bool (is_row_line n bytes)) [
  | inl t ↦ p.row k line bytes rest t ∙ rows_at_fault n place p k (line + 1) at rest (sym (ap (λ b. cond b (rows_fault n k (line + 1) rest) (Some line)) t) ∙ e)
  | inr f ↦
      let both : Some line ≡ Some at = sym (ap (λ b. cond b (rows_fault n k (line + 1) rest) (Some line)) f) ∙ e in
      let same : line ≡ at = cc in
      p.other k line bytes rest f ∙ ap (λ l. Some (l, Row)) same
]

-- and where all are rows
rows_clean : (n : ℕ) (place : ℕ → Place) → AreRowPlaces n place → (k line : ℕ) (lines : List (List ℕ)) → rows_fault n k line lines ≡ None
    → fault_from line (place k) lines ≡ fault_from (line + k) (place 0) (drop k lines)
rows_clean n place p zero line lines e = ap (λ l. fault_from l (place 0) lines) (omega arith)
rows_clean n place p (suc k) line [] e = absurd cc
rows_clean n place p (suc k) line (bytes ∷ rest) e = elim (cases_Bool (is_row_line n bytes)) [
  | inl t ↦ p.row k line bytes rest t
      ∙ rows_clean n place p k (line + 1) rest (sym (ap (λ b. cond b (rows_fault n k (line + 1) rest) (Some line)) t) ∙ e)
      ∙ ap (λ l. fault_from l (place 0) (drop k rest)) (omega arith)
  | inr f ↦ let both : Some line ≡ None = sym (ap (λ b. cond b (rows_fault n k (line + 1) rest) (Some line)) f) ∙ e in absurd cc
]

-- the fault of a line that is no row
abbrev pub row_at : ℕ → ℕ × TraceWord
row_at line = (line, Row)

-- an answer that is not want of memory tells the fault of the rows
row_word : (o : Option ℕ) (at : ℕ) (word : TraceWord) → option_map row_at o ≡ Some (at, word) → (o ≡ Some at) × (Row ≡ word)
row_word None at word e = absurd cc
row_word (Some line) at word e =
    let both : row_at line ≡ (at, word) = cc in
    (ap (λ (b : ℕ × TraceWord). Some b.0) both, ap (λ (b : ℕ × TraceWord). b.1) both)

pub matrix_fault : (n line : ℕ) (lines : List (List ℕ)) (place : ℕ → Place) → AreRowPlaces n place → (fault : TraceFault)
    → IsFaultOf fault (option_map row_at (rows_fault n n line lines)) → IsFaultOf fault (fault_from line (place n) lines)
matrix_fault n line lines place p (Text at word) e =
    let r = row_word (rows_fault n n line lines) at word e in
    rows_at_fault n place p n line at lines r.0 ∙ ap (λ w. Some (at, w)) r.1
matrix_fault n line lines place p NoMemory e = e

-- the rows of a matrix that was read
pub matrix_clean : (n line next : ℕ) (lines rest : List (List ℕ)) (place : ℕ → Place) (C : PairColouring) → AreRowPlaces n place → rows_fault n n line lines ≡ None
    → lines ≡ matrix_lines C ++ rest → C.size ≡ n → next ≡ line + n → fault_from line (place n) lines ≡ fault_from next (place 0) rest
matrix_clean n line next lines rest place C p clean rows size number =
    let len : length (matrix_lines C) ≡ n = length-map-range_with_len (matrix_row C) 0 C.size ∙ size in
    let behind : drop n lines ≡ rest = (λ i. drop (sym len i) (rows i)) ∙ drop-append_seam (matrix_lines C) rest in
    rows_clean n place p n line lines clean ∙ (λ i. fault_from (sym number i) (place 0) (behind i))
