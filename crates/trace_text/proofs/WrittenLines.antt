-- Texts that are written line by line.
use Rattle.std.proofs.Common.{◌≡◌, ℕ, ◌+◌, List, [], ◌∷◌, ◌++◌, map, take, sym, ap, ◌∙◌}
use Rattle.std.specs.Prelude.{codes, decimal, slice_get, Some}
use Rattle.std.specs.List.{flat_map}
use Rattle.std.proofs.lemmas.List.{append_assoc, append-nil, take_more, map-append}
use Rattle.std.proofs.lemmas.Option.{slice_get_within, get_or_from_slice_get}
use Rattle.trace_text.specs.declared.step_list.Step.{Step}
use Rattle.trace_text.specs.declared.stage_list.Stage.{Stage}
use Rattle.trace_text.specs.declared.stage_list.Claim.{Claim}
use Rattle.trace_text.specs.TraceText.{step_line, stage_lines, trace_text}
use Rattle.text_lines.specs.Rows.{matrix_rows, matrix_lines}
use Rattle.text_lines.specs.LinesText.{lines_text}
use Rattle.text_lines.proofs.LinesText.{text_more, rows_text}

-- one more step
pub step_more : (start old new : List ℕ) (steps : List Step) (place : ℕ) (s : Step) → old ≡ start ++ lines_text (map step_line (take place steps))
    → slice_get steps place ≡ Some s → new ≡ old ++ lines_text (step_line s ∷ []) → new ≡ start ++ lines_text (map step_line (take (place + 1) steps))
step_more start old new steps place s before is after =
    let more : take (place + 1) steps ≡ take place steps ++ s ∷ [] = take_more steps place s (slice_get_within steps place s is) ∙ ap (λ t. take place steps ++ t ∷ []) (get_or_from_slice_get steps place s s is) in
    text_more start old new (map step_line (take place steps)) (step_line s ∷ []) before after
    ∙ ap (λ l. start ++ lines_text l) (sym (ap (map step_line) more ∙ map-append step_line (take place steps) (s ∷ [])))

-- a whole stage
pub stage_text : (old t1 t2 t3 : List ℕ) (s : Stage) → t1 ≡ old ++ codes "stage\n" → t2 ≡ t1 ++ matrix_rows s.colours → t3 ≡ t2 ++ lines_text (map step_line s.steps) → t3 ≡ old ++ lines_text (stage_lines s)
stage_text old t1 t2 t3 s a b c =
    text_more old t2 t3 (codes "stage" ∷ matrix_lines s.colours) (map step_line s.steps)
    (text_more old t1 t2 (codes "stage" ∷ []) (matrix_lines s.colours) a (b ∙ ap (λ t. t1 ++ t) (rows_text s.colours))) c

-- the first two lines
head_text : (t t0 t1 version digits : List ℕ) → t ≡ version → t0 ≡ t ++ codes "\npoints " ++ digits → t1 ≡ t0 ++ codes "\n" → t1 ≡ lines_text (version ∷ (codes "points " ++ digits) ∷ [])
head_text t t0 t1 version digits v a b =
    let end = codes "\n" in
    let points = codes "\npoints " in
    let second = (codes "points " ++ digits) ++ end in
    b ∙ ap (λ u. u ++ end) a ∙ ap (λ u. ((u ++ points) ++ digits) ++ end) v
    ∙ ap (λ u. u ++ end) (append_assoc version points digits)
    ∙ append_assoc version (points ++ digits) end
    ∙ sym (append_assoc version end second)
    ∙ ap (λ u. (version ++ end) ++ u) (sym (append-nil second))

-- a whole trace
pub whole_text : (t t0 t1 t2 t3 t4 t5 : List ℕ) (claim : Claim) → t ≡ codes "trace " ++ decimal claim.version → t0 ≡ t ++ codes "\npoints " ++ decimal claim.closure.size → t1 ≡ t0 ++ codes "\n"
    → t2 ≡ t1 ++ lines_text (flat_map stage_lines claim.chain)
    → t3 ≡ t2 ++ codes "closure\n" → t4 ≡ t3 ++ matrix_rows claim.closure → t5 ≡ t4 ++ codes "end\n" → t5 ≡ trace_text claim
whole_text t t0 t1 t2 t3 t4 t5 claim v a b c d e f =
    let version = codes "trace " ++ decimal claim.version in
    let size = codes "points " ++ decimal claim.closure.size in
    let head = version ∷ size ∷ [] in
    let chain = flat_map stage_lines claim.chain in
    let rows = matrix_lines claim.closure in
    let first : t1 ≡ [] ++ lines_text head = head_text t t0 t1 version (decimal claim.closure.size) v a b in
    let second = text_more [] t1 t2 head chain first c in
    let third = text_more [] t2 t3 (head ++ chain) (codes "closure" ∷ []) second d in
    let fourth = text_more [] t3 t4 ((head ++ chain) ++ codes "closure" ∷ []) rows third (e ∙ ap (λ t. t3 ++ t) (rows_text claim.closure)) in
    let fifth = text_more [] t4 t5 (((head ++ chain) ++ codes "closure" ∷ []) ++ rows) (codes "end" ∷ []) fourth f in
    fifth ∙ ap (λ l. lines_text (l ++ (codes "end" ∷ []))) (append_assoc (head ++ chain) (codes "closure" ∷ []) rows)
