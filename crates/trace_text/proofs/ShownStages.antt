-- The lines of a claim from its first stage on, and back.
use Rattle.std.proofs.Common.{◌≡◌, ℕ, zero, suc, ◌+◌, ◌*◌, ◌<◌, ◌≤◌, Bool, true, false, cond, List, [], ◌∷◌, ◌++◌, length, map, Option, Some, None, refl, sym, ap, ◌∙◌, arith, inl, inr}
use Rattle.std.specs.Prelude.{codes, bytes_eq}
use Rattle.std.specs.List.{AllByRecursion, flat_map}
use Rattle.std.proofs.lemmas.Bool.{cases_Bool}
use Rattle.std.proofs.lemmas.List.{append_assoc, length-append}
use Rattle.text_lines.specs.Rows.{matrix_lines}
use Rattle.text_lines.proofs.PointsLine.{bytes_same}
use Rattle.text_lines.proofs.RowLines.{rows_of, rows_shown, rows_same}
use Rattle.pair_colours.specs.Colouring.{PairColouring, IsColouring}
use Rattle.pair_colours.specs.declared.coloured_pairs.TheConstants.{MOST_COLOUR, MOST_POINTS}
use Rattle.trace_text.specs.declared.step_list.Step.{Step}
use Rattle.trace_text.specs.declared.stage_list.Stage.{Stage}
use Rattle.trace_text.specs.declared.trace_faults.TraceWord.{TraceWord}
use Rattle.trace_text.specs.declared.trace_faults.TraceWord.TheVariants.{Body, End, Extra}
use Rattle.trace_text.specs.TraceText.{step_line, stage_lines}
use Rattle.trace_text.specs.TraceFault.{Place, at_stage, at_body, at_end, at_extra, is_step_line, next_row, next_closure_row, fault_from, fault_on}
use Rattle.trace_text.specs.ClaimTexts.{IsTraceStep, IsTraceStage}
use Rattle.trace_text.proofs.LineReadings.{step_in, step_good, step_other, step_back}
use Rattle.trace_text.proofs.RawNumbers.{raw_each, raw_from}
use Rattle.trace_text.proofs.RowPlaces.{stage_rows, closure_rows}
use Rattle.trace_text.proofs.ShownRows.{some_fault, rows_good, rows_back}

-- the lines from the first line after some steps on: stages, and the closure, with rows from the lists of their numbers
abbrev pub chain_shown : ℕ → List ℕ → List Stage → List (List ℕ)
chain_shown n closure [] = codes "closure" ∷ (rows_of n n closure ++ (codes "end" ∷ []))
chain_shown n closure (s ∷ chain) = codes "stage" ∷ (rows_of n n s.colours.colours ++ (map step_line s.steps ++ chain_shown n closure chain))

pub chain_lines : (v : ℕ) (K : PairColouring) (chain : List Stage) → IsColouring K → AllByRecursion (IsTraceStage v K.size) chain
    → flat_map stage_lines chain ++ (codes "closure" ∷ (matrix_lines K ++ (codes "end" ∷ []))) ≡ chain_shown K.size K.colours chain
chain_lines v K [] k a = ap (λ rows. codes "closure" ∷ (rows ++ (codes "end" ∷ []))) (rows_shown K k)
chain_lines v K (s ∷ chain) k a =
    let end = codes "closure" ∷ (matrix_lines K ++ (codes "end" ∷ [])) in
    let rows : matrix_lines s.colours ≡ rows_of K.size K.size s.colours.colours = rows_shown s.colours a.0.colours.fits.colouring ∙ ap (λ n. rows_of n n s.colours.colours) a.0.points in
    let again = chain_lines v K chain k a.1 in
    ap (λ l. codes "stage" ∷ l)
    (append_assoc (matrix_lines s.colours ++ map step_line s.steps) (flat_map stage_lines chain) end
    ∙ append_assoc (matrix_lines s.colours) (map step_line s.steps) (flat_map stage_lines chain ++ end)
    ∙ (λ i. rows i ++ (map step_line s.steps ++ again i)))

-- what follows a line where a step, a stage or the closure is expected
abbrev body_next : ℕ → ℕ → Bool → Bool → Bool → Option Place
body_next v n stage closure step = cond stage (Some (next_row v n n)) (cond closure (Some (next_closure_row n n)) (cond step (Some (at_body v n)) None))

abbrev body_on : ℕ → ℕ → ℕ → List (List ℕ) → Option Place → Option (ℕ × TraceWord)
body_on v n line rest next = fault_on line (at_body v n) next (λ place. fault_from (line + 1) place rest)

step_clean : (v n line : ℕ) (s : Step) (rest : List (List ℕ)) → IsTraceStep v s
    → fault_from line (at_body v n) (step_line s ∷ rest) ≡ fault_from (line + 1) (at_body v n) rest
step_clean v n line s rest a =
    ap (λ b. body_on v n line rest (body_next v n b (bytes_eq (step_line s) (codes "closure")) (is_step_line v (step_line s)))) (step_other s).0
    ∙ ap (λ b. body_on v n line rest (body_next v n false b (is_step_line v (step_line s)))) (step_other s).1
    ∙ ap (λ b. body_on v n line rest (body_next v n false false b)) (step_good v s a).0

-- steps have no fault
steps_clean : (v n line : ℕ) (steps : List Step) (rest : List (List ℕ)) → AllByRecursion (IsTraceStep v) steps
    → fault_from line (at_body v n) (map step_line steps ++ rest) ≡ fault_from (line + length steps) (at_body v n) rest
steps_clean v n line [] rest a = ap (λ l. fault_from l (at_body v n) rest) (omega arith)
steps_clean v n line (s ∷ steps) rest a =
    step_clean v n line s (map step_line steps ++ rest) a.0
    ∙ steps_clean v n (line + 1) steps rest a.1
    ∙ ap (λ l. fault_from l (at_body v n) rest) (omega arith)

-- stages and a closure have no fault
pub chain_clean : (v n line : ℕ) (closure : List ℕ) (chain : List Stage) → 1 ≤ n → length closure ≡ n * n
    → AllByRecursion (λ c. c ≤ MOST_COLOUR) closure → AllByRecursion (IsTraceStage v n) chain
    → fault_from line (at_body v n) (chain_shown n closure chain) ≡ None
chain_clean v n line closure [] h e a b = rows_good n (next_closure_row n) (closure_rows n) n (line + 1) closure (codes "end" ∷ []) h e a
chain_clean v n line closure (s ∷ chain) h e a b =
    let rest = chain_shown n closure chain in
    rows_good n (next_row v n) (stage_rows v n) n (line + 1) s.colours.colours (map step_line s.steps ++ rest) h
    (b.0.colours.fits.colouring.has_pairs ∙ ap (λ m. m * m) b.0.points) (raw_each s.colours b.0.colours)
    ∙ steps_clean v n (line + 1 + n) s.steps rest b.0.steps
    ∙ chain_clean v n (line + 1 + n + length s.steps) closure chain h e a b.1

-- the first stage where it is expected
pub first_stage : (v n line : ℕ) (closure : List ℕ) (chain : List Stage) → 1 ≤ length chain
    → fault_from line (at_stage v n) (chain_shown n closure chain) ≡ fault_from line (at_body v n) (chain_shown n closure chain)
first_stage v n line closure [] h = absurd (omega (arith, h))
first_stage v n line closure (s ∷ chain) h = refl

-- the line that ends steps, and what is expected after it
abbrev next_line : Bool → List ℕ
next_line stage = cond stage (codes "stage") (codes "closure")

abbrev after_next : ℕ → ℕ → Bool → Place
after_next v n stage = cond stage (next_row v n n) (next_closure_row n n)

-- lines begin with steps and a line that ends them, and the lines after it have no fault
record BeginWithSteps (v n : ℕ) (lines : List (List ℕ)) : Type 0 where
  steps : List Step
  stage : Bool
  line : ℕ
  rest : List (List ℕ)
  small : AllByRecursion (IsTraceStep v) steps
  are : lines ≡ map step_line steps ++ (next_line stage ∷ rest)
  clean : fault_from line (after_next v n stage) rest ≡ None

-- lines without a fault do
steps_back : (v n line : ℕ) (lines : List (List ℕ)) → fault_from line (at_body v n) lines ≡ None → BeginWithSteps v n lines
steps_back v n line [] e =
    let fault : some_fault (line, Body) ≡ None = e in
    absurd cc
steps_back v n line (bytes ∷ lines) e =
    let again = steps_back v n (line + 1) lines in
    let a = bytes_eq bytes (codes "stage") in
    let b = bytes_eq bytes (codes "closure") in
    let c = is_step_line v bytes in
    elim (cases_Bool a) [
      | inl t ↦ record {
        steps = [];
        stage = true;
        line = line + 1;
        rest = lines;
        small = tt;
        are = ap (λ l. l ∷ lines) (bytes_same bytes (codes "stage") t);
        clean = sym (ap (λ w. body_on v n line lines (body_next v n w b c)) t) ∙ e;
      }
      | inr u ↦
          let after = sym (ap (λ w. body_on v n line lines (body_next v n w b c)) u) ∙ e in
          elim (cases_Bool b) [
            | inl t ↦ record {
              steps = [];
              stage = false;
              line = line + 1;
              rest = lines;
              small = tt;
              are = ap (λ l. l ∷ lines) (bytes_same bytes (codes "closure") t);
              clean = sym (ap (λ w. body_on v n line lines (body_next v n false w c)) t) ∙ after;
            }
            | inr o ↦
                let last = sym (ap (λ w. body_on v n line lines (body_next v n false w c)) o) ∙ after in
                elim (cases_Bool c) [
                  | inl t ↦
                      let r = again (sym (ap (λ w. body_on v n line lines (body_next v n false false w)) t) ∙ last) in
                      let own = step_back v bytes t in
                      record {
                        steps = step_in bytes ∷ r.steps;
                        stage = r.stage;
                        line = r.line;
                        rest = r.rest;
                        small = (own.small, r.small);
                        are = λ i. own.spelled i ∷ r.are i;
                        clean = r.clean;
                      }
                  | inr f ↦
                      let fault : some_fault (line, Body) ≡ None = sym (ap (λ w. body_on v n line lines (body_next v n false false w)) f) ∙ last in
                      absurd cc
                ]
          ]
    ]

-- nothing but the line `end` is left
only_end : (line : ℕ) (lines : List (List ℕ)) → fault_from line at_end lines ≡ None → lines ≡ codes "end" ∷ []
only_end line [] e =
    let fault : some_fault (line, End) ≡ None = e in
    absurd cc
only_end line (bytes ∷ lines) e = elim (cases_Bool (bytes_eq bytes (codes "end"))) [
  | inl t ↦ λ i. bytes_same bytes (codes "end") t i ∷ none_left lines (sym (ap (λ b. fault_on line at_end (cond b (Some at_extra) None) (λ place. fault_from (line + 1) place lines)) t) ∙ e) i
  | inr f ↦
      let fault : some_fault (line, End) ≡ None = sym (ap (λ b. fault_on line at_end (cond b (Some at_extra) None) (λ place. fault_from (line + 1) place lines)) f) ∙ e in
      absurd cc
]
  where
    none_left : (rest : List (List ℕ)) → fault_from (line + 1) at_extra rest ≡ None → rest ≡ []
    none_left [] n = refl
    none_left (more ∷ rest) n =
        let fault : some_fault (line + 1, Extra) ≡ None = n in
        absurd cc

-- lines are those of stages and a closure; where a stage is first, there is one
pub record AreChainLines (v n : ℕ) (stage : Bool) (lines : List (List ℕ)) : Type 0 where
  pub chain : List Stage
  pub closure : List ℕ
  pub stages : AllByRecursion (IsTraceStage v n) chain
  pub some : stage ≡ true → 1 ≤ length chain
  pub count : length closure ≡ n * n
  pub small : AllByRecursion (λ c. c ≤ MOST_COLOUR) closure
  pub are : lines ≡ chain_shown n closure chain

-- lines without a fault after the first are such lines
chain_back : (most v n : ℕ) (stage : Bool) (line : ℕ) (rest : List (List ℕ)) → length rest < most → 1 ≤ n → n ≤ MOST_POINTS
    → fault_from line (after_next v n stage) rest ≡ None
    → AreChainLines v n stage (next_line stage ∷ rest)
chain_back zero v n stage line rest l h few e = absurd (omega (arith, l))
chain_back (suc most) v n false line rest l h few e =
    let rows = rows_back n (next_closure_row n) (closure_rows n) n line rest e in
    record {
      chain = [];
      closure = rows.numbers;
      stages = tt;
      some = λ t. absurd cc;
      count = rows.count;
      small = rows.small;
      are = ap (λ m. codes "closure" ∷ m) (rows.are ∙ ap (λ m. rows_of n n rows.numbers ++ m) (only_end (line + n) rows.rest rows.clean));
    }
chain_back (suc most) v n true line rest l h few e =
    let rows = rows_back n (next_row v n) (stage_rows v n) n line rest e in
    let steps = steps_back v n (line + n) rows.rest rows.clean in
    let fewer : length steps.rest < most = omega (
      arith,
      l,
      ap length rows.are,
      length-append (rows_of n n rows.numbers) rows.rest,
      ap length steps.are,
      length-append (map step_line steps.steps) (next_line steps.stage ∷ steps.rest),
    ) in
    let again = chain_back most v n steps.stage steps.line steps.rest fewer h few steps.clean in
    let colours : PairColouring = record { size = n; colours = rows.numbers } in
    let raw = raw_from colours (record { has_points = h; has_pairs = rows.count }) few rows.small in
    record {
      chain = record { colours = colours; steps = steps.steps } ∷ again.chain;
      closure = again.closure;
      stages = (record { points = refl; colours = raw; steps = steps.small }, again.stages);
      some = λ t. omega arith;
      count = again.count;
      small = again.small;
      are = ap (λ m. codes "stage" ∷ m) (rows.are ∙ ap (λ m. rows_of n n rows.numbers ++ m) (steps.are ∙ ap (λ m. map step_line steps.steps ++ m) again.are));
    }

-- so are lines without a fault where the first stage is expected
pub stages_back : (v n line : ℕ) (lines : List (List ℕ)) → 1 ≤ n → n ≤ MOST_POINTS → fault_from line (at_stage v n) lines ≡ None
    → AreChainLines v n true lines
stages_back v n line [] h few e = absurd cc
stages_back v n line (bytes ∷ rest) h few e = elim (cases_Bool (bytes_eq bytes (codes "stage"))) [
  | inl t ↦
      let r = chain_back (suc (length rest)) v n true (line + 1) rest (omega arith) h few
      (sym (ap (λ b. fault_on line (at_stage v n) (cond b (Some (next_row v n n)) None) (λ next. fault_from (line + 1) next rest)) t) ∙ e) in
      record {
        chain = r.chain;
        closure = r.closure;
        stages = r.stages;
        some = r.some;
        count = r.count;
        small = r.small;
        are = ap (λ l. l ∷ rest) (bytes_same bytes (codes "stage") t) ∙ r.are;
      }
  | inr f ↦
      let none = sym (ap (λ b. fault_on line (at_stage v n) (cond b (Some (next_row v n n)) None) (λ next. fault_from (line + 1) next rest)) f) ∙ e in
      absurd cc
]

-- the line after some steps is no step line
not_step : (n : ℕ) (closure : List ℕ) (chain : List Stage) (s : Step) (more : List (List ℕ)) → chain_shown n closure chain ≡ step_line s ∷ more → ⊥
not_step n closure [] s more e =
    let head : codes "closure" ≡ step_line s = cc in
    let z : true ≡ false = ap (λ l. bytes_eq l (codes "closure")) head ∙ (step_other s).1 in
    cc
not_step n closure (t ∷ chain) s more e =
    let head : codes "stage" ≡ step_line s = cc in
    let z : true ≡ false = ap (λ l. bytes_eq l (codes "stage")) head ∙ (step_other s).0 in
    cc

-- steps are those of one list
record SameSteps (xs ys : List Step) (us vs : List (List ℕ)) : Type 0 where
  steps : xs ≡ ys
  rest : us ≡ vs

steps_same : (v n : ℕ) (xs ys : List Step) (us vs : List ℕ) (cs ds : List Stage) → AllByRecursion (IsTraceStep v) xs
    → AllByRecursion (IsTraceStep v) ys
    → map step_line xs ++ chain_shown n us cs ≡ map step_line ys ++ chain_shown n vs ds → SameSteps xs ys (chain_shown n us cs) (chain_shown n vs ds)
steps_same v n [] [] us vs cs ds a b e = record { steps = refl; rest = e }
steps_same v n [] (y ∷ ys) us vs cs ds a b e = absurd (not_step n us cs y (map step_line ys ++ chain_shown n vs ds) e)
steps_same v n (x ∷ xs) [] us vs cs ds a b e = absurd (not_step n vs ds x (map step_line xs ++ chain_shown n us cs) (sym e))
steps_same v n (x ∷ xs) (y ∷ ys) us vs cs ds a b e =
    let head : step_line x ≡ step_line y = cc in
    let tail : map step_line xs ++ chain_shown n us cs ≡ map step_line ys ++ chain_shown n vs ds = cc in
    let again = steps_same v n xs ys us vs cs ds a.1 b.1 tail in
    let own : x ≡ y = sym (step_good v x a.0).1 ∙ ap step_in head ∙ (step_good v y b.0).1 in
    record { steps = λ i. own i ∷ again.steps i; rest = again.rest }

-- stages and a closure are those of one claim
pub record SameChains (xs ys : List Stage) (us vs : List ℕ) : Type 0 where
  pub chain : xs ≡ ys
  pub closure : us ≡ vs

pub chain_same : (v n : ℕ) (xs ys : List Stage) (us vs : List ℕ) → 1 ≤ n → AllByRecursion (IsTraceStage v n) xs
    → AllByRecursion (IsTraceStage v n) ys → length us ≡ n * n → length vs ≡ n * n
    → AllByRecursion (λ c. c ≤ MOST_COLOUR) us → AllByRecursion (λ c. c ≤ MOST_COLOUR) vs → chain_shown n us xs ≡ chain_shown n vs ys
    → SameChains xs ys us vs
chain_same v n [] [] us vs h a b cu cv su sv e =
    let tail : rows_of n n us ++ (codes "end" ∷ []) ≡ rows_of n n vs ++ (codes "end" ∷ []) = cc in
    let rows = rows_same MOST_COLOUR n n us vs (codes "end" ∷ []) (codes "end" ∷ []) (omega arith) h cu cv su sv tail in
    record { chain = refl; closure = rows.numbers }
chain_same v n [] (y ∷ ys) us vs h a b cu cv su sv e =
    let head : codes "closure" ≡ codes "stage" = cc in
    let z : true ≡ false = ap (λ l. bytes_eq l (codes "closure")) head in
    absurd cc
chain_same v n (x ∷ xs) [] us vs h a b cu cv su sv e =
    let head : codes "stage" ≡ codes "closure" = cc in
    let z : true ≡ false = ap (λ l. bytes_eq l (codes "stage")) head in
    absurd cc
chain_same v n (x ∷ xs) (y ∷ ys) us vs h a b cu cv su sv e =
    let first = map step_line x.steps ++ chain_shown n us xs in
    let second = map step_line y.steps ++ chain_shown n vs ys in
    let tail : rows_of n n x.colours.colours ++ first ≡ rows_of n n y.colours.colours ++ second = cc in
    let rows = rows_same MOST_COLOUR n n x.colours.colours y.colours.colours first second (omega arith) h
    (a.0.colours.fits.colouring.has_pairs ∙ ap (λ m. m * m) a.0.points) (b.0.colours.fits.colouring.has_pairs ∙ ap (λ m. m * m) b.0.points)
    (raw_each x.colours a.0.colours) (raw_each y.colours b.0.colours) tail in
    let steps = steps_same v n x.steps y.steps us vs xs ys a.0.steps b.0.steps rows.rest in
    let again = chain_same v n xs ys us vs h a.1 b.1 cu cv su sv steps.rest in
    record {
      chain = λ i. record { colours = record { size = (a.0.points ∙ sym b.0.points) i; colours = rows.numbers i }; steps = steps.steps i } ∷ again.chain i;
      closure = again.closure;
    }
