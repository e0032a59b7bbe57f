-- A text is a script or has a fault, and one of these alone.
use Rattle.std.proofs.Common.{◌≡◌, ℕ, suc, ◌+◌, ◌^◌, ◌<◌, ◌≤◌, Bool, true, false, cond, List, [], ◌∷◌, ◌++◌, length, take, drop, get_or, Option, Some, None, refl, sym, ap, ◌∙◌, subst, inl, inr, arith}
use Rattle.std.specs.Prelude.{All, slice_get}
use Rattle.std.specs.List.{AllZip}
use Rattle.std.proofs.Common.{length-drop, add-one}
use mir.Val.{bool_byte}
use Rattle.std.proofs.Math.Seq.{drop-cons}
use Rattle.std.proofs.lemmas.List.{take-append-drop, length-take-le, take_more, append-nil}
use Rattle.std.proofs.lemmas.List.Elements.{All-nil, All-cons}
use Rattle.text_lines.specs.Lines.{lines_of}
use Rattle.text_lines.specs.Part.{Part}
use Rattle.text_lines.proofs.Within.{IsBetween, lines_of-within}
use Rattle.pair_colours.specs.Tests.{first_that_holds}
use Rattle.script_text.specs.declared.acts.Act.{Act}
use Rattle.script_text.specs.declared.acts.Act.TheVariants as acts
use Rattle.script_text.specs.declared.acts.Line.{Line}
use Rattle.script_text.specs.declared.faults.LineFault.{LineFault}
use Rattle.script_text.specs.declared.limits.TheConstants.{MOST_SCRIPT}
use Rattle.script_text.specs.declared.faults.LineFault.TheVariants.{Word, NoMemory}
use Rattle.script_text.specs.declared.faults.ScriptFault.TheVariants.{Text}
use Rattle.script_text.specs.declared.faults.ScriptWord.{ScriptWord}
use Rattle.script_text.specs.Answers.{IsReadAt, adds_product, IsFirstFault, at_line}
use Rattle.script_text.specs.LineFaults.{line_tests, faults_of, script_fault}
use Rattle.script_text.specs.Grammar.{AsksFor}
use Rattle.script_text.specs.Script.{IsLine, IsScript, KeepsLimit, product_count}
use Rattle.script_text.proofs.ScriptLines.{AreRead, read_more, found, products_more, line_for, faults_of-from}

-- the line at a place, with the lines before it and behind it
pub record IsLineAt (lines : List Part) (place : ℕ) (line : Part) (rest : List Part) : Type 0 where
  pub whole : lines ≡ take place lines ++ line ∷ rest
  pub next : take (place + 1) lines ≡ take place lines ++ line ∷ []
  pub behind : rest ≡ drop (place + 1) lines
  pub within : place + 1 ≤ length lines
  pub before : length (take place lines) ≡ place
  pub here : (d : Part) → get_or lines place d ≡ line

pub line_at : (lines : List Part) (place : ℕ) (line : Part) (rest : List Part) → drop place lines ≡ line ∷ rest → IsLineAt lines place line rest
line_at lines place line rest e =
    let len : length (drop place lines) ≡ suc (length rest) = ap length e in
    let inside : place < length lines = omega (arith, length-drop place lines) in
    let split : (d : Part) → drop place lines ≡ get_or lines place d ∷ drop (suc place) lines = λ d. drop-cons lines place d inside in
    let heads : (d : Part) → get_or lines place d ≡ line = λ d. let s = split d in cc in
    let tails : drop (suc place) lines ≡ rest = let s = split line in cc in
    record {
      whole = sym (take-append-drop place lines) ∙ ap (λ ls. take place lines ++ ls) e;
      next = take_more lines place line inside ∙ ap (λ l. take place lines ++ l ∷ []) (heads line);
      behind = sym tails ∙ ap (λ n. drop n lines) (sym (add-one place));
      within = omega arith;
      before = length-take-le place lines (omega arith);
      here = heads;
    }

-- a line of a script's text is short
pub short_line : (text : List ℕ) (place : ℕ) (line : Part) (rest : List Part) → IsLineAt (lines_of text) place line rest → length text ≤ MOST_SCRIPT → length line.bytes < 2 ^ 31
short_line text place line rest at short =
    let inside = at.within in
    let between : IsBetween 0 (length text) line = subst (λ l. IsBetween 0 (length text) l) (at.here line) (lines_of-within text place line (omega arith)) in
    omega (arith, between.last)

-- what the loop knows of the lines so far
pub read_next : (lines : List Part) (place : ℕ) (line : Part) (rest : List Part) (script : List Line) (products : ℕ) (act : Option Act) → IsLineAt lines place line rest
    → AreRead (take place lines) script → products ≡ product_count script → IsReadAt (place + 1) products line act
    → AreRead (take (place + 1) lines) (script ++ line_for (place + 1) act)
read_next lines place line rest script products act at so_far count read =
    let number : length (take place lines) + 1 ≡ place + 1 = ap (λ n. n + 1) at.before in
    let read_at : IsReadAt (length (take place lines) + 1) (product_count script) line act =
    subst (λ n. IsReadAt n (product_count script) line act) (sym number) (subst (λ p. IsReadAt (place + 1) p line act) count read) in
    subst (λ ls. AreRead ls (script ++ line_for (place + 1) act)) (sym at.next)
    (subst (λ n. AreRead (take place lines ++ line ∷ []) (script ++ line_for n act)) number (read_more (take place lines) script line act so_far read_at))

byte_of : (b : Bool) → bool_byte b ≡ cond b 1 0
byte_of true = refl
byte_of false = refl

-- the count of product lines goes on
pub count_next : (script new : List Line) (number products byte : ℕ) (act : Option Act) (product : Bool) → products ≡ product_count script → product ≡ adds_product act
    → byte ≡ bool_byte product → script ++ line_for number act ≡ new → products + byte ≡ product_count new
count_next script new number products byte act product count e f g =
    ap (λ n. n + byte) count ∙ ap (λ n. product_count script + n) (f ∙ byte_of product ∙ ap (λ b. cond b 1 0) e) ∙ sym (products_more script number act) ∙ ap product_count g

-- the line that has a fault is the first
pub fails_at : (text : List ℕ) (place : ℕ) (line : Part) (rest : List Part) (script : List Line) (products : ℕ) (what : ScriptWord) → IsLineAt (lines_of text) place line rest
    → AreRead (take place (lines_of text)) script → products ≡ product_count script
    → first_that_holds (line_tests (place + 1) (products + 1) line) ≡ Some what → script_fault text ≡ Some (place + 1, what)
fails_at text place line rest script products what at so_far count failed =
    let lines = lines_of text in
    let number : length (take place lines) + 1 ≡ place + 1 = ap (λ n. n + 1) at.before in
    let here : first_that_holds (line_tests (length (take place lines) + 1) (product_count script + 1) line) ≡ Some what =
    ap (λ n. first_that_holds (line_tests n (product_count script + 1) line)) number ∙ ap (λ p. first_that_holds (line_tests (place + 1) (p + 1) line)) (sym count) ∙ failed in
    ap (λ ls. slice_get (faults_of ls) 0) at.whole ∙ found (take place lines) script line rest what so_far here ∙ ap (λ n. Some (n, what)) number

pub fault_is : (text : List ℕ) (place : ℕ) (line : Part) (rest : List Part) (script : List Line) (products : ℕ) → IsLineAt (lines_of text) place line rest
    → AreRead (take place (lines_of text)) script → products ≡ product_count script → (fault : LineFault) → IsFirstFault (line_tests (place + 1) (products + 1) line) fault
    → (number : ℕ) (what : ScriptWord) → at_line (place + 1) fault ≡ Text number what → script_fault text ≡ Some (number, what)
fault_is text place line rest script products at so_far count (Word found_word) failed number what e =
    let numbers : place + 1 ≡ number = cc in
    let words : found_word ≡ what = cc in
    fails_at text place line rest script products found_word at so_far count failed ∙ ap (λ n. Some (n, found_word)) numbers ∙ ap (λ w. Some (number, w)) words
fault_is text place line rest script products at so_far count NoMemory failed number what e = absurd cc

-- nothing is left: the text is the script, and has no fault
pub record IsClean (text : List ℕ) (script : List Line) : Type 0 where
  pub script_is : IsScript text script
  pub clean : script_fault text ≡ None

pub all_read : (text : List ℕ) (place : ℕ) (script : List Line) → AreRead (take place (lines_of text)) script → [] ≡ drop place (lines_of text) → IsClean text script
all_read text place script so_far e =
    let lines = lines_of text in
    let whole : take place lines ≡ lines = sym (append-nil (take place lines)) ∙ ap (λ ls. take place lines ++ ls) e ∙ take-append-drop place lines in
    let read : AreRead lines script = subst (λ ls. AreRead ls script) whole so_far in
    record {
      script_is = record { lines = read.is };
      clean = ap (λ faults. slice_get faults 0) (faults_of-from lines ∙ read.clean);
    }

-- an act that is asked for keeps the limit
keeps_limit : (words : List (List ℕ)) (act : Act) → AsksFor words act → KeepsLimit act
keeps_limit words (acts.Mergings most None) h = h.0
keeps_limit words (acts.Mergings most (Some after)) h = h.0
keeps_limit words (acts.Trace version) (inl h) = inl h.0
keeps_limit words (acts.Trace version) (inr h) = inr h.0
keeps_limit words _ h = tt

-- and so does each line of a script
pub all_keep_limit : (lines : List (ℕ × List (List ℕ))) (script : List Line) → AllZip IsLine lines script → All (λ line. KeepsLimit line.act) script
all_keep_limit [] [] h = All-nil (λ (line : Line). KeepsLimit line.act)
all_keep_limit [] (l ∷ script) h = absurd h
all_keep_limit (line ∷ lines) [] h = absurd h
all_keep_limit (line ∷ lines) (l ∷ script) h = All-cons (λ (k : Line). KeepsLimit k.act) l script (keeps_limit line.1 l.act h.0.act) (all_keep_limit lines script h.1)
