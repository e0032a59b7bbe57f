-- The lines of a text, read one after the other.
use Rattle.std.proofs.Common.{◌≡◌, ℕ, suc, ◌+◌, ◌<◌, ◌≤◌, Bool, true, false, cond, ◌&&◌, ltb, List, [], ◌∷◌, ◌++◌, length, take, map, Option, Some, None, refl, sym, ap, ◌∙◌, subst, arith, append_assoc, add-one}
use Rattle.std.specs.Prelude.{IsTrue, filter, count_by, option_map, slice_get}
use Rattle.std.specs.List.{AllZip, AllByRecursion, list_all, filter_map, cons_option, enumerate_from}
use Rattle.std.proofs.Math.ListN.{length-map}
use Rattle.std.proofs.lemmas.Bool.{false≢true}
use Rattle.std.proofs.lemmas.List.{length_push, map-append, append-nil}
use Rattle.std.proofs.lemmas.List.Sums.{sum_by_push, sum_by-cons}
use Rattle.std.proofs.lemmas.List.Elements.{filter-append}
use Rattle.std.proofs.lemmas.Slice.Zip.{all_zipped_more}
use Rattle.text_lines.specs.Part.{Part}
use Rattle.pair_colours.specs.Tests.{first_that_holds}
use Rattle.script_text.specs.declared.acts.Act.{Act}
use Rattle.script_text.specs.declared.limits.TheConstants.{MOST_LINES, MOST_PRODUCTS}
use Rattle.script_text.specs.declared.acts.Line.{Line}
use Rattle.script_text.specs.declared.faults.ScriptWord.{ScriptWord}
use Rattle.script_text.specs.declared.faults.ScriptWord.TheVariants.{TooManyLines, TooManyProducts}
use Rattle.script_text.specs.Answers.{IsAskedBy, IsRead, IsReadAt, adds_product}
use Rattle.script_text.specs.LineFaults.{word_texts, asks, is_script_byte, text_tests, line_tests, is_product, products_to, fault_at, faults_of}
use Rattle.script_text.specs.Script.{asking_lines, IsLine, takes_product, product_count, AreScript}
use Rattle.script_text.proofs.LineLemmas.{act_product, silent_product, read_fine, read_product, line_passes}

-- 1 for a product line
abbrev pub weight : Part → ℕ
weight line = cond (is_product line) 1 0

-- the faults of lines that begin at a number, behind so many product lines
abbrev pub faults_from : ℕ → ℕ → List Part → List (ℕ × ScriptWord)
faults_from number products [] = []
faults_from number products (line ∷ lines) =
    cons_option (option_map (λ what. (number, what)) (first_that_holds (line_tests number (products + weight line) line)))
    (faults_from (number + 1) (products + weight line) lines)

pub count_by-one : (lines : List Part) (line : Part) → count_by is_product (lines ++ line ∷ []) ≡ count_by is_product lines + weight line
count_by-one lines line = sum_by_push weight lines line

take_here : {X : Type 0} (done : List X) (x : X) (xs : List X) → take (suc (length done)) (done ++ x ∷ xs) ≡ done ++ x ∷ []
take_here [] x xs = refl
take_here (d ∷ done) x xs = ap (λ ys. d ∷ ys) (take_here done x xs)

products_here : (done rest : List Part) (line : Part) → products_to (done ++ line ∷ rest) (length done + 1) ≡ count_by is_product done + weight line
products_here done rest line =
    ap (λ n. count_by is_product (take n (done ++ line ∷ rest))) (add-one (length done)) ∙ ap (λ ls. count_by is_product ls) (take_here done line rest) ∙ count_by-one done line

one_more : (done rest : List Part) (line : Part) → (done ++ line ∷ []) ++ rest ≡ done ++ line ∷ rest
one_more done rest line = append_assoc done (line ∷ []) rest

-- the faults of the lines that are left, by what came before them
faults_of_rest : (done rest : List Part)
    → filter_map (fault_at (done ++ rest)) (enumerate_from (length done + 1) rest) ≡ faults_from (length done + 1) (count_by is_product done) rest
faults_of_rest done [] = refl
faults_of_rest done (line ∷ rest) =
    let number = length done + 1 in
    let Rest : List Part → ℕ → ℕ → Type 0 = λ whole n p. filter_map (fault_at whole) (enumerate_from (n + 1) rest) ≡ faults_from (n + 1) p rest in
    let tail : Rest (done ++ line ∷ rest) number (count_by is_product done + weight line) =
    subst (λ whole. Rest whole number (count_by is_product done + weight line)) (one_more done rest line)
    (subst (λ n. Rest ((done ++ line ∷ []) ++ rest) n (count_by is_product done + weight line)) (length_push done line)
    (subst (λ p. Rest ((done ++ line ∷ []) ++ rest) (length (done ++ line ∷ [])) p) (count_by-one done line) (faults_of_rest (done ++ line ∷ []) rest))) in
    ap (λ p. cons_option (option_map (λ what. (number, what)) (first_that_holds (line_tests number p line))) (filter_map (fault_at (done ++ line ∷ rest)) (enumerate_from (number + 1) rest)))
    (products_here done rest line)
    ∙ ap (λ faults. cons_option (option_map (λ what. (number, what)) (first_that_holds (line_tests number (count_by is_product done + weight line) line))) faults) tail

pub faults_of-from : (lines : List Part) → faults_of lines ≡ faults_from 1 0 lines
faults_of-from lines = faults_of_rest [] lines

cons_nil : {X : Type 0} (o : Option X) (xs : List X) → cons_option o xs ≡ [] → (o ≡ None) × (xs ≡ [])
cons_nil None xs e = (refl, e)
cons_nil (Some x) xs e = cc

-- lines without a fault do not change the faults of what follows
faults_behind : (number products : ℕ) (xs ys : List Part) → faults_from number products xs ≡ []
    → faults_from number products (xs ++ ys) ≡ faults_from (number + length xs) (products + count_by is_product xs) ys
faults_behind number products [] ys e =
    let n : number ≡ number + 0 = omega arith in
    let p : products ≡ products + 0 = omega arith in
    ap (λ k. faults_from k products ys) n ∙ ap (λ k. faults_from (number + 0) k ys) p
faults_behind number products (x ∷ xs) ys e =
    let parts = cons_nil (option_map (λ what. (number, what)) (first_that_holds (line_tests number (products + weight x) x))) (faults_from (number + 1) (products + weight x) xs) e in
    let n : number + 1 + length xs ≡ number + suc (length xs) = omega arith in
    let p : products + weight x + count_by is_product xs ≡ products + count_by is_product (x ∷ xs) = omega (arith, sum_by-cons weight x xs) in
    ap (λ o. cons_option o (faults_from (number + 1) (products + weight x) (xs ++ ys))) parts.0
    ∙ faults_behind (number + 1) (products + weight x) xs ys parts.1
    ∙ ap (λ k. faults_from k (products + weight x + count_by is_product xs) ys) n ∙ ap (λ k. faults_from (number + suc (length xs)) k ys) p

faults_next : (done : List Part) (line : Part) (rest : List Part) → faults_from 1 0 done ≡ []
    → faults_from 1 0 (done ++ line ∷ rest) ≡ faults_from (length done + 1) (count_by is_product done) (line ∷ rest)
faults_next done line rest e =
    let n : 1 + length done ≡ length done + 1 = omega arith in
    let p : 0 + count_by is_product done ≡ count_by is_product done = omega arith in
    faults_behind 1 0 done (line ∷ rest) e ∙ ap (λ k. faults_from k (0 + count_by is_product done) (line ∷ rest)) n
    ∙ ap (λ k. faults_from (length done + 1) k (line ∷ rest)) p

-- the lines so far are a script
pub record AreRead (before : List Part) (script : List Line) : Type 0 where
  pub is : AreScript before script
  pub clean : faults_from 1 0 before ≡ []

pub none_read : AreRead [] []
none_read = record {
  is = record { asked = tt; few_lines = omega arith; bytes = tt; few_products = omega arith };
  clean = refl;
}

-- the line of a script that an act makes
abbrev pub line_for : ℕ → Option Act → List Line
line_for number None = []
line_for number (Some act) = record { number = number; act = act } ∷ []

enumerate_from-append : {X : Type 0} (n : ℕ) (xs ys : List X) → enumerate_from n (xs ++ ys) ≡ enumerate_from n xs ++ enumerate_from (n + length xs) ys
enumerate_from-append n [] ys = let e : n ≡ n + 0 = omega arith in ap (λ k. enumerate_from k ys) e
enumerate_from-append n (x ∷ xs) ys =
    let e : n + 1 + length xs ≡ n + suc (length xs) = omega arith in
    ap (λ zs. (n, x) ∷ zs) (enumerate_from-append (n + 1) xs ys ∙ ap (λ k. enumerate_from (n + 1) xs ++ enumerate_from k ys) e)

-- the asking lines of two pieces of a text
pub asking_from : ℕ → List Part → List (ℕ × List (List ℕ))
asking_from number lines = filter (λ line. asks line.1) (enumerate_from number (map word_texts lines))

pub asking_lines-append : (done rest : List Part) → asking_lines (done ++ rest) ≡ asking_lines done ++ asking_from (length done + 1) rest
unfolding asking_from
asking_lines-append done rest =
    let number : 1 + length (map word_texts done) ≡ length done + 1 = omega (arith, length-map done word_texts) in
    ap (λ texts. filter (λ (line : ℕ × List (List ℕ)). asks line.1) (enumerate_from 1 texts)) (map-append word_texts done rest)
    ∙ ap (λ lines. filter (λ (line : ℕ × List (List ℕ)). asks line.1) lines) (enumerate_from-append 1 (map word_texts done) (map word_texts rest))
    ∙ filter-append _ (enumerate_from 1 (map word_texts done)) (enumerate_from (1 + length (map word_texts done)) (map word_texts rest))
    ∙ ap (λ n. asking_lines done ++ filter (λ (line : ℕ × List (List ℕ)). asks line.1) (enumerate_from n (map word_texts rest))) number

zip_nil : (R : ℕ × List (List ℕ) → Line → Type 0) (xs : List (ℕ × List (List ℕ))) (ys : List Line) → AllZip R xs ys → AllZip R (xs ++ []) (ys ++ [])
zip_nil R xs ys h = subst (λ zs. AllZip R (xs ++ []) zs) (sym (append-nil ys)) (subst (λ zs. AllZip R zs ys) (sym (append-nil xs)) h)

asking_one : (number : ℕ) (line : Part) → asking_from number (line ∷ []) ≡ cond (asks (word_texts line)) ((number, word_texts line) ∷ []) []
unfolding asking_from
asking_one number line = refl

pub asking_first : (number : ℕ) (line : Part) (rest : List Part) → asks (word_texts line) ≡ true
    → asking_from number (line ∷ rest) ≡ (number, word_texts line) ∷ asking_from (number + 1) rest
unfolding asking_from
asking_first number line rest e =
    ap (λ b. cond b ((number, word_texts line) ∷ filter (λ (l : ℕ × List (List ℕ)). asks l.1) (enumerate_from (number + 1) (map word_texts rest)))
    (filter (λ (l : ℕ × List (List ℕ)). asks l.1) (enumerate_from (number + 1) (map word_texts rest)))) e

asked_more : (done : List Part) (script : List Line) (line : Part) (act : Option Act) → AllZip IsLine (asking_lines done) script → IsAskedBy (word_texts line) act
    → AllZip IsLine (asking_lines (done ++ line ∷ [])) (script ++ line_for (length done + 1) act)
asked_more done script line None h silent =
    let e : asking_lines (done ++ line ∷ []) ≡ asking_lines done ++ [] =
    asking_lines-append done (line ∷ []) ∙ ap (λ ls. asking_lines done ++ ls) (asking_one (length done + 1) line ∙ ap (λ b. cond b ((length done + 1, word_texts line) ∷ []) []) silent) in
    subst (λ ls. AllZip IsLine ls (script ++ [])) (sym e) (zip_nil IsLine (asking_lines done) script h)
asked_more done script line (Some act) h asked =
    let e : asking_lines (done ++ line ∷ []) ≡ asking_lines done ++ (length done + 1, word_texts line) ∷ [] =
    asking_lines-append done (line ∷ []) ∙ ap (λ ls. asking_lines done ++ ls) (asking_one (length done + 1) line ∙ ap (λ b. cond b ((length done + 1, word_texts line) ∷ []) []) asked.0) in
    let l : Line = record { number = length done + 1; act = act } in
    subst (λ ls. AllZip IsLine ls (script ++ l ∷ [])) (sym e)
    (all_zipped_more IsLine (asking_lines done) script (length done + 1, word_texts line) l h (record { number = refl; act = asked.1 }))

allowed_more : (done : List Part) (line : Part) → AllByRecursion (λ (l : Part). IsTrue (list_all is_script_byte l.bytes)) done → list_all is_script_byte line.bytes ≡ true
    → AllByRecursion (λ (l : Part). IsTrue (list_all is_script_byte l.bytes)) (done ++ line ∷ [])
allowed_more [] line h e = (e, tt)
allowed_more (d ∷ done) line h e = (h.0, allowed_more done line h.1 e)

-- the product lines of a text are those of its script
products_from : (number : ℕ) (lines : List Part) (script : List Line) → AllZip IsLine (asking_from number lines) script → count_by is_product lines ≡ product_count script
unfolding asking_from
products_from number [] [] h = refl
products_from number [] (l ∷ script) h = absurd h
products_from number (line ∷ lines) script h =
    sum_by-cons weight line lines ∙ go (asks (word_texts line)) refl script h (products_from (number + 1) lines)
  where
    go : (b : Bool) → asks (word_texts line) ≡ b → (s : List Line)
        → AllZip IsLine (cond b ((number, word_texts line) ∷ filter (λ (l : ℕ × List (List ℕ)). asks l.1) (enumerate_from (number + 1) (map word_texts lines)))
        (filter (λ (l : ℕ × List (List ℕ)). asks l.1) (enumerate_from (number + 1) (map word_texts lines)))) s
        → ((t : List Line) → AllZip IsLine (filter (λ (l : ℕ × List (List ℕ)). asks l.1) (enumerate_from (number + 1) (map word_texts lines))) t → count_by is_product lines ≡ product_count t)
        → weight line + count_by is_product lines ≡ product_count s
    go true q [] z rec = absurd z
    go true q (l ∷ s) z rec =
        let product = act_product (word_texts line) l.act z.0.act in
        ap (λ b. cond b 1 0 + count_by is_product lines) product ∙ ap (λ n. cond (takes_product l.act) 1 0 + n) (rec s z.1)
        ∙ sym (sum_by-cons (λ (k : Line). cond (takes_product k.act) 1 0) l s)
    go false q s z rec =
        let product = silent_product (word_texts line) q in
        ap (λ b. cond b 1 0 + count_by is_product lines) product ∙ add_zero_left (count_by is_product lines) ∙ rec s z
      where
        add_zero_left : (n : ℕ) → 0 + n ≡ n
        add_zero_left n = omega arith

pub products_same : (lines : List Part) (script : List Line) → AreScript lines script → count_by is_product lines ≡ product_count script
unfolding asking_from
products_same lines script h = products_from 1 lines script h.asked

-- a product line adds one
weight_of : (line : Part) (act : Option Act) → IsRead line act → weight line ≡ cond (adds_product act) 1 0
weight_of line act h = ap (λ b. cond b 1 0) (read_product line act h)

pub products_more : (script : List Line) (number : ℕ) (act : Option Act) → product_count (script ++ line_for number act) ≡ product_count script + cond (adds_product act) 1 0
products_more script number None = ap product_count (append-nil script) ∙ add_zero (product_count script)
  where
    add_zero : (n : ℕ) → n ≡ n + 0
    add_zero n = omega arith
products_more script number (Some act) = sum_by_push (λ (l : Line). cond (takes_product l.act) 1 0) script (record { number = number; act = act })

bit_below : (b : Bool) (n : ℕ) → (b ≡ true → n < MOST_PRODUCTS) → n ≤ MOST_PRODUCTS → n + cond b 1 0 ≤ MOST_PRODUCTS
bit_below true n f h = let below = f refl in omega arith
bit_below false n f h = omega arith

bit_is : (b : Bool) (n : ℕ) → (b ≡ true → n < MOST_PRODUCTS) → b ≡ true → n + cond b 1 0 ≤ MOST_PRODUCTS
bit_is true n f e = let below = f refl in omega arith
bit_is false n f e = absurd (false≢true e)

-- one more line that was read
pub read_more : (done : List Part) (script : List Line) (line : Part) (act : Option Act) → AreRead done script
    → IsReadAt (length done + 1) (product_count script) line act → AreRead (done ++ line ∷ []) (script ++ line_for (length done + 1) act)
read_more done script line act so_far read =
    let here = read.read in
    let same = products_same done script so_far.is in
    let passes : first_that_holds (line_tests (length done + 1) (count_by is_product done + weight line) line) ≡ None =
    line_passes (length done + 1) (count_by is_product done + weight line) line read.few_lines (read_fine line act here)
    (λ product. subst (λ n. n ≤ MOST_PRODUCTS) (sym (ap (λ n. n + weight line) same ∙ ap (λ n. product_count script + n) (weight_of line act here)))
    (bit_is (adds_product act) (product_count script) read.few_products (sym (read_product line act here) ∙ product))) in
    record {
      is = record {
        asked = asked_more done script line act so_far.is.asked here.asked;
        few_lines = subst (λ n. n ≤ MOST_LINES) (sym (length_push done line)) read.few_lines;
        bytes = allowed_more done line so_far.is.bytes here.bytes;
        few_products = subst (λ n. n ≤ MOST_PRODUCTS) (sym (products_more script (length done + 1) act)) (bit_below (adds_product act) (product_count script) read.few_products so_far.is.few_products);
      };
      clean = faults_next done line [] so_far.clean ∙ ap (λ o. cons_option (option_map (λ what. (length done + 1, what)) o) []) passes;
    }

-- the test of product lines is the same whether a line that is none is counted or not
same_count : (product : Bool) (products : ℕ) → (product && ltb MOST_PRODUCTS (products + 1)) ≡ (product && ltb MOST_PRODUCTS (products + cond product 1 0))
same_count true products = refl
same_count false products = refl

counted : (number products : ℕ) (line : Part) → first_that_holds (line_tests number (products + 1) line) ≡ first_that_holds (line_tests number (products + weight line) line)
counted number products line =
    ap (λ failed. first_that_holds ((ltb MOST_LINES number, TooManyLines) ∷ text_tests line ++ (failed, TooManyProducts) ∷ [])) (same_count (is_product line) products)

-- the first line that has a fault
pub found : (done : List Part) (script : List Line) (line : Part) (rest : List Part) (what : ScriptWord) → AreRead done script
    → first_that_holds (line_tests (length done + 1) (product_count script + 1) line) ≡ Some what → slice_get (faults_of (done ++ line ∷ rest)) 0 ≡ Some (length done + 1, what)
found done script line rest what so_far failed =
    let same = products_same done script so_far.is in
    let fails : first_that_holds (line_tests (length done + 1) (count_by is_product done + weight line) line) ≡ Some what =
    ap (λ n. first_that_holds (line_tests (length done + 1) (n + weight line) line)) same ∙ sym (counted (length done + 1) (product_count script) line) ∙ failed in
    ap (λ faults. slice_get faults 0)
    (faults_of-from (done ++ line ∷ rest) ∙ faults_next done line rest so_far.clean
    ∙ ap (λ o. cons_option (option_map (λ w. (length done + 1, w)) o) (faults_from (length done + 1 + 1) (count_by is_product done + weight line) rest)) fails)
