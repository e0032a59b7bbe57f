-- The products of a script: which are left, and that there is one for each line that takes one.
use Rattle.std.proofs.Common.{◌≡◌, ◌<◌, ◌+◌, ℕ, Bool, true, false, cond, List, [], ◌∷◌, ◌++◌, length, get_or, take, drop, Some, refl, sym, ap, subst, ◌∙◌, arith}
use Rattle.std.specs.Prelude.{All, slice_get, if◌then◌else◌}
use Rattle.std.specs.List.{AllZip, cons_option}
use Rattle.std.proofs.lemmas.List.{take_more, drop_more, take-append-drop, length-drop}
use Rattle.std.proofs.lemmas.List.Elements.{All-nil, All-cons, All-drop}
use Rattle.std.proofs.lemmas.List.Sums.{sum_by-cons}
use Rattle.std.proofs.lemmas.Option.{slice_get-get_or, slice_get_within}
use Rattle.std.proofs.lemmas.Slice.Zip.{AllZip-long}
use Rattle.scheme_io.specs.Files.{Files}
use Rattle.pair_colours.specs.Colouring.{PairColouring, IsRawColouring}
use Rattle.relation_text.proofs.LawProofs.{reading_is_raw}
use Rattle.script_text.specs.declared.acts.Act.{Act}
use Rattle.script_text.specs.declared.acts.Act.TheVariants.{Direct, Wreath}
use Rattle.script_text.specs.declared.acts.Line.{Line}
use Rattle.script_text.specs.Script.{takes_product, product_count}
use Rattle.cohere_inputs.specs.Products.{product_of, products_of}
use Rattle.cohere_inputs.specs.Bad.{IsRelationFile, AreProductsOf}
use Rattle.cohere_core.specs.Products.{AreProducts, HasProduct, left_by, left_after}

-- ---- the first line

count_first : (line : Line) (lines : List Line) → product_count (line ∷ lines) ≡ cond (takes_product line.act) 1 0 + product_count lines
count_first line lines = sum_by-cons (λ (l : Line). cond (takes_product l.act) 1 0) line lines

left_length : (taken : Bool) (products : List PairColouring) (rest : ℕ) → length products ≡ cond taken 1 0 + rest → length (if taken then drop 1 products else products) ≡ rest
left_length true products rest e = omega (arith, length-drop 1 products, e)
left_length false products rest e = omega (arith, e)

left_raw : (taken : Bool) (products : List PairColouring) → All IsRawColouring products → All IsRawColouring (if taken then drop 1 products else products)
left_raw true products raw = All-drop IsRawColouring 1 products raw
left_raw false products raw = raw

some_there : (taken : Bool) (products : List PairColouring) (rest : ℕ) → length products ≡ cond taken 1 0 + rest → taken ≡ true → 0 < length products
some_there true products rest e takes = omega (arith, e)
some_there false products rest e takes = absurd cc

-- one is there for it, where it takes one
pub product_first : (products : List PairColouring) (line : Line) (lines : List Line) → AreProducts products (line ∷ lines) → HasProduct products line.act
product_first products line lines are = record {
  first = some_there (takes_product line.act) products (product_count lines) (are.one_each ∙ count_first line lines);
  raw = are.raw;
}

-- and those that it leaves are there for the others
pub products_tail : (products : List PairColouring) (line : Line) (lines : List Line) → AreProducts products (line ∷ lines) → AreProducts (left_by products line.act) lines
products_tail products line lines are = record {
  one_each = left_length (takes_product line.act) products (product_count lines) (are.one_each ∙ count_first line lines);
  raw = left_raw (takes_product line.act) products are.raw;
}

-- ---- the lines from a place on

products_behind : (xs ys : List Line) (products : List PairColouring) → AreProducts products (xs ++ ys) → AreProducts (left_after products xs) ys
products_behind [] ys products are = are
products_behind (x ∷ xs) ys products are = products_behind xs ys (left_by products x.act) (products_tail products x (xs ++ ys) are)

around_at : (lines : List Line) (i : ℕ) (d : Line) → i < length lines → take i lines ++ get_or lines i d ∷ drop (i + 1) lines ≡ lines
around_at lines i d lt = ap (λ (l : List Line). take i lines ++ l) (sym (drop_more lines i d lt)) ∙ take-append-drop i lines

-- the lines around one of them
pub around : (lines : List Line) (k : ℕ) (line : Line) → slice_get lines k ≡ Some line → take k lines ++ line ∷ drop (k + 1) lines ≡ lines
around lines k line e =
    let inside = slice_get_within lines k line e in
    let both : Some line ≡ Some (get_or lines k line) = sym e ∙ slice_get-get_or lines k line inside in
    let at : line ≡ get_or lines k line = cc in
    ap (λ (x : Line). take k lines ++ x ∷ drop (k + 1) lines) at ∙ around_at lines k line inside

-- at each line one is there for it
pub product_at : (products : List PairColouring) (lines : List Line) (i : ℕ) (d : Line) → i < length lines → AreProducts products lines
    → HasProduct (left_after products (take i lines)) (get_or lines i d).act
product_at products lines i d lt are =
    product_first (left_after products (take i lines)) (get_or lines i d) (drop (i + 1) lines)
    (products_behind (take i lines) (get_or lines i d ∷ drop (i + 1) lines) products (subst (AreProducts products) (sym (around_at lines i d lt)) are))

-- and those that it leaves are there for the lines behind it
pub products_left : (products : List PairColouring) (lines : List Line) (k : ℕ) (line : Line) → slice_get lines k ≡ Some line → AreProducts products lines
    → AreProducts (left_by (left_after products (take k lines)) line.act) (drop (k + 1) lines)
products_left products lines k line e are =
    products_tail (left_after products (take k lines)) line (drop (k + 1) lines)
    (products_behind (take k lines) (line ∷ drop (k + 1) lines) products (subst (AreProducts products) (sym (around lines k line e)) are))

left_after-append : (xs ys : List Line) (products : List PairColouring) → left_after products (xs ++ ys) ≡ left_after (left_after products xs) ys
left_after-append [] ys products = refl
left_after-append (x ∷ xs) ys products = left_after-append xs ys (left_by products x.act)

-- one line more
pub left_more : (products : List PairColouring) (lines : List Line) (i : ℕ) (d : Line) → i < length lines
    → left_after products (take (i + 1) lines) ≡ left_by (left_after products (take i lines)) (get_or lines i d).act
left_more products lines i d lt =
    ap (left_after products) (take_more lines i d lt) ∙ left_after-append (take i lines) (get_or lines i d ∷ []) products

-- ---- the products that were read

named_first : (act : Act) (names : List (List ℕ)) → length (cons_option (product_of act) names) ≡ cond (takes_product act) 1 0 + length names
named_first (Direct file) names = omega arith
named_first (Wreath file) names = omega arith
named_first act names = omega arith

named_count : (lines : List Line) → length (products_of lines) ≡ product_count lines
named_count [] = refl
named_count (line ∷ lines) =
    named_first line.act (products_of lines) ∙ ap (λ n. cond (takes_product line.act) 1 0 + n) (named_count lines) ∙ sym (count_first line lines)

read_raw : (files : Files) (names : List (List ℕ)) (products : List PairColouring) → AllZip (λ name C. IsRelationFile files name 1 C) names products → All IsRawColouring products
read_raw files [] [] read = All-nil IsRawColouring
read_raw files [] (C ∷ products) read = absurd read
read_raw files (name ∷ names) [] read = absurd read
read_raw files (name ∷ names) (C ∷ products) read =
    All-cons IsRawColouring C products (reading_is_raw read.0.bytes 1 C read.0.reads) (read_raw files names products read.1)

pub files_are_products : (files : Files) (lines : List Line) (products : List PairColouring) → AreProductsOf files lines products → AreProducts products lines
files_are_products files lines products read = record {
  one_each = AllZip-long (λ name C. IsRelationFile files name 1 C) (products_of lines) products read ∙ named_count lines;
  raw = read_raw files (products_of lines) products read;
}
