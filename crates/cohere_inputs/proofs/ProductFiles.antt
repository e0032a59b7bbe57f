-- The files of the products of a script, read one after the other.
use Rattle.std.proofs.Common.{◌≡◌, ◌<◌, ◌+◌, ℕ, true, false, List, [], ◌∷◌, ◌++◌, length, get_or, take, drop, Option, Some, None, refl, sym, ap, subst, ◌∙◌, arith, inl, inr}
use Rattle.std.specs.Prelude.{IfSome, Contains, map}
use Rattle.std.specs.List.{AllByRecursion, AllZip, cons_option}
use Rattle.std.proofs.lemmas.List.{take_more, drop_more, take-append-drop, append-nil, map-append, length_push}
use Rattle.std.proofs.lemmas.List.Elements.{filter_map-append, Contains-append_right}
use Rattle.std.proofs.lemmas.List.Sums.{count_by_more_no, count_by_more_yes}
use Rattle.std.proofs.lemmas.Slice.Zip.{all_zipped_more}
use Rattle.scheme_io.specs.Files.{Files}
use Rattle.pair_colours.specs.Colouring.{PairColouring}
use Rattle.script_text.specs.declared.acts.Act.{Act}
use Rattle.script_text.specs.declared.acts.Act.TheVariants.{Direct, Wreath}
use Rattle.script_text.specs.declared.acts.Line.{Line}
use Rattle.script_text.specs.Script.{takes_product, product_count}
use Rattle.cohere_inputs.specs.Products.{product_of, products_of}
use Rattle.cohere_inputs.specs.Needs.{Need, relation_need, product_needs}
use Rattle.cohere_inputs.specs.Bad.{IsGood, IsRelationFile, IsReachedIn, AreProductsOf}
use Rattle.cohere_inputs.specs.Unread.{ComesToIn}

-- ---- lists of files

-- files that come before and behind are good
pub good_both : (files : Files) (front rest : List Need) → AllByRecursion (IsGood files) front → AllByRecursion (IsGood files) rest → AllByRecursion (IsGood files) (front ++ rest)
good_both files [] rest good others = others
good_both files (first ∷ front) rest good others = (good.0, good_both files front rest good.1 others)

-- a file is reached behind good ones
pub reached_behind : (files : Files) (front rest : List Need) (need : Need) → AllByRecursion (IsGood files) front → IsReachedIn files rest need → IsReachedIn files (front ++ rest) need
reached_behind files [] rest need good reached = reached
reached_behind files (first ∷ front) rest need good reached = inr (good.0, reached_behind files front rest need good.1 reached)

-- the files of relations that were read are good
pub names_good : (files : Files) (names : List (List ℕ)) (products : List PairColouring) → AllZip (λ name C. IsRelationFile files name 1 C) names products
    → AllByRecursion (IsGood files) (map (λ name. relation_need name 1) names)
names_good files [] [] read = tt
names_good files [] (C ∷ products) read = absurd read
names_good files (name ∷ names) [] read = absurd read
names_good files (name ∷ names) (C ∷ products) read = (record { bytes = read.0.bytes; file = read.0.file; text = (C, read.0.reads) }, names_good files names products read.1)

-- ---- one line more

-- the product lines are those that have the name of a product
takes_none : (act : Act) → product_of act ≡ None → takes_product act ≡ false
takes_none (Direct file) e = absurd cc
takes_none (Wreath file) e = absurd cc
takes_none act e = refl

takes_one : (act : Act) (name : List ℕ) → product_of act ≡ Some name → takes_product act ≡ true
takes_one (Direct file) name e = refl
takes_one (Wreath file) name e = refl
takes_one act name e = absurd cc

products_more : (lines : List Line) (i : ℕ) (d : Line) (o : Option (List ℕ)) → i < length lines → product_of (get_or lines i d).act ≡ o
    → products_of (take (i + 1) lines) ≡ products_of (take i lines) ++ cons_option o []
products_more lines i d o lt e =
    ap products_of (take_more lines i d lt) ∙ filter_map-append (λ (line : Line). product_of line.act) (take i lines) (get_or lines i d ∷ [])
    ∙ ap (λ o. products_of (take i lines) ++ cons_option o []) e

-- the names of the products before a line, its own, and those behind it
products_around : (lines : List Line) (i : ℕ) (d : Line) (name : List ℕ) → i < length lines → product_of (get_or lines i d).act ≡ Some name
    → products_of lines ≡ products_of (take i lines) ++ name ∷ products_of (drop (i + 1) lines)
products_around lines i d name lt e =
    ap products_of (sym (take-append-drop i lines) ∙ ap (λ (l : List Line). take i lines ++ l) (drop_more lines i d lt))
    ∙ filter_map-append (λ (line : Line). product_of line.act) (take i lines) (get_or lines i d ∷ drop (i + 1) lines)
    ∙ ap (λ o. products_of (take i lines) ++ cons_option o (products_of (drop (i + 1) lines))) e

needs_around : (lines : List Line) (i : ℕ) (d : Line) (name : List ℕ) → i < length lines → product_of (get_or lines i d).act ≡ Some name
    → product_needs lines ≡ product_needs (take i lines) ++ relation_need name 1 ∷ product_needs (drop (i + 1) lines)
needs_around lines i d name lt e =
    ap (map (λ name. relation_need name 1)) (products_around lines i d name lt e)
    ∙ map-append (λ name. relation_need name 1) (products_of (take i lines)) (name ∷ products_of (drop (i + 1) lines))

-- what is known of the lines so far
pub record AreRead (files : Option Files) (lines : List Line) (products : List PairColouring) : Type 0 where
  pub read : IfSome files (λ files. AreProductsOf files lines products)
  pub one_each : length products ≡ product_count lines

read_none : (files : Option Files) (names more : List (List ℕ)) (products : List PairColouring) → more ≡ names
    → IfSome files (λ files. AllZip (λ name C. IsRelationFile files name 1 C) names products) → IfSome files (λ files. AllZip (λ name C. IsRelationFile files name 1 C) more products)
read_none None names more products e read = tt
read_none (Some files) names more products e read = subst (λ (ns : List (List ℕ)). AllZip (λ name C. IsRelationFile files name 1 C) ns products) (sym e) read

read_one : (files : Option Files) (names more : List (List ℕ)) (name : List ℕ) (products : List PairColouring) (C : PairColouring) → more ≡ names ++ name ∷ []
    → IfSome files (λ files. AllZip (λ name C. IsRelationFile files name 1 C) names products) → IfSome files (λ files. IsRelationFile files name 1 C)
    → IfSome files (λ files. AllZip (λ name C. IsRelationFile files name 1 C) more (products ++ C ∷ []))
read_one None names more name products C e read one = tt
read_one (Some files) names more name products C e read one =
    subst (λ (ns : List (List ℕ)). AllZip (λ name C. IsRelationFile files name 1 C) ns (products ++ C ∷ [])) (sym e)
    (all_zipped_more (λ name C. IsRelationFile files name 1 C) names products name C read one)

-- a line that asks for no product
pub no_product : (files : Option Files) (lines : List Line) (i : ℕ) (d : Line) (products : List PairColouring) → i < length lines → product_of (get_or lines i d).act ≡ None
    → AreRead files (take i lines) products → AreRead files (take (i + 1) lines) products
no_product files lines i d products lt none so_far = record {
  read = read_none files (products_of (take i lines)) (products_of (take (i + 1) lines)) products (products_more lines i d None lt none ∙ append-nil (products_of (take i lines))) so_far.read;
  one_each = so_far.one_each ∙ sym (count_by_more_no (λ line. takes_product line.act) lines i d lt (takes_none (get_or lines i d).act none));
}

-- a line whose product was read
pub one_product : (files : Option Files) (lines : List Line) (i : ℕ) (d : Line) (name : List ℕ) (products : List PairColouring) (C : PairColouring) → i < length lines
    → product_of (get_or lines i d).act ≡ Some name → IfSome files (λ files. IsRelationFile files name 1 C) → AreRead files (take i lines) products → AreRead files (take (i + 1) lines) (products ++ C ∷ [])
one_product files lines i d name products C lt some read so_far = record {
  read = read_one files (products_of (take i lines)) (products_of (take (i + 1) lines)) name products C (products_more lines i d (Some name) lt some) so_far.read read;
  one_each = length_push products C ∙ ap (λ n. n + 1) so_far.one_each ∙ sym (count_by_more_yes (λ line. takes_product line.act) lines i d lt (takes_one (get_or lines i d).act name some));
}

-- loading came to the product of this line
pub product_reached : (files : Option Files) (lines : List Line) (i : ℕ) (d : Line) (name : List ℕ) (products : List PairColouring) → i < length lines
    → product_of (get_or lines i d).act ≡ Some name → AreRead files (take i lines) products → ComesToIn files (product_needs lines) (relation_need name 1)
product_reached None lines i d name products lt some so_far =
    let need = relation_need name 1 in
    subst (λ (needs : List Need). Contains needs need) (sym (needs_around lines i d name lt some))
    (Contains-append_right (product_needs (take i lines)) (need ∷ product_needs (drop (i + 1) lines)) need (0, omega arith, refl))
product_reached (Some files) lines i d name products lt some so_far =
    let need = relation_need name 1 in
    subst (λ (needs : List Need). IsReachedIn files needs need) (sym (needs_around lines i d name lt some))
    (reached_behind files (product_needs (take i lines)) (need ∷ product_needs (drop (i + 1) lines)) need
    (names_good files (products_of (take i lines)) products so_far.read) (inl refl))
