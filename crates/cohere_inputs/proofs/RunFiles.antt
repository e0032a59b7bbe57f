-- Where the loading of a run's files stops.
use Rattle.std.proofs.Common.{◌≡◌, ◌≤◌, ℕ, List, ◌++◌, Option, Some, None, refl, subst, arith, inl, inr}
use Rattle.std.specs.Prelude.{IfSome}
use Rattle.pair_colours.specs.Colouring.{PairColouring}
use Rattle.scheme_io.specs.Count.{Rose}
use Rattle.scheme_io.specs.Files.{Files}
use Rattle.script_text.specs.declared.acts.Line.{Line}
use Rattle.cohere_inputs.specs.declared.faults.Unread.{Unread}
use Rattle.cohere_inputs.specs.declared.faults.Unread.TheVariants.{Bad, StoreFailed, NoMemory}
use Rattle.cohere_inputs.specs.Task.{Run, RunWords}
use Rattle.cohere_inputs.specs.Needs.{Need, named_files, relation_need, script_need, product_needs}
use Rattle.cohere_inputs.specs.Bad.{IsRelationFile}
use Rattle.cohere_inputs.specs.RunForm.{AreNamedInputs}
use Rattle.cohere_inputs.specs.Unread.{IsCause, IsSomeScript, ComesTo, ComesToIn, Halts, HaltsIn}
use Rattle.cohere_inputs.proofs.Pieces.{Rose_since}
use Rattle.cohere_inputs.proofs.FirstBad.{has_products}

-- the relation is loaded first
pub relation_reached : (files : Option Files) (run : RunWords) → ComesTo files (Run run) (relation_need run.relation run.line)
relation_reached None run = inl (0, omega arith, refl)
relation_reached (Some files) run =
    let products = has_products files run in
    record { needs = named_files (Run run) ++ products.0; loaded = (products.0, products.1, refl); reached = inl refl }

-- after the relation the script is loaded
pub script_reached : (files : Option Files) (run : RunWords) (C : PairColouring) → IfSome files (λ files. IsRelationFile files run.relation run.line C)
    → ComesTo files (Run run) (script_need run.script)
script_reached None run C read = inl (1, omega arith, refl)
script_reached (Some files) run C read =
    let products = has_products files run in
    record {
      needs = named_files (Run run) ++ products.0;
      loaded = (products.0, products.1, refl);
      reached = inr (record { bytes = read.bytes; file = read.file; text = (C, read.reads) }, inl refl);
    }

-- and after the script its products
product_of_run : (files : Option Files) (run : RunWords) (C : PairColouring) (lines : List Line) (need : Need) → IfSome files (λ files. AreNamedInputs files run C lines) → IsSomeScript lines
    → ComesToIn files (product_needs lines) need → ComesTo files (Run run) need
product_of_run None run C lines need read script reached = inr (lines, script, reached)
product_of_run (Some files) run C lines need read script reached =
    record {
      needs = named_files (Run run) ++ product_needs lines;
      loaded = (product_needs lines, inl (lines, read.script, refl), refl);
      reached = inr (
        record { bytes = read.relation.bytes; file = read.relation.file; text = (C, read.relation.reads) },
        inr (record { bytes = read.script.bytes; file = read.script.file; text = (lines, read.script.reads) }, reached),
      );
    }

-- a count of faults that rose late rose since an earlier moment
cause_after : (files : Option Files) (need : Need) (why : Unread) (a b c : ℕ) → a ≤ b → IsCause files need why (Rose b c) → IsCause files need why (Rose a c)
cause_after files need (Bad fault) a b c le cause = cause
cause_after files need StoreFailed a b c le cause = Rose_since a b c le cause
cause_after files need NoMemory a b c le cause = tt

pub cause_since : (files later : Option Files) (need : Need) (why : Unread) (a b c : ℕ) → later ≡ files → a ≤ b → IsCause later need why (Rose b c) → IsCause files need why (Rose a c)
cause_since files later need why a b c same le cause = cause_after files need why a b c le (subst (λ (f : Option Files). IsCause f need why (Rose b c)) same cause)

-- loading that stops at a product stops so for the run
pub product_halts : (files later : Option Files) (run : RunWords) (C : PairColouring) (lines : List Line) (name : List ℕ) (why : Unread) (a b c : ℕ) → later ≡ files → a ≤ b
    → IfSome files (λ files. AreNamedInputs files run C lines) → IsSomeScript lines → HaltsIn later (product_needs lines) name why (Rose b c) → Halts files (Run run) name why (Rose a c)
product_halts files later run C lines name why a b c same le read script h = record {
  need = h.need;
  is_named = h.is_named;
  reached = product_of_run files run C lines h.need read script (subst (λ (f : Option Files). ComesToIn f (product_needs lines) h.need) same h.reached);
  cause = cause_since files later h.need why a b c same le h.cause;
  form = h.form;
}
