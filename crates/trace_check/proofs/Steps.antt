-- A step that is bad.
use Rattle.std.proofs.Common.{ℕ, [], ◌∷◌, refl}
use Rattle.pair_colours.specs.Colouring.{PairColouring}
use Rattle.trace_text.specs.declared.check_words.CheckWord.TheVariants.{NoSuchClass, IdleStep}
use Rattle.trace_text.specs.declared.step_list.Step.{Step}
use Rattle.trace_text.specs.Split.{NamesClasses, HasParts}
use Rattle.trace_text.specs.BadLines.{names_classes, has_parts, step_conditions, IsFirstFailing}

-- one that names no class
pub no_such_class : (line : ℕ) (P : PairColouring) (s : Step) → ¬ NamesClasses P s → IsFirstFailing (step_conditions line P (s ∷ [])) line NoSuchClass
no_such_class line P s n = record {
  before = [];
  condition = names_classes P s;
  rest = (line, has_parts P s) ∷ [];
  parts = refl;
  hold = tt;
  fails = n;
  says = refl;
}

-- one that leaves every class whole
pub idle_step : (line : ℕ) (P : PairColouring) (s : Step) → NamesClasses P s → ¬ HasParts P s → IsFirstFailing (step_conditions line P (s ∷ [])) line IdleStep
idle_step line P s h n = record {
  before = (line, names_classes P s) ∷ [];
  condition = has_parts P s;
  rest = [];
  parts = refl;
  hold = (h, tt);
  fails = n;
  says = refl;
}
