-- The files by which the lines of a script multiply.
use Rattle.std.specs.Prelude.{ℕ, List, filter_map, Option, Some, None}
use Rattle.script_text.specs.declared.acts.Act.{Act}
use Rattle.script_text.specs.declared.acts.Act.TheVariants.{Direct, Wreath}
use Rattle.script_text.specs.declared.acts.Line.{Line}

-- the name of the file by which the act multiplies
abbrev pub product_of : Act → Option (List ℕ)
product_of (Direct file) = Some file
product_of (Wreath file) = Some file
product_of _ = None

-- their names, one for each product line, in order: a file that is named twice stands here twice
abbrev pub products_of : List Line → List (List ℕ)
products_of lines = filter_map (λ line. product_of line.act) lines
