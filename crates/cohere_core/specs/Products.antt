-- The colourings by which the lines of a script multiply: each line with `direct` or `wreath` takes the next one.
use Rattle.std.specs.Prelude.{◌≡◌, ◌<◌, true, List, [], ◌∷◌, All, drop, length, if◌then◌else◌}
use Rattle.pair_colours.specs.Colouring.{PairColouring, IsRawColouring}
use Rattle.script_text.specs.declared.acts.Act.{Act}
use Rattle.script_text.specs.declared.acts.Line.{Line}
use Rattle.script_text.specs.Script.{takes_product, product_count}

-- the products that an act leaves: one with `direct` or `wreath` takes the first
abbrev pub left_by : List PairColouring → Act → List PairColouring
left_by products act = if takes_product act then drop 1 products else products

-- the products that these lines leave
abbrev pub left_after : List PairColouring → List Line → List PairColouring
left_after products [] = products
left_after products (line ∷ lines) = left_after (left_by products line.act) lines

-- there is one for each of these lines that takes one, with colours within the limits
pub record AreProducts (products : List PairColouring) (lines : List Line) : Type 0 where
  pub one_each : length products ≡ product_count lines
  pub raw : All IsRawColouring products

-- there is one where the act takes one, with colours within the limits
pub record HasProduct (products : List PairColouring) (act : Act) : Type 0 where
  pub first : takes_product act ≡ true → 0 < length products
  pub raw : All IsRawColouring products
