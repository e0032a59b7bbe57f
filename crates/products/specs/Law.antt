-- What holds of the products of all coherent configurations.
use Rattle.std.specs.Prelude.{◌≡◌}
use Rattle.pair_colours.specs.Colouring.{PairColouring, IsColouring}
use Rattle.pair_colours.specs.Closure.{Coherent}
use Rattle.pair_colours.specs.Fibres.{HasOneFibre}
use Rattle.products.specs.Product.{DirectProduct, WreathProduct}

-- the direct product of coherent colourings is coherent
abbrev pub DirectIsCoherent : Type 0
DirectIsCoherent = (A B P : PairColouring) → Coherent A → Coherent B → DirectProduct A B P → Coherent P

-- any two colourings have a direct product, and only one
abbrev pub DirectExists : Type 0
DirectExists = (A B : PairColouring) → IsColouring A → IsColouring B → (P : PairColouring) × DirectProduct A B P

abbrev pub DirectIsUnique : Type 0
DirectIsUnique = (A B P Q : PairColouring) → DirectProduct A B P → DirectProduct A B Q → P ≡ Q

-- the wreath product of coherent colourings with one fibre each is coherent
abbrev pub WreathIsCoherent : Type 0
WreathIsCoherent = (A B P : PairColouring) → Coherent A → Coherent B → HasOneFibre A → HasOneFibre B → WreathProduct A B P → Coherent P

-- any two colourings have a wreath product, and only one
abbrev pub WreathExists : Type 0
WreathExists = (A B : PairColouring) → IsColouring A → IsColouring B → (P : PairColouring) × WreathProduct A B P

abbrev pub WreathIsUnique : Type 0
WreathIsUnique = (A B P Q : PairColouring) → WreathProduct A B P → WreathProduct A B Q → P ≡ Q
