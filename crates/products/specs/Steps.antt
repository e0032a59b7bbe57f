-- The two parts of the labels of a product, each as a colouring.
use Rattle.std.specs.Prelude.{◌≡◌, ℕ, ◌<◌}
use Rattle.pair_colours.specs.Colouring.{PairColouring, colour_at}
use Rattle.products.specs.declared.labelling.ProductKind as program
use Rattle.products.specs.declared.labelling.ProductKind.TheVariants as given
use Rattle.products.specs.Product.{direct_label, wreath_label}

-- the label of a pair in a product of this kind
abbrev pub label_of : program.ProductKind → PairColouring → PairColouring → ℕ → ℕ → ℕ × ℕ
label_of given.Direct A B p q = direct_label A B p q
label_of given.Wreath A B p q = wreath_label A B p q

-- on n points, the first parts of the labels stand in L and the second parts in M
pub record AreParts (n : ℕ) (label : ℕ → ℕ → ℕ × ℕ) (L M : PairColouring) : Type 0 where
  pub left_size : L.size ≡ n
  pub right_size : M.size ≡ n
  pub first : (p q : ℕ) → p < n → q < n → colour_at L p q ≡ (label p q).0
  pub second : (p q : ℕ) → p < n → q < n → colour_at M p q ≡ (label p q).1
