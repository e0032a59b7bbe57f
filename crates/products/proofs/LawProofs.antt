-- The proofs of the laws, under the names by which crates above cite them.
use Rattle.std.proofs.Common.{◌*◌}
use Rattle.std.proofs.lemmas.Nat.{mul-le}
use Rattle.products.specs.Product.{direct_label, wreath_label}
use Rattle.products.specs.Law.{DirectIsCoherent, DirectExists, DirectIsUnique, WreathIsCoherent, WreathExists, WreathIsUnique}
use Rattle.products.proofs.Labellings.{labelling_exists, labelling_is_unique}
use Rattle.products.proofs.Products as products

pub direct_is_coherent : DirectIsCoherent
direct_is_coherent = products.direct_is_coherent

pub direct_exists : DirectExists
direct_exists A B a b = labelling_exists (A.size * B.size) (direct_label A B) (mul-le 1 1 A.size B.size a.has_points b.has_points)

pub direct_is_unique : DirectIsUnique
direct_is_unique A B = labelling_is_unique (A.size * B.size) (direct_label A B)

pub wreath_is_coherent : WreathIsCoherent
wreath_is_coherent = products.wreath_is_coherent

pub wreath_exists : WreathExists
wreath_exists A B a b = labelling_exists (A.size * B.size) (wreath_label A B) (mul-le 1 1 A.size B.size a.has_points b.has_points)

pub wreath_is_unique : WreathIsUnique
wreath_is_unique A B = labelling_is_unique (A.size * B.size) (wreath_label A B)
