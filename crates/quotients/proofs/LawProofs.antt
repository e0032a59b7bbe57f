-- The proofs of the laws, under the names by which crates above cite them.
use Rattle.quotients.specs.Quotient.{classes, class_of}
use Rattle.quotients.specs.Law.{QuotientIsCoherent, QuotientExists, QuotientIsUnique, SameOrDisjoint, SubschemeIsCoherent, SubschemeExists, SubschemeIsUnique}
use Rattle.quotients.proofs.Meets as meets
use Rattle.quotients.proofs.Namings as namings
use Rattle.quotients.proofs.Tellings.{some_class, part_exists, tells_from_places}
use Rattle.quotients.proofs.Quotients as quotients
use Rattle.quotients.proofs.Subschemes as subschemes

pub quotient_is_coherent : QuotientIsCoherent
quotient_is_coherent K S L p q = quotients.quotient_is_coherent K S L p q

pub quotient_exists : QuotientExists
quotient_exists K S p =
    let part = part_exists _ (classes K S) (some_class K S p) in
    (_, namings.quotient_from_picked K S _ _ (tells_from_places K S p) part)

pub quotient_is_unique : QuotientIsUnique
quotient_is_unique = namings.quotient_is_unique

pub same_or_disjoint : SameOrDisjoint
same_or_disjoint K S x y u v d p = meets.same_or_disjoint K S p.coherent p.closed x y u v d

pub subscheme_is_coherent : SubschemeIsCoherent
subscheme_is_coherent = subschemes.subscheme_is_coherent

pub subscheme_exists : SubschemeExists
subscheme_exists K S x p hx =
    (_, namings.subscheme_from_picked K S x _ (part_exists K (class_of K S x) (subschemes.some_member K S x p hx)))

pub subscheme_is_unique : SubschemeIsUnique
subscheme_is_unique = namings.subscheme_is_unique
