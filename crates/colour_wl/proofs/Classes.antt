-- The classes of a configuration, as struct_consts tells of them.
use Rattle.std.proofs.Common.{◌≡◌, ℕ, ◌<◌, Some, unwrap_or, refl, sym, ap, ◌∙◌}
use Rattle.pair_colours.specs.Colouring.{PairColouring, IsColour, colour_at}
use Rattle.pair_colours.specs.Naming.{name_of, rank_of, first_pair_of}
use Rattle.pair_colours.specs.IntersectionNumber.{pair_of_class}
use Rattle.pair_colours.proofs.Closures.{colour_at-named_of}
use Rattle.struct_consts.specs.ClassData.{IsConfiguration, IsPairOf}
use Rattle.struct_consts.proofs.LawProofs.{colours_are_below_rank, classes_have_pairs}

pub colour_below : (K : PairColouring) → IsConfiguration K → (c : ℕ) → IsColour K c → c < rank_of K
colour_below K h c u = (colours_are_below_rank K h c).1 u

pub class_is_colour : (K : PairColouring) → IsConfiguration K → (k : ℕ) → k < rank_of K → IsColour K k
class_is_colour K h k l = (colours_are_below_rank K h k).0 l

pub colour_at-below : (K : PairColouring) → IsConfiguration K → (x y : ℕ) → x < K.size → y < K.size → colour_at K x y < rank_of K
colour_at-below K h x y hx hy = colour_below K h (colour_at K x y) (record { x = x; y = y; row = hx; column = hy; is = refl })

pub pair_of_class-holds : (K : PairColouring) → IsConfiguration K → (k : ℕ) → k < rank_of K → IsPairOf K k (pair_of_class K k)
pair_of_class-holds K h k l = (classes_have_pairs K h k l).1

-- what is known of a first pair is known of the pair of its class
pub pair_of_class-is : (K : PairColouring) (k : ℕ) (p : ℕ × ℕ) → first_pair_of K k ≡ Some p → pair_of_class K k ≡ p
pair_of_class-is K k p e = ap (λ o. unwrap_or o (0, 0)) e

-- a colour is its own name
pub name_of_colour : (K : PairColouring) → IsConfiguration K → (c : ℕ) → IsColour K c → name_of K c ≡ c
name_of_colour K h c u =
    ap (name_of K) (sym u.is)
    ∙ sym (colour_at-named_of K h.colouring u.x u.y u.row u.column)
    ∙ ap (λ (A : PairColouring). colour_at A u.x u.y) h.named
    ∙ u.is
