-- The classes of a configuration, a line each.
use Rattle.std.specs.Prelude.{ℕ, List, [], ◌∷◌, ◌++◌, unwrap_or, codes, decimal}
use Rattle.std.specs.List.{flat_map}
use Rattle.pair_colours.specs.Colouring.{PairColouring, points}
use Rattle.pair_colours.specs.Naming.{rank_of, transpose_of}
use Rattle.pair_colours.specs.IntersectionNumber.{pair_of_class}
use Rattle.struct_consts.specs.ClassData.{class_size, valency_of, fibres_of}
use Rattle.text_lines.specs.Joined.{spaced}

-- two numbers with a space between them
abbrev pub spaced_pair : ℕ × ℕ → List ℕ
spaced_pair p = spaced (p.0 ∷ p.1 ∷ [])

-- the class of the turned pairs of class k
abbrev pub transposed_class : PairColouring → ℕ → ℕ
transposed_class K k = unwrap_or (transpose_of K k) 0

-- what is known of class k: its size, its valency, the class of its turned pairs, its first pair and the fibres that it joins
abbrev pub class_line : PairColouring → ℕ → List ℕ
class_line K k =
    codes "class " ++ decimal k ++ codes " size " ++ decimal (class_size K k) ++ codes " valency " ++ decimal (valency_of K k)
    ++ codes " transpose " ++ decimal (transposed_class K k) ++ codes " pair " ++ spaced_pair (pair_of_class K k)
    ++ codes " fibres " ++ spaced_pair (fibres_of K k) ++ codes "\n"

-- the rank, and then a line for each class
abbrev pub classes_text_of : PairColouring → List ℕ
classes_text_of K = codes "classes " ++ decimal (rank_of K) ++ codes "\n" ++ flat_map (class_line K) (points (rank_of K))
