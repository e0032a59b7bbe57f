-- The structure constants of a configuration, in a list.
use Rattle.std.specs.Prelude.{ℕ, Bool, nat_lt, List, [], ◌∷◌, ◌++◌, length, map, filter, codes, decimal}
use Rattle.std.specs.List.{flat_map}
use Rattle.pair_colours.specs.Colouring.{PairColouring, points}
use Rattle.pair_colours.specs.Naming.{rank_of}
use Rattle.pair_colours.specs.IntersectionNumber.{intersection_number}
use Rattle.triangle_count.specs.declared.rows.Entry.{Entry}
use Rattle.text_lines.specs.Joined.{spaced}

-- all triples (k, i, j) of r classes: by k, then i, then j
abbrev pub triples : ℕ → List (ℕ × ℕ × ℕ)
triples r = flat_map (λ k. flat_map (λ i. map (λ j. (k, i, j)) (points r)) (points r)) (points r)

-- p(i, j; k) is not 0
abbrev pub is_nonzero_at : PairColouring → ℕ × ℕ × ℕ → Bool
is_nonzero_at K t = nat_lt 0 (intersection_number K t.1 t.2 t.0)

-- the triples at which the structure constant is not 0
abbrev pub nonzero_triples : PairColouring → List (ℕ × ℕ × ℕ)
nonzero_triples K = filter (is_nonzero_at K) (triples (rank_of K))

-- the line of a triple: i, j, k and p(i, j; k)
abbrev pub constant_line : PairColouring → ℕ × ℕ × ℕ → List ℕ
constant_line K t = spaced (t.1 ∷ t.2 ∷ t.0 ∷ intersection_number K t.1 t.2 t.0 ∷ []) ++ codes "\n"

-- the rank and how many constants are not 0, and then a line for each of these
abbrev pub constants_text_of : PairColouring → List ℕ
constants_text_of K =
    codes "constants " ++ decimal (rank_of K) ++ codes " entries " ++ decimal (length (nonzero_triples K)) ++ codes "\n"
    ++ flat_map (constant_line K) (nonzero_triples K)

-- the line of an entry in the row of class k
abbrev pub entry_line : ℕ → Entry → List ℕ
entry_line k e = spaced (e.left ∷ e.right ∷ k ∷ e.count ∷ []) ++ codes "\n"
