-- Worked splits: each is computed from the definitions.
use Rattle.std.proofs.Common.{◌≡◌, [], ◌∷◌, refl}
use Rattle.pair_colours.specs.Naming.{named_of}
use Rattle.trace_text.specs.declared.step_list.Step.TheVariants.{Diag, Flip, Tri, Round}
use Rattle.trace_text.specs.Split.{later_keys, key_of, split_of}
use Rattle.trace_text.specs.Partition.{meet_of}
use Rattle.trace_text.specs.BadLines.{conditions, refines_stage, names_classes, has_parts, ends_coherent, names_end}

-- two points, and nothing told apart: the diagonal keeps 0
diagonal : split_of (record { size = 2; colours = 0 ∷ 0 ∷ 0 ∷ 0 ∷ [] }) (Diag 0) ≡ record { size = 2; colours = 0 ∷ 1 ∷ 1 ∷ 0 ∷ [] }
diagonal = refl

-- one triangle of the colours 1 and 2 on (0, 0), none on (1, 1): so (1, 1) keeps 0
triangle : split_of (record { size = 2; colours = 0 ∷ 1 ∷ 2 ∷ 0 ∷ [] }) (Tri 0 1 2) ≡ record { size = 2; colours = 3 ∷ 1 ∷ 2 ∷ 0 ∷ [] }
triangle = refl

triangle_named : named_of (record { size = 2; colours = 3 ∷ 1 ∷ 2 ∷ 0 ∷ [] }) ≡ record { size = 2; colours = 0 ∷ 2 ∷ 3 ∷ 1 ∷ [] }
triangle_named = refl

-- the transposed pair of (1, 0) has the colour 1, those of the other pairs of colour 2 have 2
flipped : split_of (record { size = 3; colours = 0 ∷ 1 ∷ 2 ∷ 2 ∷ 0 ∷ 2 ∷ 2 ∷ 2 ∷ 0 ∷ [] }) (Flip 2 2)
    ≡ record { size = 3; colours = 0 ∷ 1 ∷ 2 ∷ 3 ∷ 0 ∷ 2 ∷ 2 ∷ 2 ∷ 0 ∷ [] }
flipped = refl

-- a round of two points with nothing told apart: the first pair on the walk is a diagonal one, and the diagonal keeps 0
round : split_of (record { size = 2; colours = 0 ∷ 0 ∷ 0 ∷ 0 ∷ [] }) Round ≡ record { size = 2; colours = 0 ∷ 1 ∷ 1 ∷ 0 ∷ [] }
round = refl

-- a round on a coherent partition is idle
idle_round : later_keys (record { size = 2; colours = 0 ∷ 1 ∷ 1 ∷ 0 ∷ [] }) (key_of (record { size = 2; colours = 0 ∷ 1 ∷ 1 ∷ 0 ∷ [] }) Round) ≡ []
idle_round = refl

-- an idle step changes nothing
idle : split_of (record { size = 2; colours = 0 ∷ 1 ∷ 1 ∷ 0 ∷ [] }) (Diag 1) ≡ record { size = 2; colours = 0 ∷ 1 ∷ 1 ∷ 0 ∷ [] }
idle = refl

-- the meet of two colourings of two points
met : meet_of (record { size = 2; colours = 7 ∷ 7 ∷ 9 ∷ 9 ∷ [] }) (record { size = 2; colours = 0 ∷ 1 ∷ 1 ∷ 0 ∷ [] }) ≡ record { size = 2; colours = 0 ∷ 2 ∷ 3 ∷ 1 ∷ [] }
met = refl

-- the conditions on a claim of two stages, and their lines
lines : conditions (record {
  version = 1;
  chain = record { colours = record { size = 2; colours = 7 ∷ 7 ∷ 7 ∷ 7 ∷ [] }; steps = Diag 0 ∷ [] }
      ∷ record { colours = record { size = 2; colours = 0 ∷ 1 ∷ 1 ∷ 0 ∷ [] }; steps = [] } ∷ [];
  closure = record { size = 2; colours = 0 ∷ 1 ∷ 1 ∷ 0 ∷ [] };
}) ≡ (6, names_classes (record { size = 2; colours = 0 ∷ 0 ∷ 0 ∷ 0 ∷ [] }) (Diag 0))
    ∷ (6, has_parts (record { size = 2; colours = 0 ∷ 0 ∷ 0 ∷ 0 ∷ [] }) (Diag 0))
    ∷ (7, refines_stage (record { size = 2; colours = 0 ∷ 1 ∷ 1 ∷ 0 ∷ [] }) (record { size = 2; colours = 7 ∷ 7 ∷ 7 ∷ 7 ∷ [] }))
    ∷ (10, ends_coherent (record { size = 2; colours = 0 ∷ 1 ∷ 1 ∷ 0 ∷ [] }))
    ∷ (10, names_end (record { size = 2; colours = 0 ∷ 1 ∷ 1 ∷ 0 ∷ [] }) (record { size = 2; colours = 0 ∷ 1 ∷ 1 ∷ 0 ∷ [] }))
    ∷ []
lines = refl
