use Rattle.std.proofs.Common.{[], ◌∷◌, subst}
use Rattle.pair_colours.specs.Colouring.{PairColouring}
use Rattle.triangle_count.specs.Cache.{AgreeElsewhere}
use Rattle.worked_cases.proofs.OneChange.{AgreeElsewhere-one}
use Rattle.worked_cases.proofs.triangles.split.Goals as goal

pub returns : goal.returns
returns c =
    let set = c.set.ensures in
    subst (λ (A : PairColouring). AgreeElsewhere A c.set.new.self ((0, 1) ∷ [])) c.in_ok-split.ensures.copy
    (AgreeElsewhere-one c.in_ok-split.split c.set.new.self 0 1 set.points set.others)
