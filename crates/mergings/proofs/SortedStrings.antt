-- Lists of strings in lexicographic order.
use Rattle.std.proofs.Common.{ℕ, suc, ◌<◌, List, [], ◌∷◌, length, get_or, arith}
use Rattle.std.specs.List.{AllByRecursion}
use Rattle.pair_colours.proofs.SortedLists.{Ordered}
use Rattle.colour_wl.specs.GrowthStrings.{IsBefore}
use Rattle.colour_wl.proofs.Growth.{IsBefore-trans}

-- a list in which each string comes before the next is in lexicographic order
pub ordered_by_steps : (xs : List (List ℕ)) → ((k : ℕ) → suc k < length xs → IsBefore (get_or xs k []) (get_or xs (suc k) [])) → Ordered IsBefore xs
ordered_by_steps [] h = tt
ordered_by_steps (x ∷ []) h = (tt, tt)
ordered_by_steps (x ∷ y ∷ xs) h =
    let again = ordered_by_steps (y ∷ xs) (λ k l. h (suc k) (omega (arith, l))) in
    let first : IsBefore x y = h 0 (omega arith) in
    ((first, later xs again.0), again)
  where
    later : (zs : List (List ℕ)) → AllByRecursion (IsBefore y) zs → AllByRecursion (IsBefore x) zs
    later [] a = tt
    later (z ∷ zs) a = (IsBefore-trans x y z (h 0 (omega arith)) a.0, later zs a.1)
