use Rattle.std.proofs.Common.{◌≡◌, ℕ, ◌+◌, ◌*◌, ◌^◌, ◌<◌, List, [], ◌∷◌, ◌++◌, length, map, sym, subst, ◌∙◌, arith}
use Rattle.std.proofs.lemmas.List.FromFn.{map-range_with_len_more, length-map-range_with_len}
use Rattle.pair_colours.specs.Colouring.{PairColouring, FitsColouring, colour_at, points}
use Rattle.pair_colours.specs.SideCodes.{side_code, side_codes}
use Rattle.pair_colours.proofs.Places.{place_below}

-- a colour of a colouring that the program keeps
pub colour_small : (P : PairColouring) → FitsColouring P → (x y : ℕ) → x < P.size → y < P.size → colour_at P x y < 2 ^ 32
colour_small P h x y hx hy = h.numbers (x * P.size + y) 0 (subst (λ n. x * P.size + y < n) (sym h.colouring.has_pairs) (place_below P.size x y hx hy))

-- a step of a loop that lists the codes
pub side_codes_more : (P : PairColouring) (x y z code : ℕ) (old new : List ℕ) → old ≡ map (side_code P x y) (points z) → code ≡ side_code P x y z
    → new ≡ old ++ code ∷ [] → new ≡ map (side_code P x y) (points (z + 1))
side_codes_more P x y z code old new e f s = s ∙ (λ i. e i ++ f i ∷ []) ∙ sym (map-range_with_len_more (side_code P x y) 0 z z (omega arith))

pub length-side_codes : (P : PairColouring) (x y : ℕ) → length (side_codes P x y) ≡ P.size
length-side_codes P x y = length-map-range_with_len (side_code P x y) 0 P.size
