-- Sums of products, modulo 2^64.
use Rattle.std.proofs.Common.{◌≡◌, ℕ, ◌+◌, ◌*◌, ◌%◌, ◌^◌, List, get_or, sym, ap, ◌∙◌}
use Rattle.std.specs.List.{sum_by}
use Rattle.std.proofs.Math.Nat.{add-mod-mod, mod-add-mod}
use Rattle.std.proofs.lemmas.List.Sums.{sum_by_push}
use Rattle.pair_colours.specs.Colouring.{points}
use Rattle.pair_colours.proofs.Counts.{points_more}

-- the sum over the places below z
abbrev pub dot_to : List ℕ → List ℕ → ℕ → ℕ
dot_to left right z = sum_by (λ w. get_or left w 0 * get_or right w 0) (points z)

-- the remainders may be taken at each addition
pub dot_more : (left right : List ℕ) (z sum product new : ℕ) → sum ≡ dot_to left right z % 2 ^ 64 → product ≡ get_or left z 0 * get_or right z 0 % 2 ^ 64 → new ≡ (sum + product) % 2 ^ 64
    → new ≡ dot_to left right (z + 1) % 2 ^ 64
dot_more left right z sum product new s p e =
    e
    ∙ (λ i. (s i + p i) % 2 ^ 64)
    ∙ mod-add-mod (dot_to left right z) (2 ^ 64) (get_or left z 0 * get_or right z 0 % 2 ^ 64)
    ∙ add-mod-mod (dot_to left right z) (get_or left z 0 * get_or right z 0) (2 ^ 64)
    ∙ ap (λ t. t % 2 ^ 64) (sym (ap (sum_by (λ w. get_or left w 0 * get_or right w 0)) (points_more z) ∙ sum_by_push (λ w. get_or left w 0 * get_or right w 0) (points z) z))
