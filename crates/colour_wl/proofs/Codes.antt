use Rattle.std.proofs.Common.{◌≡◌, ◌==◌, ◌&&◌, Bool, true, false, get_or, take, drop, count_by, ◌/◌, ◌%◌, ℕ, ◌^◌, ◌<◌, List, [], ◌∷◌, ◌++◌, length, map, refl, sym, ap, subst, ◌∙◌, if◌then◌else◌}
use Rattle.std.specs.List.Sorted.{IsPermutation}
use Rattle.std.specs.Int.{from_bool}
use Rattle.std.proofs.lemmas.Bool.Decides.{Decides-eqb, Decides-like, same_from_decides}
use Rattle.std.proofs.lemmas.Nat.{div-mul-add, mod-mul-add}
use Rattle.std.proofs.lemmas.List.{take_at, drop_at}
use Rattle.std.proofs.lemmas.List.Sorted.{length_permutation, sum_by-IsPermutation, IsPermutation-map}
use Rattle.pair_colours.specs.Rounds.{Alike}
use Rattle.pair_colours.proofs.Counts.{unit_of, unit_of-one, count_by-map, count_by_points}
use Rattle.pair_colours.proofs.ListLemmas.{map-map}
use Rattle.pair_colours.proofs.Rounds.{sides, IsPermutation-sides}
use Rattle.pair_colours.proofs.SideCodes.{colour_small, length-side_codes}
use Rattle.pair_colours.specs.Colouring.{PairColouring, FitsColouring, colour_at, points, triangles}
use Rattle.pair_colours.specs.SideCodes.{code_of_pair, side_code, side_codes}
use Rattle.colour_wl.specs.Signature.{IsSignature}
use Rattle.colour_wl.proofs.Sorting.{in_order, in_order-rising, in_order-same, IsPermutation-in_order, IsPermutation-from_in_order}

-- a pair has one signature
abbrev pub signature_of : PairColouring → ℕ → ℕ → List ℕ
signature_of P x y = in_order (side_codes P x y) ++ (if x == y then 1 else 0) ∷ colour_at P x y ∷ colour_at P y x ∷ []

pub the_signature : (P : PairColouring) (x y : ℕ) (s : List ℕ) → IsSignature P x y s → s ≡ signature_of P x y
the_signature P x y s h =
    h.is ∙ ap (λ l. l ++ (if x == y then 1 else 0) ∷ colour_at P x y ∷ colour_at P y x ∷ []) (in_order-rising (side_codes P x y) h.sides h.of_pair h.rising)

pub flag_is : (b : Bool) → from_bool b ≡ (if b then 1 else 0)
flag_is true = refl
flag_is false = refl

-- two lists of equal fronts' lengths that are one have one front and one rest
split_same : {X : Type 0} (a b s t : List X) → length a ≡ length b → a ++ s ≡ b ++ t → (a ≡ b) × (s ≡ t)
split_same a b s t l e = (
  sym (take_at a s (length b) l) ∙ ap (take (length b)) e ∙ take_at b t (length b) refl,
  sym (drop_at a s (length b) l) ∙ ap (drop (length b)) e ∙ drop_at b t (length b) refl,
)

-- the colours of a code
abbrev decodes : ℕ → ℕ → ℕ → Bool
decodes i j code = (code / 2 ^ 32 == i) && (code % 2 ^ 32 == j)

triangles-codes : (P : PairColouring) → FitsColouring P → (x y i j : ℕ) → y < P.size → triangles P x y i j ≡ count_by (decodes i j) (side_codes P x y)
triangles-codes P h x y i j hy =
    count_by_points (λ z. (colour_at P x z == i) && (colour_at P z y == j)) (λ z. decodes i j (side_code P x y z)) P.size
    (λ z l k.
    let small = colour_small P h z y l hy in
    (sym (div-mul-add (colour_at P x z) (2 ^ 32) (colour_at P z y) small) k == i) && (sym (mod-mul-add (colour_at P x z) (2 ^ 32) (colour_at P z y) small) k == j))
    ∙ sym (count_by-map (decodes i j) (side_code P x y) (points P.size))

length-in_order : (xs : List ℕ) → length (in_order xs) ≡ length xs
length-in_order xs = length_permutation xs (in_order xs) (IsPermutation-in_order xs)

-- pairs of one signature are alike
pub Alike-from_signature : (P : PairColouring) → FitsColouring P → (x y u v : ℕ) → y < P.size → v < P.size → signature_of P x y ≡ signature_of P u v → Alike P x y u v
Alike-from_signature P h x y u v hy hv e =
    let parts = split_same (in_order (side_codes P x y)) (in_order (side_codes P u v)) _ _
    (length-in_order (side_codes P x y) ∙ length-side_codes P x y ∙ sym (length-side_codes P u v) ∙ sym (length-in_order (side_codes P u v))) e in
    let flag : unit_of (x == y) ≡ unit_of (u == v) = ap (λ (l : List ℕ). get_or l 0 0) parts.1 in
    let own : colour_at P x y ≡ colour_at P u v = ap (λ (l : List ℕ). get_or l 1 0) parts.1 in
    let turned : colour_at P y x ≡ colour_at P v u = ap (λ (l : List ℕ). get_or l 2 0) parts.1 in
    let same = IsPermutation-from_in_order (side_codes P x y) (side_codes P u v) parts.0 in
    record {
      diagonal = (unit_of-one x y u v flag, unit_of-one u v x y (sym flag));
      own = own;
      turned = turned;
      counts = λ i j.
          triangles-codes P h x y i j hy
          ∙ sym (sum_by-IsPermutation (λ c. unit_of (decodes i j c)) (side_codes P x y) (side_codes P u v) same)
          ∙ sym (triangles-codes P h u v i j hv);
    }

-- alike pairs have the same sides
pub IsPermutation-side_codes : (P : PairColouring) (x y u v : ℕ) → Alike P x y u v → IsPermutation (side_codes P x y) (side_codes P u v)
IsPermutation-side_codes P x y u v a =
    let code : ℕ × ℕ → ℕ = λ w. code_of_pair w.0 w.1 in
    let is : (s t : ℕ) → map code (sides P s t) ≡ side_codes P s t = λ s t. map-map code (λ z. (colour_at P s z, colour_at P z t)) (points P.size) in
    let perm = IsPermutation-map code (sides P x y) (sides P u v) (IsPermutation-sides P x y u v a.counts) in
    subst (λ l. IsPermutation l (side_codes P u v)) (is x y) (subst (IsPermutation (map code (sides P x y))) (is u v) perm)

-- and one signature
pub signature_of-alike : (P : PairColouring) (x y u v : ℕ) → Alike P x y u v → signature_of P x y ≡ signature_of P u v
signature_of-alike P x y u v a =
    let order : in_order (side_codes P x y) ≡ in_order (side_codes P u v) = in_order-same (side_codes P x y) (side_codes P u v) (IsPermutation-side_codes P x y u v a) in
    let flag : (x == y) ≡ (u == v) = same_from_decides _ _ (Decides-eqb x y) (Decides-like _ a.diagonal.1 a.diagonal.0 (Decides-eqb u v)) in
    λ i. order i ++ (if flag i then 1 else 0) ∷ a.own i ∷ a.turned i ∷ []
