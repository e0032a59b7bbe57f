-- A colouring that is filled pair by pair, row by row.
use Rattle.std.proofs.Common.{◌≡◌, ℕ, ◌+◌, ◌*◌, ◌<◌, ◌≤◌, [], ◌∷◌, ◌++◌, length, take, set, get_or, replicate, sym, ap, ◌∙◌, arith}
use Rattle.std.proofs.lemmas.Nat.{mul-le}
use Rattle.std.proofs.lemmas.List.{length-set, length-replicate, take_all, take_more, take_more_set}
use Rattle.pair_colours.specs.Colouring.{PairColouring, IsColouring, colour_at}
use Rattle.pair_colours.proofs.Places.{place_below}

-- R has the size of A, and its first k colours
pub record IsFilledTo (A R : PairColouring) (k : ℕ) : Type 0 where
  pub size : R.size ≡ A.size
  pub pairs : length R.colours ≡ length A.colours
  pub front : take k R.colours ≡ take k A.colours

pub filled_start : (A R : PairColouring) (n k colour : ℕ) → IsColouring A → A.size ≡ n → R.size ≡ n → R.colours ≡ replicate (n * n) colour → k ≡ 0 → IsFilledTo A R k
filled_start A R n k colour a size filled colours none = record {
  size = filled ∙ sym size;
  pairs = ap length colours ∙ length-replicate (n * n) colour ∙ ap (λ m. m * m) (sym size) ∙ sym a.has_pairs;
  front = ap (λ m. take m R.colours) none ∙ sym (ap (λ m. take m A.colours) none);
}

pub filled_more : (A R S : PairColouring) (n x y k colour : ℕ) → IsColouring A → A.size ≡ n → IsFilledTo A R (x * n + y) → x < n → y < n → k ≡ x * n + y + 1
    → S.size ≡ R.size → S.colours ≡ set R.colours (x * R.size + y) colour → colour_at A x y ≡ colour → IsFilledTo A S k
filled_more A R S n x y k colour a size r hx hy next same changed is =
    let p = x * n + y in
    let pairs : length A.colours ≡ n * n = a.has_pairs ∙ ap (λ m. m * m) size in
    let inside : p < length A.colours = omega (arith, place_below n x y hx hy, pairs) in
    let within : p < length R.colours = omega (arith, inside, r.pairs) in
    let colours : S.colours ≡ set R.colours p colour = changed ∙ ap (λ m. set R.colours (x * m + y) colour) (r.size ∙ size) in
    let at : get_or A.colours p 0 ≡ colour = ap (λ m. get_or A.colours (x * m + y) 0) (sym size) ∙ is in
    record {
      size = same ∙ r.size;
      pairs = ap length colours ∙ length-set R.colours p colour ∙ r.pairs;
      front =
          ap (λ m. take m S.colours) next ∙ ap (take (p + 1)) colours ∙ take_more_set R.colours p colour within
          ∙ ap (λ xs. xs ++ colour ∷ []) r.front ∙ ap (λ v. take p A.colours ++ v ∷ []) (sym at) ∙ sym (take_more A.colours p 0 inside) ∙ ap (λ m. take m A.colours) (sym next);
    }

pub filled_all : (A R : PairColouring) (n x : ℕ) → IsColouring A → A.size ≡ n → IsFilledTo A R (x * n) → n ≤ x → R ≡ A
filled_all A R n x a size r all =
    let enough : n * n ≤ x * n = mul-le n n x n all (omega arith) in
    let pairs : length A.colours ≡ n * n = a.has_pairs ∙ ap (λ m. m * m) size in
    let same : R.colours ≡ A.colours =
    sym (take_all (x * n) R.colours (omega (arith, enough, r.pairs, pairs))) ∙ r.front ∙ take_all (x * n) A.colours (omega (arith, enough, pairs)) in
    λ i. record { size = r.size i; colours = same i }
