-- Lists that are written place by place.
use Rattle.std.proofs.Common.{◌≡◌, ℕ, ◌+◌, ◌*◌, ◌/◌, ◌%◌, ◌<◌, List, [], ◌∷◌, ◌++◌, length, take, get_or, map, sym, ap, ◌∙◌, arith}
use Rattle.std.proofs.Math.Seq.{take-append_seam}
use Rattle.std.proofs.lemmas.List.{length-map}
use Rattle.std.proofs.lemmas.List.FromFn.{length-range_with_len, get_or-map-range_with_len, map-range_with_len_more}
use Rattle.std.proofs.lemmas.Nat.{div-mul-add, mod-mul-add}
use Rattle.pair_colours.specs.Colouring.{points}
use Rattle.pair_colours.proofs.Places.{place_below}
use Rattle.wl_round.specs.Sides.{IsTurned}
use Rattle.wl_round.specs.Hashes.{HasWords}

-- one place more
pub written_more : (f : ℕ → ℕ) (p v : ℕ) (old new : List ℕ) → old ≡ map f (points p) → v ≡ f p → new ≡ old ++ v ∷ [] → new ≡ map f (points (p + 1))
written_more f p v old new e g s = s ∙ (λ i. e i ++ g i ∷ []) ∙ sym (map-range_with_len_more f 0 p p (omega arith))

-- what was written
pub written_length : (f : ℕ → ℕ) (n : ℕ) (xs : List ℕ) → xs ≡ map f (points n) → length xs ≡ n
written_length f n xs e = ap length e ∙ length-map (points n) f ∙ length-range_with_len 0 n

pub written_at : (f : ℕ → ℕ) (n p : ℕ) (xs : List ℕ) → xs ≡ map f (points n) → p < n → get_or xs p 0 ≡ f p
written_at f n p xs e l = ap (λ ys. get_or ys p 0) e ∙ get_or-map-range_with_len f 0 n p p 0 l (omega arith)

-- what stands at a place of the transposed matrix
abbrev pub turned_to : ℕ → List ℕ → ℕ → ℕ
turned_to size class p = get_or class (p % size * size + p / size) 0

pub turned_to-at : (size : ℕ) (class : List ℕ) (x y : ℕ) → y < size → get_or class (y * size + x) 0 ≡ turned_to size class (x * size + y)
turned_to-at size class x y hy = sym (λ i. get_or class (mod-mul-add x size y hy i * size + div-mul-add x size y hy i) 0)

pub IsTurned-from : (size : ℕ) (class turned : List ℕ) → turned ≡ map (turned_to size class) (points (size * size)) → IsTurned size class turned
IsTurned-from size class turned e = record {
  len = written_length (turned_to size class) (size * size) turned e;
  is = λ x y hx hy. written_at (turned_to size class) (size * size) (x * size + y) turned e (place_below size x y hx hy) ∙ sym (turned_to-at size class x y hy);
}

-- the word of the number at a place
abbrev pub word_at : List ℕ → List ℕ → ℕ → ℕ
word_at numbers words p = get_or words (get_or numbers p 0) 0

pub HasWords-from : (numbers words laid : List ℕ) → laid ≡ map (word_at numbers words) (points (length numbers)) → HasWords numbers words laid
HasWords-from numbers words laid e = record {
  len = written_length (word_at numbers words) (length numbers) laid e;
  is = λ p l. written_at (word_at numbers words) (length numbers) p laid e l;
}

-- a list written whole stands for what was written
pub whole : (xs ys : List ℕ) (n : ℕ) → length xs ≡ n → take n (xs ++ ys) ≡ xs
whole xs ys n e = ap (λ m. take m (xs ++ ys)) (sym e) ∙ take-append_seam xs ys
