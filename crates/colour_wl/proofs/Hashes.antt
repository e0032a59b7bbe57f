-- The round by hashing splits classes by what alike pairs have in common.
use Rattle.std.proofs.Common.{◌≡◌, ◌==◌, ℕ, zero, suc, ◌+◌, ◌*◌, ◌/◌, ◌%◌, ◌^◌, ◌<◌, List, length, get_or, take, nat_eq, replicate, slice_index, sum_by, refl, sym, ap, ◌∙◌, arith, if◌then◌else◌}
use Rattle.std.proofs.Math.Nat.{mod-add-mod}
use Rattle.std.proofs.lemmas.Bool.{eqb-true}
use Rattle.std.proofs.lemmas.Bool.Decides.{Decides-eqb, Decides-like, same_from_decides}
use Rattle.std.proofs.lemmas.List.Sums.{sum_by-cons, sum_by-append}
use Rattle.std.proofs.lemmas.List.Sorted.{sum_by-IsPermutation}
use Rattle.std.proofs.lemmas.Nat.{div-mul-add, div_below, mod_below}
use Rattle.pair_colours.specs.Colouring.{PairColouring, colour_at}
use Rattle.pair_colours.specs.Naming.{rank_of}
use Rattle.pair_colours.specs.IntersectionNumber.{pair_of_class}
use Rattle.pair_colours.specs.Rounds.{Alike}
use Rattle.pair_colours.specs.SideCodes.{code_of_pair, side_codes}
use Rattle.pair_colours.proofs.Rounds.{alike_in}
use Rattle.triangle_count.specs.declared.rows.Entry.{Entry}
use Rattle.struct_consts.specs.ClassData.{IsConfiguration}
use Rattle.colour_wl.specs.Fusions.{merge}
use Rattle.colour_wl.specs.Rounds.{IsForcedRound}
use Rattle.colour_wl.specs.Words.{mix, pair_word, pair_key}
use Rattle.colour_wl.proofs.Classes.{colour_at-below, pair_of_class-holds}
use Rattle.colour_wl.proofs.Codes.{IsPermutation-side_codes}
use Rattle.colour_wl.proofs.Expanded.{expanded, number_code, expanded_more}
use Rattle.colour_wl.proofs.Merged.{colour_at-merge, IsColouring-merge, refines-merge}
use Rattle.colour_wl.proofs.Numbered.{IsNumberedTo, shared_key, same_number}

sum_by-replicate : (f : ℕ → ℕ) (n c : ℕ) → sum_by f (replicate n c) ≡ n * f c
sum_by-replicate f zero c = omega arith
sum_by-replicate f (suc n) c = sum_by-cons f c (replicate n c) ∙ ap (λ s. f c + s) (sum_by-replicate f n c) ∙ omega arith

-- two sums modulo m
sums_mod : (s t m : ℕ) → (s % m + t % m) % m ≡ (s + t) % m
sums_mod s t m =
    let turn : s + t % m ≡ t % m + s = omega arith in
    let back : t + s ≡ s + t = omega arith in
    mod-add-mod s m (t % m) ∙ ap (λ n. n % m) turn ∙ mod-add-mod t m s ∙ ap (λ n. n % m) back

-- a step of the loop over the entries
pub words_more : (a : List ℕ) (entries : List Entry) (i : ℕ) (d : Entry) (sum : ℕ) → i < length entries → sum ≡ sum_by mix (expanded a (take i entries)) % 2 ^ 64
    → (sum + (get_or entries i d).count * mix (number_code a (get_or entries i d)) % 2 ^ 64) % 2 ^ 64 ≡ sum_by mix (expanded a (take (i + 1) entries)) % 2 ^ 64
words_more a entries i d sum l e =
    let entry : Entry = get_or entries i d in
    let front : List ℕ = expanded a (take i entries) in
    ap (λ s. (s + entry.count * mix (number_code a entry) % 2 ^ 64) % 2 ^ 64) e
    ∙ sums_mod (sum_by mix front) (entry.count * mix (number_code a entry)) (2 ^ 64)
    ∙ ap (λ n. n % 2 ^ 64)
    (ap (λ s. sum_by mix front + s) (sym (sum_by-replicate mix entry.count (number_code a entry)))
    ∙ sym (sum_by-append mix front (replicate entry.count (number_code a entry)))
    ∙ ap (sum_by mix) (sym (expanded_more a entries i d l)))

-- alike pairs have one key
pub pair_key-alike : (P : PairColouring) (x y u v : ℕ) → Alike P x y u v → pair_key P x y ≡ pair_key P u v
pair_key-alike P x y u v a =
    let sum : sum_by mix (side_codes P x y) ≡ sum_by mix (side_codes P u v) = sym (sum_by-IsPermutation mix (side_codes P x y) (side_codes P u v) (IsPermutation-side_codes P x y u v a)) in
    let flag : (x == y) ≡ (u == v) = same_from_decides _ _ (Decides-eqb x y) (Decides-like _ a.diagonal.1 a.diagonal.0 (Decides-eqb u v)) in
    λ i. code_of_pair (a.own i) ((sum i + mix (code_of_pair (a.turned i) (if flag i then 1 else 0))) % 2 ^ 64 / 2 ^ 32)

-- the colour is read off the key
own_of_key : (P : PairColouring) (x y : ℕ) → pair_key P x y / 2 ^ 32 ≡ colour_at P x y
own_of_key P x y =
    let sum : ℕ = sum_by mix (side_codes P x y) + mix (code_of_pair (colour_at P y x) (if x == y then 1 else 0)) in
    let low : sum % 2 ^ 64 < 2 ^ 64 = mod_below sum (2 ^ 64) (omega arith) in
    div-mul-add (colour_at P x y) (2 ^ 32) (pair_word P x y / 2 ^ 32) (div_below (sum % 2 ^ 64) (2 ^ 32) (2 ^ 32) (omega arith) (omega (arith, low)))

-- the key of a class, which each of its pairs has
abbrev pub class_key : PairColouring → List ℕ → ℕ → ℕ
class_key K a k = pair_key (merge K a) (pair_of_class K k).0 (pair_of_class K k).1

pair_key-class : (K : PairColouring) → IsConfiguration K → (a : List ℕ) (x y : ℕ) → x < K.size → y < K.size → pair_key (merge K a) x y ≡ class_key K a (colour_at K x y)
pair_key-class K h a x y hx hy =
    let p = pair_of_class-holds K h (colour_at K x y) (colour_at-below K h x y hx hy) in
    pair_key-alike (merge K a) x y _ _ (alike_in K (merge K a) h.colouring h.coherent (refines-merge K h.colouring a) x y _ _ hx hy p.row p.column (sym p.colour))

-- all classes numbered by their keys are a forced round
pub IsForcedRound-numbered : (K : PairColouring) → IsConfiguration K → (a keys next : List ℕ) → IsNumberedTo nat_eq (class_key K a) keys next (rank_of K) → IsForcedRound (merge K a) (merge K next)
IsForcedRound-numbered K h a keys next d = record {
  colouring = IsColouring-merge K h.colouring next;
  sizes = refl;
  refines = record {
    sizes = refl;
    classes = λ x y u v hx hy hu hv q.
        let s = shared_key nat_eq (class_key K a) keys next (rank_of K) d (colour_at K x y) (colour_at K u v) (colour_at-below K h x y hx hy) (colour_at-below K h u v hu hv)
        (sym (at x y hx hy) ∙ q ∙ at u v hu hv) in
        let key : class_key K a (colour_at K x y) ≡ class_key K a (colour_at K u v) = eqb-true _ s.0 s.1 ∙ sym (eqb-true _ s.0 s.2) in
        sym (own_of_key (merge K a) x y) ∙ ap (λ n. n / 2 ^ 32) (pair_key-class K h a x y hx hy ∙ key ∙ sym (pair_key-class K h a u v hu hv)) ∙ own_of_key (merge K a) u v;
  };
  together = λ x y u v hx hy hu hv q.
      at x y hx hy
      ∙ same_number nat_eq (class_key K a) keys next (rank_of K) d (colour_at K x y) (colour_at K u v) (colour_at-below K h x y hx hy) (colour_at-below K h u v hu hv)
      (sym (pair_key-class K h a x y hx hy) ∙ pair_key-alike (merge K a) x y u v q ∙ pair_key-class K h a u v hu hv)
      ∙ sym (at u v hu hv);
}
  where
    at : (x y : ℕ) → x < K.size → y < K.size → colour_at (merge K next) x y ≡ slice_index next (colour_at K x y)
    at x y hx hy = colour_at-merge K h.colouring next x y hx hy
