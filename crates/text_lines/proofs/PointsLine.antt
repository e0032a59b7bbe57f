-- The line of the number of points, and back.
use Rattle.std.proofs.Common.{◌≡◌, ◌&&◌, ℕ, ◌≤◌, Bool, true, false, cond, leb, List, ◌++◌, drop, Option, Some, None, refl, ap, ◌∙◌, arith}
use Rattle.std.specs.Prelude.{codes, decimal, is_some, unwrap_or, nat_eq, bytes_eq}
use Rattle.std.specs.List.{starts_with}
use Rattle.std.proofs.lemmas.Bool.{le-leb, leb-true}
use Rattle.std.proofs.lemmas.Bool.Decides.{Decides-eqb}
use Rattle.std.proofs.lemmas.Slice.Eq.{starts_is, bytes_eq-Decides}
use Rattle.pair_colours.specs.declared.coloured_pairs.TheConstants.{MOST_POINTS}
use Rattle.text_lines.specs.Number.{number_of}
use Rattle.text_lines.specs.LineNumbers.{value}
use Rattle.text_lines.specs.PointsLine.{points_on}
use Rattle.text_lines.proofs.LineNumbers.{both, number_of-decimal}
use Rattle.text_lines.proofs.Numbers.{form-number_of}

-- bytes that compare equal are the same
pub bytes_same : (xs ys : List ℕ) → bytes_eq xs ys ≡ true → xs ≡ ys
bytes_same xs ys h = (bytes_eq-Decides xs ys).0 h

-- a choice that gives something
pub some_from : {X : Type 0} (t : Bool) (o : Option X) (n : X) → cond t o None ≡ Some n → (t ≡ true) × (o ≡ Some n)
some_from true o n e = (refl, e)
some_from false o n e = absurd cc

-- the line of the number of points
pub points_good : (n : ℕ) → 1 ≤ n → n ≤ MOST_POINTS → points_on (codes "points " ++ decimal n) ≡ Some n
points_good n h l = let e = number_of-decimal n (omega (arith, l)) in let low = le-leb 1 n h in let high = le-leb n MOST_POINTS l in rw (e, low, high) refl

-- the line tells n points
pub record IsPointsLine (line : List ℕ) (n : ℕ) : Type 0 where
  pub spelled : line ≡ codes "points " ++ decimal n
  pub some : 1 ≤ n
  pub few : n ≤ MOST_POINTS

pub points_back : (line : List ℕ) (n : ℕ) → points_on line ≡ Some n → IsPointsLine line n
points_back line n h =
    let word = drop 7 line in
    let a = starts_with nat_eq line (codes "points ") in
    let b = is_some (number_of word) in
    let c = leb 1 (value word) in
    let d = leb (value word) MOST_POINTS in
    let found = some_from (a && b && c && d) (number_of word) n h in
    let last = both (a && b && c) d found.0 in
    let third = both (a && b) c last.0 in
    let second = both a b third.0 in
    let is : value word ≡ n = ap (λ o. unwrap_or o 0) found.1 in
    let low = leb-true 1 (value word) third.1 in
    let high = leb-true (value word) MOST_POINTS last.1 in
    record {
      spelled = (starts_is Decides-eqb line (codes "points ") a refl).0 second.0 ∙ ap (λ w. codes "points " ++ w) (form-number_of word n found.1).digits;
      some = omega (arith, low, is);
      few = omega (arith, high, is);
    }
