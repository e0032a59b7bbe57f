-- The numbers of an array.
use Rattle.std.proofs.Common.{◌≡◌, ◌+◌, ◌==◌, ◌&&◌, ℕ, true, List, [], ◌∷◌, length, take, drop, arith, sym, subst, ap, ◌∙◌}
use Rattle.std.specs.Prelude.{All, nat_le}
use Rattle.std.specs.List.{AllByRecursion, list_all}
use Rattle.std.proofs.lemmas.Bool.{and_parts, eqb-true, leb-true}
use Rattle.std.proofs.lemmas.List.{length-drop, length-take-le}
use Rattle.std.proofs.lemmas.List.Elements.{All-drop, All-from_recursion, All-take}
use Rattle.array_tables.specs.declared.shares.TheConstants.{MOST_DIAMETER, MOST_NUMBER}
use Rattle.array_tables.specs.Kept.{FitsArray, IsArrayNumber}
use Rattle.array_tables.specs.Parameters.{array_of}
use Rattle.cohere_inputs.specs.TableForm.{fit_diameter, is_array_number}

array_number : (n : ℕ) → is_array_number n ≡ true → IsArrayNumber n
array_number n h = let parts = and_parts (nat_le 1 n) (nat_le n MOST_NUMBER) h in (leb-true 1 n parts.0, leb-true n MOST_NUMBER parts.1)

array_numbers : (ns : List ℕ) → list_all is_array_number ns ≡ true → AllByRecursion IsArrayNumber ns
array_numbers [] h = tt
array_numbers (n ∷ ns) h = let parts = and_parts (is_array_number n) (list_all is_array_number ns) h in (array_number n parts.0, array_numbers ns parts.1)

-- two lists of numbers, cut where the diameter says, are an array within the limits
pub fits_array : (d : ℕ) (numbers b c : List ℕ) → fit_diameter d numbers ≡ true → b ≡ take d numbers → c ≡ drop d numbers → FitsArray (array_of b c)
fits_array d numbers b c fit first others =
    let numbered = and_parts (nat_le 1 d && nat_le d MOST_DIAMETER && (length numbers == d + d)) (list_all is_array_number numbers) fit in
    let counted = and_parts (nat_le 1 d && nat_le d MOST_DIAMETER) (length numbers == d + d) numbered.0 in
    let bounds = and_parts (nat_le 1 d) (nat_le d MOST_DIAMETER) counted.0 in
    let some = leb-true 1 d bounds.0 in
    let few = leb-true d MOST_DIAMETER bounds.1 in
    let twice : length numbers ≡ d + d = eqb-true (length numbers) (d + d) counted.1 in
    let len_b : length b ≡ d = ap length first ∙ length-take-le d numbers (omega (arith, twice)) in
    let len_c : length c ≡ d = omega (arith, ap length others, length-drop d numbers, twice) in
    let all = All-from_recursion IsArrayNumber numbers (array_numbers numbers numbered.1) in
    record {
      least = omega (arith, len_b, some);
      most = omega (arith, len_b, few);
      lengths = len_c ∙ sym len_b;
      b_numbers = subst (All IsArrayNumber) (sym first) (All-take IsArrayNumber d numbers all);
      c_numbers = subst (All IsArrayNumber) (sym others) (All-drop IsArrayNumber d numbers all);
    }
