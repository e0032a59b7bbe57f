-- Answers on distance-regular graphs.
use Rattle.std.specs.Prelude.{ℕ, List, [], ◌∷◌, ◌++◌, codes}
use Rattle.drg_arrays.specs.declared.answer.ArrayAnswer.{ArrayAnswer}
use Rattle.drg_arrays.specs.declared.answer.ArrayAnswer.TheVariants.{Array, Disconnected, Irregular}
use Rattle.text_lines.specs.Joined.{joined, comma, spaced}

-- an intersection array as it is usually written, {b_0,..,b_(d-1);c_1,..,c_d}; or the pairs that show that there is none
abbrev pub array_text_of : ArrayAnswer → List ℕ
array_text_of (Array b c) = codes "array {" ++ joined comma b ++ codes ";" ++ joined comma c ++ codes "}\n"
array_text_of (Disconnected x y) = codes "array disconnected " ++ spaced (x ∷ y ∷ []) ++ codes "\n"
array_text_of (Irregular x y u v) = codes "array irregular " ++ spaced (x ∷ y ∷ u ∷ v ∷ []) ++ codes "\n"
