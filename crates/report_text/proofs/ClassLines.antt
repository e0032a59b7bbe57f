-- The line of a class, piece by piece.
use Rattle.std.proofs.Common.{◌≡◌, ℕ, List, ◌++◌, ◌∙◌, append_assoc}

-- the pieces of the line of a class, put one after the other
pub class_pieces : (text t1 t2 t3 t4 t5 t6 new a b c d e f g h i j k l m : List ℕ)
    → t1 ≡ text ++ a ++ b → t2 ≡ t1 ++ c ++ d → t3 ≡ t2 ++ e ++ f → t4 ≡ t3 ++ g ++ h → t5 ≡ t4 ++ i ++ j → t6 ≡ t5 ++ k ++ l → new ≡ t6 ++ m
    → new ≡ text ++ (a ++ b ++ c ++ d ++ e ++ f ++ g ++ h ++ i ++ j ++ k ++ l ++ m)
class_pieces text t1 t2 t3 t4 t5 t6 new a b c d e f g h i j k l m e1 e2 e3 e4 e5 e6 e7 =
    let all : new ≡ text ++ a ++ b ++ c ++ d ++ e ++ f ++ g ++ h ++ i ++ j ++ k ++ l ++ m = cc in
    all ∙ simp append_assoc
