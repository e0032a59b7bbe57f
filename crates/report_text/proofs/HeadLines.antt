-- Head lines, piece by piece.
use Rattle.std.proofs.Common.{◌≡◌, ℕ, List, ◌++◌, ◌∙◌, append_assoc}

-- the pieces of a head line, put one after the other
pub head_pieces : (text t1 t2 new a b c d e : List ℕ) → t1 ≡ text ++ a ++ b → t2 ≡ t1 ++ c ++ d → new ≡ t2 ++ e → new ≡ text ++ (a ++ b ++ c ++ d ++ e)
head_pieces text t1 t2 new a b c d e e1 e2 e3 =
    let all : new ≡ text ++ a ++ b ++ c ++ d ++ e = cc in
    all ∙ simp append_assoc
