-- Paths along a class of a coherent configuration: whether two points are joined depends on the colour of the pair alone.
use Rattle.std.proofs.Common.{◌≡◌, ℕ, suc, zero, ◌<◌, inl, inr, ⊎_elim, refl, sym, ap, subst, ◌∙◌}
use Rattle.pair_colours.specs.Colouring.{PairColouring, colour_at}
use Rattle.pair_colours.specs.Closure.{Coherent}
use Rattle.struct_consts.proofs.LawProofs.{triangles_move}
use Rattle.scheme_tests.specs.Steps.{Step, Path, Joined}

Step-sym : (K : PairColouring) (c x y : ℕ) → Step K c x y → Step K c y x
Step-sym K c x y s = ⊎_elim (λ a. inr a) (λ a. inl a) s

-- a step, and then a path
Path-before : (K : PairColouring) (c m x y z : ℕ) → x < K.size → Step K c x y → Path K c m y z → Path K c (suc m) x z
Path-before K c zero x y z hx s p = (x, hx, refl, subst (Step K c x) p s)
Path-before K c (suc m) x y z hx s p = (p.0, p.1, Path-before K c m x y p.0 hx s p.2, p.3)

pub Joined-refl : (K : PairColouring) (c x : ℕ) → Joined K c x x
Joined-refl K c x = (zero, refl)

pub Joined-step : (K : PairColouring) (c x y z : ℕ) → y < K.size → Joined K c x y → Step K c y z → Joined K c x z
Joined-step K c x y z hy j s = (suc j.0, (y, hy, j.1, s))

path_back : (K : PairColouring) (c m x y : ℕ) → y < K.size → Path K c m x y → Joined K c y x
path_back K c zero x y hy p = (zero, sym p)
path_back K c (suc m) x y hy p =
    let back = path_back K c m x p.0 p.1 p.2 in
    (suc back.0, Path-before K c back.0 y p.0 x hy (Step-sym K c p.0 y p.3) back.1)

pub Joined-sym : (K : PairColouring) (c x y : ℕ) → y < K.size → Joined K c x y → Joined K c y x
Joined-sym K c x y hy j = path_back K c j.0 x y hy j.1

path_after : (K : PairColouring) (c m x y z : ℕ) → Joined K c x y → Path K c m y z → Joined K c x z
path_after K c zero x y z j p = subst (Joined K c x) p j
path_after K c (suc m) x y z j p = Joined-step K c x p.0 z p.1 (path_after K c m x y p.0 j p.2) p.3

pub Joined-trans : (K : PairColouring) (c x y z : ℕ) → Joined K c x y → Joined K c y z → Joined K c x z
Joined-trans K c x y z j k = path_after K c k.0 x y z j k.1

-- a path over one pair of a class stands over each pair of it
path_moved : (K : PairColouring) → Coherent K → (c m x y u v : ℕ) → x < K.size → y < K.size → u < K.size → v < K.size → colour_at K x y ≡ colour_at K u v → Path K c m x y → Path K c m u v
path_moved K h c zero x y u v hx hy hu hv e p = h.splits_diagonal x u v hx hu hv (ap (colour_at K x) p ∙ e)
path_moved K h c (suc m) x y u v hx hy hu hv e p =
    let w = triangles_move K h x y u v p.0 hx hy hu hv p.1 e in
    let step : Step K c w.0 v = ⊎_elim
    (λ a. inl (w.3 ∙ a))
    (λ a. inr (h.closed_under_transpose w.0 v p.0 y w.1 hv p.1 hy w.3 ∙ a))
    p.3 in
    (w.0, w.1, path_moved K h c m x p.0 u w.0 hx p.1 hu w.1 (sym w.2) p.2, step)

pub Joined-moved : (K : PairColouring) → Coherent K → (c x y u v : ℕ) → x < K.size → y < K.size → u < K.size → v < K.size → colour_at K x y ≡ colour_at K u v → Joined K c x y → Joined K c u v
Joined-moved K h c x y u v hx hy hu hv e j = (j.0, path_moved K h c j.0 x y u v hx hy hu hv e j.1)
