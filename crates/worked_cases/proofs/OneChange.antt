-- What a write of one pair changes of a colouring.
use Rattle.std.proofs.Common.{◌≡◌, ◌≢◌, ℕ, ◌<◌, [], ◌∷◌, refl, sym, arith}
use Rattle.pair_colours.specs.Colouring.{PairColouring, colour_at}
use Rattle.triangle_count.specs.Cache.{AgreeElsewhere}

-- a colouring and what a write at one pair makes of it agree elsewhere
pub AgreeElsewhere-one : (A B : PairColouring) (x y : ℕ) → B.size ≡ A.size → ((u v : ℕ) → u < A.size → v < A.size → (u ≡ x → v ≢ y) → colour_at B u v ≡ colour_at A u v)
    → AgreeElsewhere A B ((x, y) ∷ [])
AgreeElsewhere-one A B x y sizes others = record {
  sizes = sym sizes;
  others = λ u v hu hv unlisted. let here : 0 < 1 = omega arith in sym (others u v hu hv (λ e f. unlisted (0, (x, y), here, refl, (sym e, sym f))));
}
