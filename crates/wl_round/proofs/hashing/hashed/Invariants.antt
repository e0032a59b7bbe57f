use Rattle.std.proofs.Common.{◌≡◌, ℕ, ◌<◌}
use Rattle.pair_colours.specs.Colouring.{colour_at}
use Rattle.wl_round.specs.Hashes.{hash_at}
use Rattle.wl_round.proofs.hashing.hashed.Given as goal

abbrev pub invariant-loop-x : goal.invariant-loop-x
invariant-loop-x l = record {
  size : l.hashes.size ≡ l.colouring.size;
  rows : (x y : ℕ) → x < l.x → y < l.colouring.size → colour_at l.hashes x y ≡ hash_at l.colouring.size l.words.lefts.items l.words.rights.items l.words.turned.items x y;
}
