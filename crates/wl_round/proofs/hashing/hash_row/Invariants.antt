use Rattle.std.proofs.Common.{◌≡◌, ◌≢◌, ℕ, ◌<◌}
use Rattle.pair_colours.specs.Colouring.{colour_at}
use Rattle.wl_round.specs.Hashes.{hash_at}
use Rattle.wl_round.proofs.hashing.hash_row.Given as goal

abbrev pub invariant-loop-y : goal.invariant-loop-y
invariant-loop-y l = record {
  size : l.hashes.size ≡ l.fn.hashes.size;
  row : (y : ℕ) → y < l.y → colour_at l.hashes l.x y ≡ hash_at l.fn.hashes.size l.words.lefts.items l.words.rights.items l.words.turned.items l.x y;
  others : (u v : ℕ) → u < l.fn.hashes.size → v < l.fn.hashes.size → u ≢ l.x → colour_at l.hashes u v ≡ colour_at l.fn.hashes u v;
}
