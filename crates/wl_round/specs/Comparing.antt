-- Pairs, given by their places, compared with the first of a list.
use Rattle.std.specs.Prelude.{◌≡◌, ◌≢◌, ℕ, ◌/◌, ◌%◌, ◌*◌, ◌<◌, Bool, true, false, List, length, slice_index}
use Rattle.pair_colours.specs.Colouring.{PairColouring}
use Rattle.pair_colours.specs.Rounds.{Alike}
use Rattle.wl_round.specs.declared.comparing.Room.{Room}
use Rattle.wl_round.specs.CodeCounts.{AreBlank}

-- the pairs at two places are alike
abbrev pub AlikeAt : PairColouring → ℕ → ℕ → Type 0
AlikeAt P p q = Alike P (p / P.size) (p % P.size) (q / P.size) (q % P.size)

-- of these places, those of pairs that are not alike to the first have mark 1 and the others 0; all other places are as they were
pub record IsMarked (P : PairColouring) (members old new : List ℕ) : Type 0 where
  pub len : length new ≡ length old
  pub others : (p : ℕ) → ((a : ℕ) → a < length members → slice_index members a ≢ p) → slice_index new p ≡ slice_index old p
  pub alike : (a : ℕ) → a < length members → AlikeAt P (slice_index members 0) (slice_index members a) → slice_index new (slice_index members a) ≡ 0
  pub unlike : (a : ℕ) → a < length members → ¬ AlikeAt P (slice_index members 0) (slice_index members a) → slice_index new (slice_index members a) ≡ 1

-- a marked place, whose pair is not alike to the first
pub record HasUnlike (P : PairColouring) (members marks : List ℕ) : Type 0 where
  pub number : ℕ
  pub inside : number < length members
  pub marked : slice_index marks (slice_index members number) ≡ 1
  pub unlike : ¬ AlikeAt P (slice_index members 0) (slice_index members number)

-- all pairs are alike to the first
pub record AreAlike (P : PairColouring) (members : List ℕ) : Type 0 where
  pub alike : (a : ℕ) → a < length members → AlikeAt P (slice_index members 0) (slice_index members a)

-- blank counts for so many points
abbrev pub IsRoom : ℕ → Room → Type 0
IsRoom size room = AreBlank (size * size) room.want.items room.got.items

-- what was counted last: nothing where the next pass goes up, and all that is wanted where it goes down
pub record IsReady (up : Bool) (want got : List ℕ) : Type 0 where
  pub len : length got ≡ length want
  pub blank : up ≡ true → (code : ℕ) → slice_index got code ≡ 0
  pub full : up ≡ false → (code : ℕ) → slice_index got code ≡ slice_index want code
