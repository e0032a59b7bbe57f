-- Entries stored by the prefixes that they share (front coding).
use Rattle.std.specs.Prelude.{ℕ, zero, suc, ◌+◌, ◌-◌, ◌<◌, ◌≤◌, List, ◌++◌, length, take, drop, map, slice_index_or}
use Rattle.pair_colours.specs.Colouring.{points}
use Rattle.visitors.specs.declared.visitor.TheConstants.{MOST_SET_RANK}
use Rattle.visitors.specs.declared.pieces.Piece.{Piece}

-- the piece of an entry
abbrev pub piece_at : List Piece → ℕ → Piece
piece_at pieces k = slice_index_or pieces k (record { shared = 0; width = 0; start = 0 })

-- the numbers that an entry does not share with the one before it
abbrev pub tail_of : List ℕ → Piece → List ℕ
tail_of tails piece = take (piece.width - piece.shared) (drop piece.start tails)

-- the entry: the prefix that it shares with the entry before it, and its tail
abbrev pub unpacked : List ℕ → List Piece → ℕ → List ℕ
unpacked tails pieces zero = tail_of tails (piece_at pieces zero)
unpacked tails pieces (suc k) = take (piece_at pieces (suc k)).shared (unpacked tails pieces k) ++ tail_of tails (piece_at pieces (suc k))

-- all entries
abbrev pub all_unpacked : List ℕ → List Piece → List (List ℕ)
all_unpacked tails pieces = map (unpacked tails pieces) (points (length pieces))

-- the width of the entry before the k-th, or 0 before the first
abbrev pub width_before : List Piece → ℕ → ℕ
width_before pieces zero = 0
width_before pieces (suc k) = (piece_at pieces k).width

-- an entry shares no more than the one before it has, and its tail is stored
pub record IsPiece (tails : List ℕ) (before : ℕ) (piece : Piece) : Type 0 where
  pub shares : piece.shared ≤ before
  pub shared : piece.shared ≤ piece.width
  pub stored : piece.start + (piece.width - piece.shared) ≤ length tails
  pub narrow : piece.width ≤ MOST_SET_RANK

-- so it is of each entry
pub record ArePieces (tails : List ℕ) (pieces : List Piece) : Type 0 where
  pub each : (k : ℕ) → k < length pieces → IsPiece tails (width_before pieces k) (piece_at pieces k)
