-- Entries: lists of colours that a visitor meets.
use Rattle.std.specs.Prelude.{ℕ, ◌<◌, ◌≤◌, List, [], length, All, slice_index_or}
use Rattle.visitors.specs.declared.visitor.TheConstants.{MOST_SET_RANK}

-- what may be met: 1 to 16 numbers, each below 16
pub record IsEntry (entry : List ℕ) : Type 0 where
  pub some : 1 ≤ length entry
  pub width : length entry ≤ MOST_SET_RANK
  pub numbers : All (λ number. number < MOST_SET_RANK) entry

-- the entry at a place
abbrev pub entry_at : List (List ℕ) → ℕ → List ℕ
entry_at entries place = slice_index_or entries place []

-- what a visitor is: the entries that it met, and how many it may meet
pub record Met : Type 0 where
  pub met : List (List ℕ)
  pub room : ℕ

-- what a visitor that refuses is: also after how many entries it refuses one
pub record MetUntil : Type 0 where
  pub met : List (List ℕ)
  pub room : ℕ
  pub after : ℕ
