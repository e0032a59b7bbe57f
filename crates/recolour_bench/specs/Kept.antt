-- What a bench keeps: the stages of all entries, and of each entry its closure, where its chain starts and where it ends.
use Rattle.std.specs.Prelude.{◌≡◌, ℕ, ◌+◌, ◌<◌, ◌≤◌, List, [], length, map, take, drop, slice_index_or, Some}
use Rattle.std.specs.List.{AllByRecursion}
use Rattle.pair_colours.specs.Colouring.{PairColouring, points}
use Rattle.pair_colours.specs.Closure.{Coherent, IsClosureOf}
use Rattle.trace_text.specs.declared.stage_list.Stage.{Stage}
use Rattle.trace_text.specs.Chains.{chain_end}
use Rattle.trace_text.specs.Split.{Lead}
use Rattle.trace_text.specs.Versions.{HasStep}
use Rattle.recolour_bench.specs.declared.kept.Kept.{Kept}
use Rattle.recolour_bench.specs.declared.chaining.Made.{Made}
use Rattle.recolour_bench.specs.History.{Entry, History, IsHistory, no_entry}

-- no stage, and nothing that is kept: they stand past the ends of lists
abbrev pub no_stage : Stage
no_stage = record { colours = no_entry.colouring; steps = [] }

abbrev pub no_kept : Kept
no_kept = record { closure = no_entry.colouring; last = no_entry.colouring; start = 0 }

-- the entry at a place: the stages from where its chain starts up to the one at the place, which has its colouring
abbrev pub entry_kept : List Stage → List Kept → ℕ → Entry
entry_kept stages kept place = record {
  colouring = (slice_index_or stages place no_stage).colours;
  chain = drop (slice_index_or kept place no_kept).start (take (place + 1) stages);
}

-- the history that is kept
abbrev pub history_of : List Stage → List Kept → ℕ → History
history_of stages kept position = record { entries = map (entry_kept stages kept) (points (length stages)); position = position }

-- the closure is that of the entry's colouring, and its chain ends at the partition that is kept
pub record IsKeptOf (entry : Entry) (kept : Kept) : Type 0 where
  pub closure : IsClosureOf kept.closure entry.colouring
  pub ends : chain_end entry.chain ≡ Some (record { colours = entry.colouring; partition = kept.last })

-- it is a history, something is kept of each entry, and no chain starts after its entry
pub record IsKeptHistory (stages : List Stage) (kept : List Kept) (position : ℕ) : Type 0 where
  pub lengths : length kept ≡ length stages
  pub history : IsHistory (history_of stages kept position)
  pub starts : (place : ℕ) → place < length stages → (slice_index_or kept place no_kept).start ≤ place
  pub entries : (place : ℕ) → place < length stages → IsKeptOf (entry_kept stages kept place) (slice_index_or kept place no_kept)

-- the steps of a new stage lead from P, each by a split of one class, to where the chain ends, and the chain starts at this place
pub record IsMadeFrom (P : PairColouring) (place : ℕ) (new : Made) : Type 0 where
  pub leads : Lead new.stage.steps P new.kept.last
  pub one_class : AllByRecursion (HasStep 1) new.stage.steps
  pub coherent : Coherent new.kept.last
  pub start : new.kept.start ≡ place
