-- The colourings that a run of edits has made, each with its chain, and the one that is at hand.
use Rattle.std.specs.Prelude.{◌≡◌, ℕ, ◌+◌, ◌<◌, ◌≤◌, List, [], ◌∷◌, length, map, slice_index_or, All, ⊤}
use Rattle.pair_colours.specs.Colouring.{PairColouring, IsRawColouring, Refines}
use Rattle.trace_text.specs.declared.stage_list.Stage.{Stage}
use Rattle.recolour_bench.specs.EntryChains.{IsChainOf}
use Rattle.recolour_bench.specs.declared.history.TheConstants.{MOST_POSITION}

-- what a history has of one state of the colouring: the chain shows its closure
pub record Entry : Type 0 where
  pub colouring : PairColouring
  pub chain : List Stage

-- the entries in the order in which they were made, and the place of the present one
pub record History : Type 0 where
  pub entries : List Entry
  pub position : ℕ

-- a first entry, of the colouring C: its chain has one stage
pub record IsFirstEntry (C : PairColouring) (entry : Entry) : Type 0 where
  pub colouring : entry.colouring ≡ C
  pub chain : IsChainOf C [] entry.chain

-- an entry of the colouring C, made by an edit of the entry before: where C refines the colouring before, its chain goes on
-- from the chain before, unchanged, by one stage; where it does not, a chain of one stage starts
pub record IsEntryAfter (before : Entry) (C : PairColouring) (entry : Entry) : Type 0 where
  pub colouring : entry.colouring ≡ C
  pub goes_on : Refines C before.colouring → IsChainOf C before.chain entry.chain
  pub starts : ¬ Refines C before.colouring → IsChainOf C [] entry.chain

-- each entry is one after the entry that stands before it
abbrev pub AreEntriesAfter : Entry → List Entry → Type 0
AreEntriesAfter before [] = ⊤
AreEntriesAfter before (entry ∷ rest) = IsEntryAfter before entry.colouring entry × AreEntriesAfter entry rest

-- a first entry, and the entries after it
abbrev pub AreEntries : List Entry → Type 0
AreEntries [] = ⊤
AreEntries (first ∷ rest) = IsFirstEntry first.colouring first × AreEntriesAfter first rest

-- there is a present entry, the entries are no more than positions, each colouring is within the limits, and each chain goes on
-- from the one before it or starts
pub record IsHistory (h : History) : Type 0 where
  pub inside : h.position < length h.entries
  pub few : length h.entries ≤ MOST_POSITION + 1
  pub within : All (λ entry. IsRawColouring entry.colouring) h.entries
  pub chains : AreEntries h.entries

-- no entry: it stands past the end of a list of entries
abbrev pub no_entry : Entry
no_entry = record { colouring = record { size = 0; colours = [] }; chain = [] }

-- the entry at the position
abbrev pub entry_at : History → Entry
entry_at h = slice_index_or h.entries h.position no_entry

-- the colouring at the position
abbrev pub present : History → PairColouring
present h = (entry_at h).colouring

-- the chain at the position
abbrev pub present_chain : History → List Stage
present_chain h = (entry_at h).chain

-- the colourings of the entries
abbrev pub colourings_of : History → List PairColouring
colourings_of h = map (λ entry. entry.colouring) h.entries

-- the colours of the stages of a chain
abbrev pub stage_colours : List Stage → List PairColouring
stage_colours chain = map (λ stage. stage.colours) chain

-- a history of C that is not edited yet
pub record Starts (C : PairColouring) (h : History) : Type 0 where
  pub entry : Entry
  pub first : IsFirstEntry C entry
  pub entries : h.entries ≡ entry ∷ []
  pub position : h.position ≡ 0

-- the same colourings in the same order, chains of the same colours, and one position: the steps of stages alone may differ
pub record AreAlike (h k : History) : Type 0 where
  pub position : h.position ≡ k.position
  pub colourings : colourings_of h ≡ colourings_of k
  pub chains : map (λ entry. stage_colours entry.chain) h.entries ≡ map (λ entry. stage_colours entry.chain) k.entries
