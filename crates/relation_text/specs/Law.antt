-- Each text has, at each line, one reading or one fault; what is read is raw; what is written is read back.
use Rattle.std.specs.Prelude.{◌≡◌, ℕ, ◌<◌, ◌≤◌, List, MatchOption, Some, None}
use Rattle.pair_colours.specs.Colouring.{PairColouring, IsColouring, IsRawColouring, colour_at}
use Rattle.pair_colours.specs.ColourSets.{is_in, IsEdgeSet}
use Rattle.pair_colours.specs.declared.coloured_pairs.TheConstants.{MOST_POINTS}
use Rattle.relation_text.specs.declared.faults.RelationWord.{RelationWord}
use Rattle.relation_text.specs.Relation.{IsRelationText, pair_colour}
use Rattle.relation_text.specs.Written.{graph6_of, digraph6_of}
use Rattle.relation_text.specs.Faults.{relation_fault}

-- where there is no fault there is a reading, and where there is a fault there is none
abbrev pub ReadsOrFails : Type 0
ReadsOrFails = (text : List ℕ) (line : ℕ) → 1 ≤ line → MatchOption (relation_fault text line)
    ((C : PairColouring) × IsRelationText text line C)
    (λ _. (C : PairColouring) → ¬ IsRelationText text line C)

-- a text that reads has no fault
abbrev pub ReadingHasNoFault : Type 0
ReadingHasNoFault = (text : List ℕ) (line : ℕ) (C : PairColouring) → IsRelationText text line C → relation_fault text line ≡ None

-- a text with a fault has no reading
abbrev pub FaultHasNoReading : Type 0
FaultHasNoReading = (text : List ℕ) (line : ℕ) (fault : RelationWord × ℕ) → relation_fault text line ≡ Some fault → (C : PairColouring) → ¬ IsRelationText text line C

-- there is one reading at most
abbrev pub ReadingIsUnique : Type 0
ReadingIsUnique = (text : List ℕ) (line : ℕ) (C D : PairColouring) → IsRelationText text line C → IsRelationText text line D → C ≡ D

-- what is read is raw
abbrev pub ReadingIsRaw : Type 0
ReadingIsRaw = (text : List ℕ) (line : ℕ) (C : PairColouring) → IsRelationText text line C → IsRawColouring C

-- D is the graph of a set of colours of C: its edges, or its arcs and loops, are the pairs with a colour in the set
pub record IsGraphOf (C : PairColouring) (set : List ℕ) (D : PairColouring) : Type 0 where
  pub colouring : IsColouring D
  pub points : D.size ≡ C.size
  pub colours : (x y : ℕ) → x < C.size → y < C.size → colour_at D x y ≡ pair_colour x y (is_in set (colour_at C x y))

-- what is written of a graph is read back
abbrev pub GraphIsReadBack : Type 0
GraphIsReadBack = (C : PairColouring) (set : List ℕ) → C.size ≤ MOST_POINTS → IsEdgeSet C set → (D : PairColouring) → IsGraphOf C set D → IsRelationText (graph6_of C set) 1 D

-- and of a digraph
abbrev pub DigraphIsReadBack : Type 0
DigraphIsReadBack = (C : PairColouring) (set : List ℕ) → C.size ≤ MOST_POINTS → (D : PairColouring) → IsGraphOf C set D → IsRelationText (digraph6_of C set) 1 D
