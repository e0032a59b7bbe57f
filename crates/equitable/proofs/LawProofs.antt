-- The proofs of the laws, under the names by which crates above cite them.
use Rattle.equitable.specs.Law.{AcceptedAreCells, AcceptedExists, CellsAreUnique, FibresLieInCells, ArcsOfSetsAreArcs, ArcsOfSetsAreTheirs, ArcSetOrNot, VerdictExists, AcceptedHasNone, FirstBadLineIsUnique, CellTextReadsOrFails, ReadingHasNoFault, ReadingIsUnique, TextIsReadBack, TextIsOfOneClaim, AcceptedHasText, AcceptedHasFewSteps, AcceptedTextFits, ReadingHasFewLines, StepsKeepNumbers}
use Rattle.equitable.proofs.Coarse as coarse
use Rattle.equitable.proofs.Existing as existing
use Rattle.equitable.proofs.Fibres as fibres
use Rattle.equitable.proofs.ArcsOfSets as arcs
use Rattle.equitable.proofs.TextSizes as sizes
use Rattle.equitable.proofs.Judged as judged
use Rattle.equitable.proofs.CellTexts as texts
use Rattle.equitable.proofs.WrittenBack as written
use Rattle.equitable.proofs.AcceptedTexts as accepted
use Rattle.equitable.proofs.LineCounts as counts
use Rattle.equitable.proofs.Ending as ending

-- an accepted claim shows the coarsest equitable partition, and all arcs have an accepted claim
pub accepted_are_cells : AcceptedAreCells
accepted_are_cells = coarse.accepted_are_cells

pub accepted_exists : AcceptedExists
accepted_exists = existing.accepted_exists

-- there is one coarsest equitable partition that is numbered by first occurrence
pub cells_are_unique : CellsAreUnique
cells_are_unique = coarse.cells_are_unique

-- each fibre of the closure lies in one cell
pub fibres_lie_in_cells : FibresLieInCells
fibres_lie_in_cells = fibres.fibres_lie_in_cells

-- the colouring with the arcs of a set
pub arcs_of_sets_are_arcs : ArcsOfSetsAreArcs
arcs_of_sets_are_arcs = arcs.arcs_of_sets_are_arcs

pub arcs_of_sets_are_theirs : ArcsOfSetsAreTheirs
arcs_of_sets_are_theirs = arcs.arcs_of_sets_are_theirs

pub arc_set_or_not : ArcSetOrNot
arc_set_or_not = arcs.arc_set_or_not

-- a claim is accepted, or has one first bad line
pub verdict_exists : VerdictExists
verdict_exists = judged.verdict_exists

pub accepted_has_none : AcceptedHasNone
accepted_has_none = judged.accepted_has_none

pub first_bad_line_is_unique : FirstBadLineIsUnique
first_bad_line_is_unique = judged.first_bad_line_is_unique

-- each text is that of one claim or has a fault, and what is written reads back
pub cell_text_reads_or_fails : CellTextReadsOrFails
cell_text_reads_or_fails = texts.cell_text_reads_or_fails

pub reading_has_no_fault : ReadingHasNoFault
reading_has_no_fault = texts.reading_has_no_fault

pub reading_is_unique : ReadingIsUnique
reading_is_unique = texts.reading_is_unique

pub text_is_read_back : TextIsReadBack
text_is_read_back = written.text_is_read_back

pub text_is_of_one_claim : TextIsOfOneClaim
text_is_of_one_claim = written.text_is_of_one_claim

-- an accepted claim has a text
pub accepted_has_text : AcceptedHasText
accepted_has_text = accepted.accepted_has_text

-- an accepted claim has few steps, and a short text
pub accepted_has_few_steps : AcceptedHasFewSteps
accepted_has_few_steps = sizes.accepted_has_few_steps

pub accepted_text_fits : AcceptedTextFits
accepted_text_fits = sizes.accepted_text_fits

-- a claim that is read has few lines
pub reading_has_few_lines : ReadingHasFewLines
reading_has_few_lines = counts.reading_has_few_lines

-- the numbers of cells after steps are those below their count
pub steps_keep_numbers : StepsKeepNumbers
steps_keep_numbers = ending.steps_keep_numbers
