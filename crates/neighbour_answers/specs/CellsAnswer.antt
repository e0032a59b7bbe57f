-- The answers of `cells` and of `check-cells`.
use Rattle.std.specs.Prelude.{◌≡◌, ◌++◌, ℕ, List, codes, decimal}
use Rattle.pair_colours.specs.Colouring.{PairColouring}
use Rattle.equitable.specs.declared.cell_claims.CellClaim.{CellClaim}
use Rattle.equitable.specs.declared.verdicts.CellVerdict.{CellVerdict}
use Rattle.equitable.specs.declared.verdicts.CellVerdict.TheVariants.{Accepted, Refused}
use Rattle.equitable.specs.Acceptance.{AcceptsCells}
use Rattle.equitable.specs.Arcs.{IsArcSet, arcs_of}
use Rattle.equitable.specs.CellText.{cell_text}
use Rattle.equitable.specs.CheckWord.{check_word}
use Rattle.equitable.specs.Verdict.{IsVerdict}
use Rattle.report_text.specs.Refusals.{RefusedUnless}

-- t is the text of a claim that is accepted, with the arcs of the set
pub record ShowsCells (C : PairColouring) (set t : List ℕ) : Type 0 where
  pub claim : CellClaim
  pub accepts : AcceptsCells claim
  pub arcs : claim.arcs ≡ arcs_of C set
  pub text : t ≡ cell_text claim

-- t answers for a relation and a set, which must choose arcs
abbrev pub AnswersCells : PairColouring → List ℕ → List ℕ → Type 0
AnswersCells C set t = RefusedUnless (IsArcSet C set) (codes "BadSet") t (ShowsCells C set t)

-- the line of a verdict on a claim of cells
abbrev pub cell_verdict_text : CellVerdict → List ℕ
cell_verdict_text (Accepted points cells steps) =
    codes "accepted points " ++ decimal points ++ codes " cells " ++ decimal cells ++ codes " steps " ++ decimal steps ++ codes "\n"
cell_verdict_text (Refused line what) = codes "refused line " ++ decimal line ++ codes " " ++ check_word what ++ codes "\n"

-- t is the line that the claim has: that of its verdict
abbrev pub TellsCellVerdict : CellClaim → List ℕ → Type 0
TellsCellVerdict claim t = (verdict : CellVerdict) × IsVerdict claim verdict × (t ≡ cell_verdict_text verdict)
