-- The form `demo NUMBER`: what it answers.
use Rattle.std.specs.Prelude.{◌≡◌, ◌++◌, ℕ, List, [], length, codes, decimal}
use Rattle.pair_colours.specs.Naming.{rank_of}
use Rattle.trace_text.specs.declared.stage_list.Claim.{Claim}
use Rattle.recolour_bench.specs.EntryChains.{claim_by}
use Rattle.recolour_bench.specs.History.{History, Starts, present_chain}
use Rattle.scheme_demo.specs.Demonstration.{demo_size, demo_relation_of, demo_lines_of}
use Rattle.cohere_core.specs.Answer.{OfConfiguration, Runs}

-- the first line: the number, and how many points its relation has
abbrev pub demo_line : ℕ → ℕ → List ℕ
demo_line number points = codes "demo " ++ decimal number ++ codes " points " ++ decimal points ++ codes "\n"

-- the last line: the closure, of so many points and this rank, is accepted by a chain of so many stages
abbrev pub checked_line : ℕ → ℕ → ℕ → List ℕ
checked_line points rank stages = codes "check accepted points " ++ decimal points ++ codes " rank " ++ decimal rank ++ codes " stages " ++ decimal stages ++ codes "\n"

-- t is the last line for the present entry of the history: it tells of its closure and its chain
abbrev pub TellsChecked : History → List ℕ → Type 0
TellsChecked h t = OfConfiguration h (λ K. t ≡ checked_line K.size (rank_of K) (length (present_chain h)))

-- t is an output of the demonstration of the number: the first line, the answers of the lines along a run that starts with
-- the relation of the number, and the last line for the entry where the run ends
pub record DemoOutput (number : ℕ) (t : List ℕ) : Type 0 where
  pub start : History
  pub starts : Starts (demo_relation_of number) start
  pub end : History
  pub answers : List ℕ
  pub runs : Runs start [] demo_lines_of end answers
  pub last : List ℕ
  pub checked : TellsChecked end last
  pub text : t ≡ demo_line number (demo_size number) ++ answers ++ last

-- the claim of the present entry of the history: that its chain leads to its closure
abbrev pub IsClaimOf : History → Claim → Type 0
IsClaimOf h claim = OfConfiguration h (λ K. claim ≡ claim_by (present_chain h) K)
