-- How two outputs of one script may differ: in the steps of traces of version 1.
use Rattle.std.specs.Prelude.{◌≡◌, ◌≢◌, ◌++◌, ℕ, List, [], ◌∷◌}
use Rattle.pair_colours.specs.Colouring.{PairColouring}
use Rattle.trace_text.specs.declared.stage_list.Stage.{Stage}
use Rattle.trace_text.specs.TraceText.{trace_text}
use Rattle.recolour_bench.specs.EntryChains.{claim_by}
use Rattle.recolour_bench.specs.History.{stage_colours}
use Rattle.script_text.specs.declared.acts.Act.{Act}
use Rattle.script_text.specs.declared.acts.Act.TheVariants.{Trace}
use Rattle.script_text.specs.declared.acts.Line.{Line}

-- the texts of two claims that one colouring is the closure, by chains that have the same colours stage by stage
pub record AreTracesOfOne (t u : List ℕ) : Type 0 where
  pub closure : PairColouring
  pub chain : List Stage
  pub other : List Stage
  pub colours : stage_colours chain ≡ stage_colours other
  pub text : t ≡ trace_text (claim_by chain closure)
  pub other_text : u ≡ trace_text (claim_by other closure)

-- two answers of one act: equal, unless the act asks for a trace of version 1, and then traces of one closure
pub record Agree (act : Act) (t u : List ℕ) : Type 0 where
  pub same : act ≢ Trace 1 → t ≡ u
  pub traces : act ≡ Trace 1 → AreTracesOfOne t u

-- two texts that are the answers of the lines, one after the other
abbrev pub AgreeLineByLine : List Line → List ℕ → List ℕ → Type 0
AgreeLineByLine [] t u = (t ≡ []) × (u ≡ [])
AgreeLineByLine (line ∷ lines) t u =
    (first : List ℕ) × (other : List ℕ) × (rest : List ℕ) × (others : List ℕ) × Agree line.act first other × AgreeLineByLine lines rest others × (t ≡ first ++ rest) × (u ≡ other ++ others)
