-- A loop over the stages of a chain: what it keeps, and what it meets.
use Rattle.std.proofs.Common.{◌≡◌, ℕ, ◌+◌, ◌<◌, ◌≤◌, List, [], ◌∷◌, ◌++◌, length, get_or, take, drop, sum_by, Option, None, Some, refl, sym, ap, subst, ◌∙◌, arith}
use Rattle.std.proofs.lemmas.List.{take-append-drop, take_more, drop_more, take_all}
use Rattle.std.proofs.lemmas.List.Sums.{sum_by-cons, sum_by_push, sum_by-append}
use Rattle.pair_colours.specs.Colouring.{PairColouring}
use Rattle.pair_colours.specs.Closure.{Coherent}
use Rattle.pair_colours.specs.Naming.{named_of}
use Rattle.trace_text.specs.declared.check_words.CheckWord.{CheckWord}
use Rattle.trace_text.specs.declared.check_words.CheckWord.TheVariants.{StageNotRefining, NotCoherent, WrongClosure}
use Rattle.trace_text.specs.declared.stage_list.Stage.{Stage}
use Rattle.trace_text.specs.declared.stage_list.Claim.{Claim}
use Rattle.trace_text.specs.Split.{Lead}
use Rattle.trace_text.specs.Chains.{StageEnd, Follows, partition_before, stage_start, IsStageOf, stage_end, chain_end, AreStages}
use Rattle.trace_text.specs.Acceptance.{step_count}
use Rattle.trace_text.specs.BadLines.{refines_stage, ends_coherent, names_end, step_conditions, colours_conditions, stage_conditions, line_count_of_stage, chain_conditions, end_conditions, first_line, closure_line, IsFirstFailing, IsFirstBadLine}
use Rattle.trace_text.proofs.Stages.{stage_end-is, AreStages-push, chain_end-push, some_end}
use Rattle.trace_text.proofs.Conditions.{hold_from_follows, hold_from_stages, chain_conditions-append}
use Rattle.trace_text.proofs.Verdicts.{failing_after, failing_before}
use Rattle.trace_text.specs.Ends.{IsEnd}

-- a stage whose colours do not refine those before
pub not_following : (line : ℕ) (before : Option StageEnd) (stage : Stage) → ¬ Follows before stage.colours
    → IsFirstFailing (stage_conditions line before stage) line StageNotRefining
not_following line None stage n = absurd (n tt)
not_following line (Some before) stage n = record {
  before = [];
  condition = refines_stage stage.colours before.colours;
  rest = step_conditions (line + 1 + stage.colours.size) (stage_start (Some before.partition) stage.colours) stage.steps;
  parts = refl;
  hold = tt;
  fails = n;
  says = refl;
}

-- a stage from its start, and where it ends
pub stage_from_start : (before : Option StageEnd) (stage : Stage) (start P : PairColouring) → start ≡ stage_start (partition_before before) stage.colours → Follows before stage.colours
    → Lead stage.steps start P → IsStageOf before stage P
stage_from_start before stage start P e f l = record { follows = f; leads = subst (λ A. Lead stage.steps A P) e l }

pub stage_ends : (before : Option StageEnd) (stage : Stage) (P : PairColouring) → IsStageOf before stage P
    → record { colours = stage.colours; partition = P } ≡ stage_end before stage
stage_ends before stage P d = λ i. record { colours = stage.colours; partition = stage_end-is before stage P d i }

-- a stage with a step that fails
pub stage_fails : (line : ℕ) (before : Option StageEnd) (stage : Stage) (start : PairColouring) (bad : ℕ) (word : CheckWord) → start ≡ stage_start (partition_before before) stage.colours → Follows before stage.colours
    → IsFirstFailing (step_conditions (line + 1 + stage.colours.size) start stage.steps) bad word → IsFirstFailing (stage_conditions line before stage) bad word
stage_fails line before stage start bad word e f n =
    failing_after (colours_conditions line before stage.colours) (step_conditions (line + 1 + stage.colours.size) (stage_start (partition_before before) stage.colours) stage.steps) bad word
    (hold_from_follows line before stage.colours f)
    (subst (λ P. IsFirstFailing (step_conditions (line + 1 + stage.colours.size) P stage.steps) bad word) e n)

-- the first stage that fails
chain_fails_at : (stages : List Stage) (i line bad : ℕ) (word : CheckWord) (stage : Stage) (before : Option StageEnd) → i < length stages
    → line ≡ first_line + sum_by line_count_of_stage (take i stages) → before ≡ chain_end (take i stages) → AreStages None (take i stages)
    → IsFirstFailing (stage_conditions line before (get_or stages i stage)) bad word → IsFirstFailing (chain_conditions first_line None stages) bad word
chain_fails_at stages i line bad word stage before l e b h f =
    let front = take i stages in
    let next = get_or stages i stage in
    let rest = drop (i + 1) stages in
    let place : ℕ = first_line + sum_by line_count_of_stage front in
    let cut : front ++ next ∷ rest ≡ stages = ap (λ xs. take i stages ++ xs) (sym (drop_more stages i stage l)) ∙ take-append-drop i stages in
    subst (λ xs. IsFirstFailing (chain_conditions first_line None xs) bad word) cut
    (subst (λ cs. IsFirstFailing cs bad word) (sym (chain_conditions-append first_line None front (next ∷ rest)))
    (failing_after (chain_conditions first_line None front) (chain_conditions place (chain_end front) (next ∷ rest)) bad word
    (hold_from_stages first_line None front h)
    (failing_before (stage_conditions place (chain_end front) next)
    (chain_conditions (place + line_count_of_stage next) (Some (stage_end (chain_end front) next)) rest) bad word
    (subst (λ n. IsFirstFailing (stage_conditions n (chain_end front) next) bad word) e
    (subst (λ o. IsFirstFailing (stage_conditions line o next) bad word) b f)))))

-- an end that is not coherent, and one with another naming
pub not_coherent_at : (line : ℕ) (last : StageEnd) (K : PairColouring) → ¬ Coherent last.partition → IsFirstFailing (end_conditions line (Some last) K) line NotCoherent
not_coherent_at line last K n = record {
  before = [];
  condition = ends_coherent last.partition;
  rest = (line, names_end K last.partition) ∷ [];
  parts = refl;
  hold = tt;
  fails = n;
  says = refl;
}

pub wrong_closure_at : (line : ℕ) (last : StageEnd) (K : PairColouring) → Coherent last.partition → ¬ (K ≡ named_of last.partition)
    → IsFirstFailing (end_conditions line (Some last) K) line WrongClosure
wrong_closure_at line last K h n = record {
  before = (line, ends_coherent last.partition) ∷ [];
  condition = names_end K last.partition;
  rest = [];
  parts = refl;
  hold = (h, tt);
  fails = n;
  says = refl;
}

pub bad_at_end : (claim : Claim) (last : StageEnd) (word : CheckWord) → AreStages None claim.chain → chain_end claim.chain ≡ Some last
    → IsFirstFailing (end_conditions (closure_line claim) (Some last) claim.closure) (closure_line claim) word → IsFirstBadLine claim (closure_line claim) word
bad_at_end claim last word h e f =
    failing_after (chain_conditions first_line None claim.chain) (end_conditions (closure_line claim) (chain_end claim.chain) claim.closure) (closure_line claim) word
    (hold_from_stages first_line None claim.chain h)
    (subst (λ o. IsFirstFailing (end_conditions (closure_line claim) o claim.closure) (closure_line claim) word) (sym e) f)

-- sums over the stages up to one more
sum_more : (f : Stage → ℕ) (stages : List Stage) (i : ℕ) (d : Stage) → i < length stages → sum_by f (take (i + 1) stages) ≡ sum_by f (take i stages) + f (get_or stages i d)
sum_more f stages i d l = ap (sum_by f) (take_more stages i d l) ∙ sum_by_push f (take i stages) (get_or stages i d)

sum_within : (f : Stage → ℕ) (stages : List Stage) (i : ℕ) (d : Stage) → i < length stages → sum_by f (take i stages) + f (get_or stages i d) ≤ sum_by f stages
sum_within f stages i d l =
    omega (arith, sum_more f stages i d l, sum_by-append f (take (i + 1) stages) (drop (i + 1) stages), ap (sum_by f) (take-append-drop (i + 1) stages))

-- the first i stages were gone through, and the next one begins with this line
pub record GoneThrough (stages : List Stage) (i : ℕ) (before : Option StageEnd) (line steps : ℕ) : Type 0 where
  pub ended : before ≡ chain_end (take i stages)
  pub between : IsEnd before
  pub place : line ≡ first_line + sum_by line_count_of_stage (take i stages)
  pub counted : steps ≡ step_count (take i stages)
  pub are : AreStages None (take i stages)

pub gone_none : (stages : List Stage) → GoneThrough stages 0 None first_line 0
gone_none stages = record { ended = refl; between = tt; place = refl; counted = refl; are = tt }

pub gone_more : (stages : List Stage) (i : ℕ) (before : Option StageEnd) (line steps : ℕ) (stage : Stage) (end : StageEnd) → i < length stages → stage ≡ get_or stages i stage
    → GoneThrough stages i before line steps → end ≡ stage_end before stage → IsStageOf before stage end.partition → IsEnd (Some end)
    → GoneThrough stages (i + 1) (Some end) (line + line_count_of_stage stage) (steps + length stage.steps)
gone_more stages i before line steps stage end l at g e d b =
    let more : take (i + 1) stages ≡ take i stages ++ stage ∷ [] = take_more stages i stage l ∙ ap (λ one. take i stages ++ one ∷ []) (sym at) in
    record {
      ended = ap Some (e ∙ ap (λ o. stage_end o stage) g.ended) ∙ sym (ap chain_end more ∙ chain_end-push (take i stages) stage);
      between = b;
      place = omega (arith, g.place, sum_more line_count_of_stage stages i stage l, ap line_count_of_stage at);
      counted = omega (arith, g.counted, sum_more (λ one. length one.steps) stages i stage l, ap (λ (one : Stage). length one.steps) at);
      are = subst (AreStages None) (sym more) (AreStages-push None (take i stages) stage end.partition g.are (subst (λ o. IsStageOf o stage end.partition) g.ended d));
    }

pub gone_bad : (claim : Claim) (i : ℕ) (before : Option StageEnd) (line steps bad : ℕ) (word : CheckWord) (stage : Stage) → i < length claim.chain → stage ≡ get_or claim.chain i stage
    → GoneThrough claim.chain i before line steps → IsFirstFailing (stage_conditions line before stage) bad word → IsFirstBadLine claim bad word
gone_bad claim i before line steps bad word stage l at g f =
    failing_before (chain_conditions first_line None claim.chain) (end_conditions (closure_line claim) (chain_end claim.chain) claim.closure) bad word
    (chain_fails_at claim.chain i line bad word stage before l g.place g.ended g.are (subst (λ one. IsFirstFailing (stage_conditions line before one) bad word) at f))

-- no line is beyond the line of the claimed closure
pub gone_within : (stages : List Stage) (i : ℕ) (before : Option StageEnd) (line steps : ℕ) (stage : Stage) → i < length stages → stage ≡ get_or stages i stage
    → GoneThrough stages i before line steps → line + line_count_of_stage stage ≤ first_line + sum_by line_count_of_stage stages
gone_within stages i before line steps stage l at g = omega (arith, g.place, sum_within line_count_of_stage stages i stage l, ap line_count_of_stage at)

-- nor are there more steps than lines
steps_within : (stages : List Stage) → step_count stages ≤ sum_by line_count_of_stage stages
steps_within [] = omega arith
steps_within (stage ∷ rest) = omega (arith, steps_within rest, sum_by-cons (λ one. length one.steps) stage rest, sum_by-cons line_count_of_stage stage rest)

pub gone_steps : (stages : List Stage) (i : ℕ) (before : Option StageEnd) (line steps : ℕ) (stage : Stage) → i < length stages → stage ≡ get_or stages i stage
    → GoneThrough stages i before line steps → steps + length stage.steps ≤ sum_by line_count_of_stage stages
gone_steps stages i before line steps stage l at g =
    omega (arith, g.counted, sum_within (λ one. length one.steps) stages i stage l, ap (λ (one : Stage). length one.steps) at, steps_within stages)

-- all stages were gone through
pub gone_ended : (claim : Claim) (i : ℕ) (last : StageEnd) (line steps : ℕ) → length claim.chain ≤ i → GoneThrough claim.chain i (Some last) line steps
    → (chain_end claim.chain ≡ Some last) × (line ≡ closure_line claim) × (steps ≡ step_count claim.chain) × AreStages None claim.chain
gone_ended claim i last line steps l g =
    let e : take i claim.chain ≡ claim.chain = take_all i claim.chain l in (
      sym (g.ended ∙ ap chain_end e),
      g.place ∙ ap (λ xs. first_line + sum_by line_count_of_stage xs) e,
      g.counted ∙ ap step_count e,
      subst (AreStages None) e g.are,
    )

-- and at least one, if there is one
pub gone_some : (stages : List Stage) (i line steps : ℕ) → 1 ≤ length stages → length stages ≤ i → GoneThrough stages i None line steps → ⊥
gone_some [] i line steps some l g = omega (arith, some)
gone_some (stage ∷ rest) i line steps some l g =
    let end = some_end (stage_end None stage) rest in
    let e : None ≡ Some end.0 = g.ended ∙ ap chain_end (take_all i (stage ∷ rest) l) ∙ end.1 in cc
