-- What the end of the last stage says of a claim.
use Rattle.std.proofs.Common.{◌≡◌, ℕ, ◌≤◌, length, sym, subst}
use Rattle.std.specs.Prelude.{Some}
use Rattle.pair_colours.specs.Closure.{Coherent}
use Rattle.pair_colours.specs.Naming.{named_of, rank_of}
use Rattle.trace_text.specs.declared.check_words.CheckWord.{CheckWord}
use Rattle.trace_text.specs.declared.stage_list.Claim.{Claim}
use Rattle.trace_text.specs.Chains.{StageEnd}
use Rattle.trace_text.specs.BadLines.{IsFirstBadLine, closure_line}
use Rattle.trace_text.proofs.StageLoops.{GoneThrough, gone_ended, bad_at_end}
use Rattle.trace_check.specs.Ends.{EndFails}
use Rattle.trace_check.specs.Verdict.{IsAccepted}

-- it is coherent, and the claimed closure is its naming
pub accepted_at : (claim : Claim) (i line steps points rank : ℕ) (last : StageEnd) → length claim.chain ≤ i → GoneThrough claim.chain i (Some last) line steps
    → Coherent last.partition → claim.closure ≡ named_of last.partition → points ≡ claim.closure.size → rank ≡ rank_of claim.closure
    → IsAccepted claim points rank steps
accepted_at claim i line steps points rank last l g h k p r =
    let end = gone_ended claim i last line steps l g in
    record {
      accepts = record { last = last; ends = end.0; stages = end.3; coherent = h; named = k };
      size = p;
      classes = r;
      counted = end.2;
    }

-- or one of the two fails
pub refused_at : (claim : Claim) (i line steps : ℕ) (last : StageEnd) (word : CheckWord) → length claim.chain ≤ i → GoneThrough claim.chain i (Some last) line steps
    → EndFails last.partition claim.closure word → IsFirstBadLine claim line word
refused_at claim i line steps last word l g f =
    let end = gone_ended claim i last line steps l g in
    subst (λ n. IsFirstBadLine claim n word) (sym end.1) (bad_at_end claim last word end.3 end.0 (f (closure_line claim) last.colours))
