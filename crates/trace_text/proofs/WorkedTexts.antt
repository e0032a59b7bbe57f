-- Worked texts: each is computed from the definitions.
use Rattle.std.proofs.Common.{◌≡◌, [], ◌∷◌, length, refl, ap, arith}
use Rattle.std.specs.Prelude.{codes, Some, None}
use Rattle.std.proofs.lemmas.Fmt.{decimal_digit}
use Rattle.trace_text.specs.declared.stage_list.Claim.{Claim}
use Rattle.trace_text.specs.declared.step_list.Step.TheVariants.{Diag, Round}
use Rattle.trace_text.specs.declared.trace_faults.TraceWord.TheVariants.{Head, Points, Row, Body, End, Extra}
use Rattle.trace_text.specs.TraceText.{trace_text}
use Rattle.trace_text.specs.TraceFault.{trace_fault}

-- two points that the step D 0 parts from the pairs between them
abbrev two_points : Claim
two_points = record {
  version = 1;
  chain = record { colours = record { size = 2; colours = 7 ∷ 7 ∷ 7 ∷ 7 ∷ [] }; steps = Diag 0 ∷ [] } ∷ [];
  closure = record { size = 2; colours = 0 ∷ 1 ∷ 1 ∷ 0 ∷ [] };
}

written : trace_text two_points ≡ codes "trace 1\npoints 2\nstage\n7 7\n7 7\nD 0\nclosure\n0 1\n1 0\nend\n"
written = rw (decimal_digit 2 (omega arith), decimal_digit 7 (omega arith), decimal_digit 0 (omega arith), decimal_digit 1 (omega arith)) refl

short : length (trace_text two_points) ≡ 55
short = ap length written

-- in version 2 a round parts them
abbrev two_points_round : Claim
two_points_round = record {
  version = 2;
  chain = record { colours = record { size = 2; colours = 7 ∷ 7 ∷ 7 ∷ 7 ∷ [] }; steps = Round ∷ [] } ∷ [];
  closure = record { size = 2; colours = 0 ∷ 1 ∷ 1 ∷ 0 ∷ [] };
}

written_round : trace_text two_points_round ≡ codes "trace 2\npoints 2\nstage\n7 7\n7 7\nR\nclosure\n0 1\n1 0\nend\n"
written_round = rw (decimal_digit 2 (omega arith), decimal_digit 7 (omega arith), decimal_digit 0 (omega arith), decimal_digit 1 (omega arith)) refl

good_round : trace_fault (codes "trace 2\npoints 2\nstage\n7 7\n7 7\nR\nclosure\n0 1\n1 0\nend\n") ≡ None
good_round = refl

all_steps : trace_fault (codes "trace 2\npoints 1\nstage\n0\nR\nD 0\nF 0 1\nT 0 1 2\nR\nclosure\n0\nend\n") ≡ None
all_steps = refl

named_round : trace_fault (codes "trace 2\npoints 1\nstage\n0\nR\nR 0\n") ≡ Some (6, Body)
named_round = refl

leading_zero : trace_fault (codes "trace 02\npoints 1\n") ≡ Some (1, Head)
leading_zero = refl

good : trace_fault (codes "trace 1\npoints 2\nstage\n7 7\n7 7\nD 0\nclosure\n0 1\n1 0\nend\n") ≡ None
good = refl

no_end : trace_fault (codes "trace 1\npoints 2\nstage\n7 7\n7 7\nD 0\nclosure\n0 1\n1 0\n") ≡ Some (10, End)
no_end = refl

other_head : trace_fault (codes "trace 9\npoints 2\nstage\n7 7\n7 7\nD 0\nclosure\n0 1\n1 0\nend\n") ≡ Some (1, Head)
other_head = refl

round_step : trace_fault (codes "trace 1\npoints 2\nstage\n7 7\n7 7\nR\nclosure\n0 1\n1 0\nend\n") ≡ Some (6, Body)
round_step = refl

no_points : trace_fault (codes "trace 1\npoints 0\n") ≡ Some (2, Points)
no_points = refl

empty : trace_fault [] ≡ Some (1, Head)
empty = refl

two_spaces : trace_fault (codes "trace 1\npoints 1\nstage\n0 \n") ≡ Some (4, Row)
two_spaces = refl

great_colour : trace_fault (codes "trace 1\npoints 1\nstage\n1048576\n") ≡ Some (4, Row)
great_colour = refl

one_more : trace_fault (codes "trace 1\npoints 1\nstage\n0\nclosure\n0\nend\n\n") ≡ Some (8, Extra)
one_more = refl

carriage_returns : trace_fault (codes "trace 1\r\npoints 1\r\nstage\r\n0\r\nclosure\r\n0\r\nend") ≡ None
carriage_returns = refl
