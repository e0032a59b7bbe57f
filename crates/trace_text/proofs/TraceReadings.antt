-- Each text has one reading or one fault.
use Rattle.std.proofs.Common.{◌≡◌, ℕ, ◌*◌, List, [], ◌∷◌, map, Option, Some, None, sym, ap, subst, ◌∙◌, refl}
use Rattle.std.specs.Prelude.{MatchOption, unwrap_or}
use Rattle.std.specs.List.{AllByRecursion}
use Rattle.text_lines.specs.Lines.{lines_of}
use Rattle.text_lines.specs.PointsLine.{points_on}
use Rattle.text_lines.proofs.PointsLine.{points_good, points_back}
use Rattle.trace_text.specs.declared.stage_list.Claim.{Claim}
use Rattle.trace_text.specs.declared.trace_faults.TraceWord.{TraceWord}
use Rattle.trace_text.specs.declared.trace_faults.TraceWord.TheVariants.{Head, Points}
use Rattle.trace_text.specs.TraceText.{trace_text}
use Rattle.trace_text.specs.TraceFault.{at_head, at_points, at_stage, versioned, version_on, sized, fault_from, fault_on, trace_fault}
use Rattle.trace_text.specs.ClaimTexts.{IsTraceStage, FitsTrace, AreTraceLines, IsTraceText}
use Rattle.trace_text.proofs.LineReadings.{version_good, version_back}
use Rattle.trace_text.proofs.RawNumbers.{raw_each, raw_from}
use Rattle.trace_text.proofs.ClaimShown.{version_line, points_line, claim_shown, claim_lines}
use Rattle.trace_text.proofs.LineBytes.{text_lines}
use Rattle.trace_text.proofs.ShownRows.{some_fault}
use Rattle.trace_text.proofs.ShownStages.{chain_shown, chain_clean, first_stage, stages_back, chain_same}

-- the faults after the first line, and after the second
abbrev after_version : List (List ℕ) → Option ℕ → Option (ℕ × TraceWord)
after_version rest version = fault_on 1 at_head (versioned version) (λ next. fault_from 2 next rest)

abbrev after_points : ℕ → List (List ℕ) → Option ℕ → Option (ℕ × TraceWord)
after_points v rest n = fault_on 2 (at_points v) (sized v n) (λ next. fault_from 3 next rest)

-- the lines of a claim have no fault
claim_clean : (claim : Claim) → FitsTrace claim → fault_from 1 at_head (claim_shown claim) ≡ None
claim_clean claim f =
    let v : ℕ = claim.version in
    let n : ℕ = claim.closure.size in
    let c = f.closure.fits.colouring in
    let chain = chain_shown n claim.closure.colours claim.chain in
    ap (after_version (points_line n ∷ chain)) (version_good v f.version)
    ∙ ap (after_points v chain) (points_good n c.has_points f.closure.fits.limit)
    ∙ first_stage v n 3 claim.closure.colours claim.chain f.has_stage
    ∙ chain_clean v n 3 claim.closure.colours claim.chain c.has_points c.has_pairs (raw_each claim.closure f.closure) f.stages

-- lines without a fault are those of a claim
lines_after_points : (v n : ℕ) (version points : List ℕ) (rest : List (List ℕ)) → version_on version ≡ Some v → points_on points ≡ Some n
    → fault_from 3 (at_stage v n) rest ≡ None
    → (claim : Claim) × AreTraceLines (version ∷ points ∷ rest) claim
lines_after_points v n version points rest told p e =
    let first = version_back version v told in
    let size = points_back points n p in
    let r = stages_back v n 3 rest size.some size.few e in
    let claim : Claim = record { version = v; chain = r.chain; closure = record { size = n; colours = r.closure } } in
    let fits : FitsTrace claim = record {
      version = first.known;
      has_stage = r.some refl;
      stages = r.stages;
      closure = raw_from claim.closure (record { has_points = size.some; has_pairs = r.count }) size.few r.small;
    } in
    (claim, record { are = (λ i. first.spelled i ∷ size.spelled i ∷ r.are i) ∙ sym (claim_lines claim fits); fits = fits })

lines_after_version : (v : ℕ) (version : List ℕ) (rest : List (List ℕ)) → version_on version ≡ Some v → fault_from 2 (at_points v) rest ≡ None
    → (claim : Claim) × AreTraceLines (version ∷ rest) claim
lines_after_version v version [] told e =
    let fault : some_fault (2, Points) ≡ None = e in
    absurd cc
lines_after_version v version (points ∷ rest) told e = by (points_on points) refl
  where
    by : (o : Option ℕ) → points_on points ≡ o → (claim : Claim) × AreTraceLines (version ∷ points ∷ rest) claim
    by None p =
        let fault : some_fault (2, Points) ≡ None = sym (ap (after_points v rest) p) ∙ e in
        absurd cc
    by (Some n) p = lines_after_points v n version points rest told p (sym (ap (after_points v rest) p) ∙ e)

lines_claim : (lines : List (List ℕ)) → fault_from 1 at_head lines ≡ None → (claim : Claim) × AreTraceLines lines claim
lines_claim [] e =
    let fault : some_fault (1, Head) ≡ None = e in
    absurd cc
lines_claim (version ∷ rest) e = by (version_on version) refl
  where
    by : (o : Option ℕ) → version_on version ≡ o → (claim : Claim) × AreTraceLines (version ∷ rest) claim
    by None told =
        let fault : some_fault (1, Head) ≡ None = sym (ap (after_version rest) told) ∙ e in
        absurd cc
    by (Some v) told = lines_after_version v version rest told (sym (ap (after_version rest) told) ∙ e)

-- two claims with the same lines are one
claims_same : (a b : Claim) → FitsTrace a → FitsTrace b → claim_shown a ≡ claim_shown b → a ≡ b
claims_same a b f g e =
    let first : version_line a.version ≡ version_line b.version = cc in
    let second : points_line a.closure.size ≡ points_line b.closure.size = cc in
    let third : chain_shown a.closure.size a.closure.colours a.chain ≡ chain_shown b.closure.size b.closure.colours b.chain = cc in
    let version : a.version ≡ b.version = ap (λ o. unwrap_or o 0) (sym (version_good a.version f.version) ∙ ap version_on first ∙ version_good b.version g.version) in
    let fc = f.closure.fits in
    let gc = g.closure.fits in
    let size : a.closure.size ≡ b.closure.size =
    ap (λ o. unwrap_or o 0) (sym (points_good a.closure.size fc.colouring.has_points fc.limit) ∙ ap points_on second ∙ points_good b.closure.size gc.colouring.has_points gc.limit) in
    let stages : AllByRecursion (IsTraceStage a.version a.closure.size) b.chain =
    subst (λ v. AllByRecursion (IsTraceStage v a.closure.size) b.chain) (sym version) (subst (λ n. AllByRecursion (IsTraceStage b.version n) b.chain) (sym size) g.stages) in
    let same = chain_same a.version a.closure.size a.chain b.chain a.closure.colours b.closure.colours fc.colouring.has_points f.stages stages
    fc.colouring.has_pairs (gc.colouring.has_pairs ∙ ap (λ n. n * n) (sym size)) (raw_each a.closure f.closure) (raw_each b.closure g.closure)
    (third ∙ ap (λ n. chain_shown n b.closure.colours b.chain) (sym size)) in
    λ i. record { version = version i; chain = same.chain i; closure = record { size = size i; colours = same.closure i } }

pub reading_has_no_fault : (text : List ℕ) (claim : Claim) → IsTraceText text claim → trace_fault text ≡ None
reading_has_no_fault text claim t = ap (fault_from 1 at_head) (t.lines.are ∙ claim_lines claim t.lines.fits) ∙ claim_clean claim t.lines.fits

pub reading_is_unique : (text : List ℕ) (claim other : Claim) → IsTraceText text claim → IsTraceText text other → claim ≡ other
reading_is_unique text claim other a b =
    claims_same claim other a.lines.fits b.lines.fits (sym (claim_lines claim a.lines.fits) ∙ sym a.lines.are ∙ b.lines.are ∙ claim_lines other b.lines.fits)

pub trace_reads_or_fails : (text : List ℕ)
    → MatchOption (trace_fault text) ((claim : Claim) × IsTraceText text claim) (λ _. (claim : Claim) → ¬ IsTraceText text claim)
trace_reads_or_fails text = by (trace_fault text) refl
  where
    by : (o : Option (ℕ × TraceWord)) → trace_fault text ≡ o
        → MatchOption o ((claim : Claim) × IsTraceText text claim) (λ _. (claim : Claim) → ¬ IsTraceText text claim)
    by None e = let r = lines_claim (map (λ part. part.bytes) (lines_of text)) e in (r.0, record { lines = r.1 })
    by (Some fault) e = λ claim t. let none = sym e ∙ reading_has_no_fault text claim t in cc

pub text_is_read_back : (claim : Claim) → FitsTrace claim → IsTraceText (trace_text claim) claim
text_is_read_back claim f = record { lines = record { are = text_lines claim f; fits = f } }

pub text_is_of_one_claim : (claim other : Claim) → FitsTrace claim → FitsTrace other → trace_text claim ≡ trace_text other → claim ≡ other
text_is_of_one_claim claim other f g e = reading_is_unique (trace_text other) claim other (subst (λ text. IsTraceText text claim) e (text_is_read_back claim f)) (text_is_read_back other g)
