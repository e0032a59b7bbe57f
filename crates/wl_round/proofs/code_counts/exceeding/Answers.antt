use Rattle.std.proofs.Common.{◌≡◌, ◌≤◌, ℕ, ◌+◌, get_or, ◌∙◌, arith}
use Rattle.std.specs.Bool.{OnTrue, OnFalse}
use Rattle.std.proofs.lemmas.Bool.{OnTrue_from, OnFalse_from, OnFalse_at}
use Rattle.wl_round.specs.CodeCounts.{sum_count}
use Rattle.wl_round.proofs.SumCounts.{IfNone-more, IfNone-both, none_exceeds}
use Rattle.wl_round.proofs.code_counts.exceeding.Goals as goal

pub returns-then-up-clause-none : goal.returns-then-up-clause-none
returns-then-up-clause-none c =
    let left = c.args.left.now in
    let right = c.args.right.now in
    let want = c.args.want.now in
    IfNone-more c.exceeding_up.result ((code : ℕ) → sum_count left right code ≤ get_or want code 0) ((code : ℕ) → sum_count left right code ≡ get_or want code 0)
    (none_exceeds left right want c.requires.want) c.exceeding_up.ensures.within

pub returns-then-up-clause-up : goal.returns-then-up-clause-up
returns-then-up-clause-up c =
    let left = c.args.left.now in
    let right = c.args.right.now in
    let want = c.args.want.now in
    let got = c.exceeding_up.new.got in
    let same = λ (w : (code : ℕ) → sum_count left right code ≤ get_or want code 0) (e : (code : ℕ) → get_or got code 0 ≡ sum_count left right code).
    OnTrue_from c.args.up ((code : ℕ) → get_or got code 0 ≡ get_or want code 0) (λ _ code. e code ∙ none_exceeds left right want c.requires.want w code) in
    IfNone-both c.exceeding_up.result ((code : ℕ) → sum_count left right code ≤ get_or want code 0) ((code : ℕ) → get_or got code 0 ≡ sum_count left right code)
    (OnTrue c.args.up ((code : ℕ) → get_or got code 0 ≡ get_or want code 0)) same c.exceeding_up.ensures.within c.exceeding_up.ensures.counted

pub returns-else-up-clause-none : goal.returns-else-up-clause-none
returns-else-up-clause-none c =
    let left = c.args.left.now in
    let right = c.args.right.now in
    let want = c.args.want.now in
    let old = c.args.got.now in
    let new = c.exceeding_down.new.counts in
    let before : (code : ℕ) → get_or old code 0 ≡ get_or want code 0 = OnFalse_at c.if-up.false c.requires.down in
    IfNone-more c.exceeding_down.result ((code : ℕ) → get_or new code 0 + sum_count left right code ≡ get_or old code 0) ((code : ℕ) → sum_count left right code ≡ get_or want code 0)
    (λ e. none_exceeds left right want c.requires.want (λ code. omega (arith, e code, before code))) c.exceeding_down.ensures.left

pub returns-else-up-clause-down : goal.returns-else-up-clause-down
returns-else-up-clause-down c =
    let left = c.args.left.now in
    let right = c.args.right.now in
    let want = c.args.want.now in
    let old = c.args.got.now in
    let new = c.exceeding_down.new.counts in
    let before : (code : ℕ) → get_or old code 0 ≡ get_or want code 0 = OnFalse_at c.if-up.false c.requires.down in
    IfNone-more c.exceeding_down.result ((code : ℕ) → get_or new code 0 + sum_count left right code ≡ get_or old code 0) (OnFalse c.args.up ((code : ℕ) → get_or new code 0 ≡ 0))
    (λ e. OnFalse_from c.args.up ((code : ℕ) → get_or new code 0 ≡ 0) (λ _ code.
    let same = none_exceeds left right want c.requires.want (λ d. omega (arith, e d, before d)) code in
    omega (arith, e code, before code, same))) c.exceeding_down.ensures.left
