use Rattle.std.proofs.Common.{◌≡◌, ◌++◌, [], ◌∷◌, sym, ap, subst, ◌∙◌}
use Rattle.pair_colours.specs.Colouring.{IsRawColouring}
use Rattle.recolour_bench.specs.History.{Starts}
use Rattle.recolour_bench.specs.Kept.{history_of, IsKeptHistory}
use Rattle.recolour_bench.proofs.Keeping.{IsKeptHistory-first, Starts-kept}
use Rattle.recolour_bench.proofs.history.Bench.new.Goals as goal

raw : (c : goal.In_ok-push-2) → IsRawColouring c.args.raw
raw c = record { fits = c.in_ok-made.ensures.within; raw = c.requires }

stages : (c : goal.In_ok-push-2) → c.push.new.self.items ≡ c.in_ok-made.made.stage ∷ []
stages c = c.in_ok-push.ensures.items ∙ ap (λ xs. xs ++ c.in_ok-made.made.stage ∷ []) c.new-stages.ensures.items

kept : (c : goal.In_ok-push-2) → c.push-2.new.self.items ≡ c.in_ok-made.made.kept ∷ []
kept c = c.in_ok-push-2.ensures.items ∙ ap (λ xs. xs ++ c.in_ok-made.made.kept ∷ []) c.new-kept.ensures.items

pub invariant_of-result : goal.invariant_of-result
invariant_of-result c =
    subst (λ xs. IsKeptHistory xs c.push-2.new.self.items 0) (sym (stages c))
    (subst (λ ys. IsKeptHistory (c.in_ok-made.made.stage ∷ []) ys 0) (sym (kept c))
    (IsKeptHistory-first c.args.raw c.in_ok-made.made (raw c) c.in_ok-made.ensures.colours c.in_ok-made.ensures.closure c.in_ok-made.ensures.made))

pub returns-clause-started : goal.returns-clause-started
returns-clause-started c =
    subst (λ xs. Starts c.args.raw (history_of xs c.push-2.new.self.items 0)) (sym (stages c))
    (subst (λ ys. Starts c.args.raw (history_of (c.in_ok-made.made.stage ∷ []) ys 0)) (sym (kept c))
    (Starts-kept c.args.raw c.in_ok-made.made (raw c) c.in_ok-made.ensures.colours c.in_ok-made.ensures.made))

pub returns-clause-within : goal.returns-clause-within
returns-clause-within c = (invariant_of-result c).history
