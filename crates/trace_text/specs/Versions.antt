-- The versions of the format: the step `R` came with the second.
use Rattle.std.specs.Prelude.{◌≡◌, ◌≤◌, ℕ, ⊤}
use Rattle.std.specs.List.{AllByRecursion}
use Rattle.trace_text.specs.declared.step_list.Step.{Step}
use Rattle.trace_text.specs.declared.step_list.Step.TheVariants.{Diag, Flip, Tri, Round}
use Rattle.trace_text.specs.declared.stage_list.Claim.{Claim}

-- version 1 or 2
pub record IsVersion (version : ℕ) : Type 0 where
  pub least : 1 ≤ version
  pub most : version ≤ 2

-- a version has this step
abbrev pub HasStep : ℕ → Step → Type 0
HasStep version (Diag k) = ⊤
HasStep version (Flip k other) = ⊤
HasStep version (Tri k left right) = ⊤
HasStep version Round = version ≡ 2

-- the claim is of a version that has all its steps
pub record IsVersioned (claim : Claim) : Type 0 where
  pub version : IsVersion claim.version
  pub steps : AllByRecursion (λ stage. AllByRecursion (HasStep claim.version) stage.steps) claim.chain
