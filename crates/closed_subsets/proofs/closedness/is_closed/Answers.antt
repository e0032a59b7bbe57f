use Rattle.std.proofs.lemmas.Bool.{both_ways}
use Rattle.closed_subsets.proofs.Masked.{by_mask, from_mask}
use Rattle.closed_subsets.proofs.closedness.is_closed.Goals as goal

pub returns-then-not-has_diagonals : goal.returns-then-not-has_diagonals
returns-then-not-has_diagonals c = (
  λ e. cc,
  λ s. absurd (both_ways _ c.if-not-has_diagonals.true (c.has_diagonals.ensures.1 (by_mask c.args.k.now c.rank-rank.ensures.configuration c.args.mask s).diagonals)),
)

pub returns-then-not-has_transposes : goal.returns-then-not-has_transposes
returns-then-not-has_transposes c = (
  λ e. cc,
  λ s. absurd (both_ways _ c.if-not-has_transposes.true (c.has_transposes.ensures.1 (by_mask c.args.k.now c.rank-rank.ensures.configuration c.args.mask s).transposes)),
)

pub returns : goal.returns
returns c = (
  λ t. from_mask c.args.k.now c.rank-rank.ensures.configuration c.args.mask (record {
    diagonals = c.has_diagonals.ensures.0 c.if-not-has_diagonals.false;
    transposes = c.has_transposes.ensures.0 c.if-not-has_transposes.false;
    products = c.has_products.ensures.0 t;
  }),
  λ s. c.has_products.ensures.1 (by_mask c.args.k.now c.rank-rank.ensures.configuration c.args.mask s).products,
)
