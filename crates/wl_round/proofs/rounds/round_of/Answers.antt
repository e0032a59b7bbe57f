use Rattle.wl_round.proofs.Coming.{IsComing-start}
use Rattle.wl_round.proofs.rounds.round_of.Goals as goal

pub round_from-requires-clause-coming : goal.round_from-requires-clause-coming
round_from-requires-clause-coming c = IsComing-start c.args.colouring.now c.in_ok-hashes.hashes c.in_ok-start.start c.in_ok-hashes.ensures c.in_ok-start.ensures
