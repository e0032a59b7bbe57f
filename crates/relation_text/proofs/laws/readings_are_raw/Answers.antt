use Rattle.relation_text.proofs.LawProofs.{reading_is_raw}
use Rattle.relation_text.proofs.laws.readings_are_raw.Goals as goal

pub returns : goal.returns
returns c = reading_is_raw
