use Rattle.std.proofs.Common.{◌∙◌, sym}
use Rattle.cohere_inputs.proofs.TableNumbers.{fits_array}
use Rattle.cohere_inputs.proofs.table_form.table_words.Goals as goal

pub returns-clause-within : goal.returns-clause-within
returns-clause-within c = fits_array c.in_ok-diameter-2.diameter c.in_ok-numbers.numbers _ _ (sym c.fit.ensures ∙ c.if-not-fit.false) c.split-b.ensures.first c.split-b.ensures.others
