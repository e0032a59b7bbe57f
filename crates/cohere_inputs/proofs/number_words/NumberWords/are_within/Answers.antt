use Rattle.std.proofs.Common.{◌∙◌, ap, sym}
use Rattle.std.specs.Prelude.{◌&&◌, nat_le}
use Rattle.std.specs.List.{list_all}
use Rattle.std.proofs.lemmas.List.Folds.{list_all-map}
use Rattle.cohere_inputs.specs.NumberWords.{number_in}
use Rattle.cohere_inputs.specs.Words.{texts}
use Rattle.cohere_inputs.proofs.number_words.NumberWords.are_within.Goals as goal

pub returns : goal.returns
returns c =
    c.are_within.ensures ∙ sym (list_all-map (λ n. nat_le 1 n && nat_le n c.args.limit) number_in (texts c.self.inside.words.now))
    ∙ ap (list_all (λ n. nat_le 1 n && nat_le n c.args.limit)) c.self.view_is
