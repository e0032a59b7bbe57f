use Rattle.std.proofs.Common.{◌≡◌, ◌++◌, Option, ℕ, ap, sym, ◌∙◌}
use Rattle.std.specs.Prelude.{unwrap_or, codes, decimal}
use Rattle.std.proofs.lemmas.Result.{on_ok_weaker}
use Rattle.struct_consts.specs.ClassData.{class_size, valency_of, fibres_of}
use Rattle.pair_colours.specs.IntersectionNumber.{pair_of_class}
use Rattle.report_text.specs.Classes.{spaced_pair, transposed_class}
use Rattle.report_text.proofs.ClassLines.{class_pieces}
use Rattle.report_text.proofs.classes.put_class.Goals as goal

pub returns : goal.returns
returns c =
    let K = c.args.k.now in
    let k = c.args.class in
    let transpose : c.transpose.result ≡ transposed_class K k = sym (ap (λ (o : Option ℕ). unwrap_or o 0) c.transpose.ensures.first) in
    let pair : c.pair.result ≡ pair_of_class K k = sym (ap (λ (o : Option (ℕ × ℕ)). unwrap_or o (0, 0)) c.pair.ensures.first) in
    on_ok_weaker c.put.result
    (λ last. class_pieces c.args.text.now c.put_field.new.self c.put_field-2.new.self c.put_field-3.new.self c.put_field-4.new.self c.put_pair.new.text c.put_pair-2.new.text c.put.new.self
    (codes "class ") (decimal k) (codes " size ") (decimal (class_size K k)) (codes " valency ") (decimal (valency_of K k))
    (codes " transpose ") (decimal (transposed_class K k)) (codes " pair ") (spaced_pair (pair_of_class K k)) (codes " fibres ") (spaced_pair (fibres_of K k)) (codes "\n")
    c.in_ok-put_field.ensures
    (c.in_ok-put_field-2.ensures ∙ ap (λ n. c.put_field.new.self ++ codes " size " ++ decimal n) c.size.ensures)
    (c.in_ok-put_field-3.ensures ∙ ap (λ n. c.put_field-2.new.self ++ codes " valency " ++ decimal n) c.valency.ensures.number)
    (c.in_ok-put_field-4.ensures ∙ ap (λ n. c.put_field-3.new.self ++ codes " transpose " ++ decimal n) transpose)
    (c.in_ok-put_pair.ensures ∙ ap (λ p. c.put_field-4.new.self ++ codes " pair " ++ spaced_pair p) pair)
    (c.in_ok-put_pair-2.ensures ∙ ap (λ p. c.put_pair.new.text ++ codes " fibres " ++ spaced_pair p) c.fibres.ensures.first)
    last)
    c.put.ensures
