use Rattle.std.proofs.Common.{◌≡◌, ◌++◌}
use Rattle.std.specs.Prelude.{codes}
use Rattle.std.proofs.lemmas.Result.{on_ok_weaker}
use Rattle.neighbour_answers.proofs.LatticeLines.{lattice_lines}
use Rattle.neighbour_answers.proofs.lattice_texts.put_lattice.Goals as goal

pub returns : goal.returns
returns g c =
    let met = (goal.Visitor-dyn g c.args.fusions.now).met c.args.fusions.now.1 in
    on_ok_weaker c.put-2.result
    (λ (f : c.put-2.new.self ≡ c.put_covers.new.text ++ codes "end\n").
    lattice_lines met c.args.covers.now c.args.text.now c.put_field.new.self c.put_field-2.new.self c.put.new.self c.put_entries.new.text c.put_covers.new.text c.put-2.new.self
    c.len.result c.len-2.result c.len-3.result c.len.ensures c.len-2.ensures c.len-3.ensures
    c.in_ok-put_field.ensures c.in_ok-put_field-2.ensures c.in_ok-put.ensures c.in_ok-put_entries.ensures c.in_ok-put_covers.ensures f)
    c.put-2.ensures
