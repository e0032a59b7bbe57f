use Rattle.std.proofs.Common.{◌≡◌, ◌++◌, sym, subst, ◌∙◌}
use Rattle.std.specs.Prelude.{codes, decimal}
use Rattle.std.proofs.lemmas.Result.{on_ok_weaker}
use Rattle.report_text.specs.declared.matrices.MatrixHead.{MatrixHead}
use Rattle.report_text.specs.Matrices.{head_line}
use Rattle.report_text.proofs.HeadLines.{head_pieces}
use Rattle.report_text.proofs.matrices.put_head.Goals.{in-Show+in_ok-put_field-in-Show+in_ok-put_field-in-Show-2, in-Raw+in_ok-put_field-in-Raw+in_ok-put_field-in-Raw-2, in-Quotient+in_ok-put_field-in-Quotient+in_ok-put_field-in-Quotient-2, in-Sub+in_ok-put_field-in-Sub+in_ok-put_field-in-Sub-2}
use Rattle.report_text.proofs.matrices.put_head.Goals as goal

pub returns : goal.returns
returns c =
    let Line = λ (head : MatrixHead). c.put.new.self ≡ c.args.text.now ++ head_line head c.args.points c.args.colours in
    on_ok_weaker c.put.result
    (λ last. elim c.match-head.branch [
      | in-Show+in_ok-put_field-in-Show+in_ok-put_field-in-Show-2 w ↦
          subst Line (sym w.in-Show.is)
          (head_pieces c.args.text.now _ _ c.put.new.self (codes "show points ") (decimal c.args.points) (codes " rank ") (decimal c.args.colours) (codes "\n")
          w.in_ok-put_field-in-Show.ensures (w.text-is ∙ w.in_ok-put_field-in-Show-2.ensures) last)
      | in-Raw+in_ok-put_field-in-Raw+in_ok-put_field-in-Raw-2 w ↦
          subst Line (sym w.in-Raw.is)
          (head_pieces c.args.text.now _ _ c.put.new.self (codes "raw points ") (decimal c.args.points) (codes " colours ") (decimal c.args.colours) (codes "\n")
          w.in_ok-put_field-in-Raw.ensures (w.text-is ∙ w.in_ok-put_field-in-Raw-2.ensures) last)
      | in-Quotient+in_ok-put_field-in-Quotient+in_ok-put_field-in-Quotient-2 w ↦
          subst Line (sym w.in-Quotient.is)
          (head_pieces c.args.text.now _ _ c.put.new.self (codes "quotient points ") (decimal c.args.points) (codes " rank ") (decimal c.args.colours) (codes "\n")
          w.in_ok-put_field-in-Quotient.ensures (w.text-is ∙ w.in_ok-put_field-in-Quotient-2.ensures) last)
      | in-Sub+in_ok-put_field-in-Sub+in_ok-put_field-in-Sub-2 w ↦
          subst Line (sym w.in-Sub.is)
          (head_pieces c.args.text.now _ _ c.put.new.self (codes "sub points ") (decimal c.args.points) (codes " rank ") (decimal c.args.colours) (codes "\n")
          w.in_ok-put_field-in-Sub.ensures (w.text-is ∙ w.in_ok-put_field-in-Sub-2.ensures) last)
    ])
    c.put.ensures
