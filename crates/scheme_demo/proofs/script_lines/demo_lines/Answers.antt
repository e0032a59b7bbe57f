use Rattle.std.proofs.Common.{rules, ◌≡◌, List, sym, subst}
use Rattle.script_text.specs.declared.acts.Line.{Line}
use Rattle.script_text.specs.Script.{IsScript}
use Rattle.scheme_demo.specs.Demonstration.{demo_lines_of, demo_text}
use Rattle.scheme_demo.proofs.DemoScript.{demo_lines_are_script}
use Rattle.scheme_demo.proofs.script_lines.demo_lines.Goals as goal

pub returns-clause-script : goal.returns-clause-script
returns-clause-script c =
    let is : c.in_ok-lines.lines.items ≡ demo_lines_of = search rules in
    subst (λ (lines : List Line). IsScript demo_text lines) (sym is) demo_lines_are_script
