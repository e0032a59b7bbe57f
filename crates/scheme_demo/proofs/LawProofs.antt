-- The laws.
use Rattle.scheme_demo.specs.Law.{DemoRelationIsRaw, DemoLinesAreScript}
use Rattle.scheme_demo.proofs.DemoRows as rows
use Rattle.scheme_demo.proofs.DemoScript as script

pub demo_relation_is_raw : DemoRelationIsRaw
demo_relation_is_raw = rows.demo_relation_is_raw

pub demo_lines_are_script : DemoLinesAreScript
demo_lines_are_script = script.demo_lines_are_script
