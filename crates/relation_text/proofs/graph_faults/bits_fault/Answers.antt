use Rattle.std.proofs.Common.{◌≤◌}
use Rattle.std.proofs.lemmas.List.Elements.{All-drop, All-same}
use Rattle.text_lines.specs.Views.{part_of}
use Rattle.relation_text.proofs.GraphBodies.{from_byte_tests}
use Rattle.relation_text.proofs.graph_faults.bits_fault.Goals as goal

pub has_padding-requires-clause-printable : goal.has_padding-requires-clause-printable
has_padding-requires-clause-printable c =
    All-same (λ b. 63 ≤ b) _ _ c.split_at.ensures.back (All-drop (λ b. 63 ≤ b) c.size_len-2.result c.args.body.bytes.now (from_byte_tests (part_of c.args.body) c.requires.bytes))
