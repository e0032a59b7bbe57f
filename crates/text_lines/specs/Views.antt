-- What the clauses see of the code's parts.
use Rattle.text_lines.specs.declared.text_part.TextPart.{TextPart}
use Rattle.text_lines.specs.Part.{Part}

-- the part that a view shows
abbrev pub part_of : TextPart → Part
part_of view = record { start = view.start; bytes = view.bytes.now }
