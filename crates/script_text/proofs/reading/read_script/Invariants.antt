use Rattle.std.proofs.Common.{◌≡◌, ◌≤◌, take, drop, length}
use Rattle.text_lines.specs.Lines.{lines_of}
use Rattle.script_text.specs.Script.{product_count}
use Rattle.script_text.proofs.ScriptLines.{AreRead}
use Rattle.script_text.proofs.reading.read_script.Given as goal

-- the lines so far are read, and those that are left follow them
abbrev pub invariant-loop-line : goal.invariant-loop-line
invariant-loop-line l = record {
  left : l.line-iterator ≡ drop l.number (lines_of l.bytes);
  within : l.number ≤ length (lines_of l.bytes);
  read : AreRead (take l.number (lines_of l.bytes)) l.script.items;
  products : l.products ≡ product_count l.script.items;
}
