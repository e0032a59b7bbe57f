-- The acts that only ask.
use Rattle.std.specs.Prelude.{Bool, true, false}
use Rattle.script_text.specs.declared.acts.Act.{Act}
use Rattle.script_text.specs.declared.acts.Act.TheVariants.{Set, Both, Fix, Join, Adopt, Fuse, Direct, Wreath, Undo, Redo}

-- all but the edits, the undo and the redo
abbrev pub is_query : Act → Bool
is_query (Set x y colour) = false
is_query (Both x y colour) = false
is_query (Fix x) = false
is_query (Join keep gone) = false
is_query Adopt = false
is_query (Fuse string) = false
is_query (Direct file) = false
is_query (Wreath file) = false
is_query Undo = false
is_query Redo = false
is_query _ = true
