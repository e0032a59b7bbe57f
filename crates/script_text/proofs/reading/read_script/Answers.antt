use Rattle.std.proofs.Common.{◌≡◌, ◌+◌, ◌++◌, take, sym, ap, ◌∙◌, subst}
use Rattle.std.proofs.lemmas.List.{append-nil}
use Rattle.text_lines.specs.Lines.{lines_of}
use Rattle.text_lines.specs.Views.{part_of}
use Rattle.script_text.proofs.ScriptLines.{AreRead, line_for}
use Rattle.script_text.proofs.WholeScript.{line_at, short_line, read_next, count_next, fault_is, all_read, all_keep_limit}
use Rattle.script_text.proofs.reading.read_script.Goals as goal

pub numbered_act-requires : goal.numbered_act-requires
numbered_act-requires c =
    let at = line_at (lines_of c.args.bytes.now) c.loop-line.number (part_of c.in-Some.line) c.next.new.self (sym c.loop-line.invariant.left ∙ c.in-Some.ensures.steps) in
    short_line c.args.bytes.now c.loop-line.number (part_of c.in-Some.line) c.next.new.self at c.requires

pub returns-in-Err-clause-fault : goal.returns-in-Err-clause-fault
returns-in-Err-clause-fault c = λ number what e.
    let at = line_at (lines_of c.args.bytes.now) c.loop-line.number (part_of c.in-Some.line) c.next.new.self (sym c.loop-line.invariant.left ∙ c.in-Some.ensures.steps) in
    let inv = c.loop-line.invariant in
    fault_is c.args.bytes.now c.loop-line.number (part_of c.in-Some.line) c.next.new.self _ c.loop-line.products at inv.read inv.products c.in-Err.fault c.in-Err.ensures.err number what
    (sym c.at_line.ensures ∙ cc)

pub loop-line-preserved-in-Continue-1 : goal.loop-line-preserved-in-Continue-1
loop-line-preserved-in-Continue-1 c =
    let lines = lines_of c.args.bytes.now in
    let place = c.loop-line.number in
    let script = c.loop-line.script.items in
    let at = line_at lines place (part_of c.in-Some.line) c.next.new.self (sym c.loop-line.invariant.left ∙ c.in-Some.ensures.steps) in
    let inv = c.loop-line.invariant in
    let act = c.in-Ok.act in
    let longer : script ++ line_for (place + 1) act ≡ c.push.new.self.items = ap (λ a. script ++ line_for (place + 1) a) c.in-Some-act.is ∙ sym c.in_ok-push.ensures.items in
    record {
      left = at.behind;
      within = at.within;
      read = subst (λ ls. AreRead (take (place + 1) lines) ls) longer
          (read_next lines place (part_of c.in-Some.line) c.next.new.self script c.loop-line.products act at inv.read inv.products c.in-Ok.ensures.ok);
      products = count_next script _ (place + 1) c.loop-line.products _ act c.is_product.result inv.products c.is_product.ensures c.from-products.ensures longer;
    }

pub loop-line-preserved : goal.loop-line-preserved
loop-line-preserved c =
    let lines = lines_of c.args.bytes.now in
    let place = c.loop-line.number in
    let script = c.loop-line.script.items in
    let at = line_at lines place (part_of c.in-Some.line) c.next.new.self (sym c.loop-line.invariant.left ∙ c.in-Some.ensures.steps) in
    let inv = c.loop-line.invariant in
    let act = c.in-Ok.act in
    let same : script ++ line_for (place + 1) act ≡ script = ap (λ a. script ++ line_for (place + 1) a) c.in_default.is ∙ append-nil script in
    record {
      left = at.behind;
      within = at.within;
      read = subst (λ ls. AreRead (take (place + 1) lines) ls) same
          (read_next lines place (part_of c.in-Some.line) c.next.new.self script c.loop-line.products act at inv.read inv.products c.in-Ok.ensures.ok);
      products = count_next script script (place + 1) c.loop-line.products _ act c.is_product.result inv.products c.is_product.ensures c.from-products.ensures same;
    }

pub returns-clause-script : goal.returns-clause-script
returns-clause-script c = (all_read c.args.bytes.now c.loop-line.number _ c.loop-line.invariant.read (sym c.in-None.ensures.steps.0 ∙ c.loop-line.invariant.left)).script_is

pub returns-clause-clean : goal.returns-clause-clean
returns-clause-clean c = (all_read c.args.bytes.now c.loop-line.number _ c.loop-line.invariant.read (sym c.in-None.ensures.steps.0 ∙ c.loop-line.invariant.left)).clean

pub returns-clause-limits : goal.returns-clause-limits
returns-clause-limits c =
    let whole = all_read c.args.bytes.now c.loop-line.number _ c.loop-line.invariant.read (sym c.in-None.ensures.steps.0 ∙ c.loop-line.invariant.left) in
    all_keep_limit _ _ whole.script_is.lines.asked
