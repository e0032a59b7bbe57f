use Rattle.std.proofs.Common.{◌≡◌, ◌≢◌, List, length, ◌+◌, Err, IfErr, inl, inr, refl, sym, ap, subst, ◌∙◌, arith}
use Rattle.std.proofs.lemmas.List.FromFn.{length-map-range_with_len}
use Rattle.std.proofs.lemmas.Result.{err_from_is_err_and}
use Rattle.pair_colours.specs.Colouring.{IsRawColouring, Refines}
use Rattle.recolour_bench.specs.declared.edits.EditFault.TheVariants.{NoMemory}
use Rattle.recolour_bench.specs.Edits.{edit_of}
use Rattle.recolour_bench.specs.Recolouring.{IsEdited}
use Rattle.recolour_bench.specs.History.{History}
use Rattle.trace_text.specs.declared.stage_list.Stage.{Stage}
use Rattle.recolour_bench.specs.declared.kept.Kept.{Kept}
use Rattle.recolour_bench.specs.Kept.{IsKeptHistory, entry_kept, history_of}
use Rattle.recolour_bench.specs.Steps.{edits, EditStep, IsRefused}
use Rattle.recolour_bench.proofs.Keeping.{IsPresentEntry, IsMadeBy, IsPresentEntry-read, IsRefused-kept, IsForced-present, between, EditStep-kept, IsKeptHistory-edited}
use Rattle.recolour_bench.proofs.RawEdits.{IsRawColouring-made}
use Rattle.recolour_bench.proofs.history.Bench.edit.Goals as goal

pub index-requires : goal.index-requires
index-requires c = omega (arith, c.self.invariant.history.inside, length-map-range_with_len (entry_kept c.self.inside.stages.items c.self.inside.kept.items) 0 (length c.self.inside.stages.items))

pub index-now-requires : goal.index-now-requires
index-now-requires c =
    omega (arith, c.self.invariant.history.inside, c.self.invariant.lengths, length-map-range_with_len (entry_kept c.self.inside.stages.items c.self.inside.kept.items) 0 (length c.self.inside.stages.items))

pub next_by-requires-clause-closure : goal.next_by-requires-clause-closure
next_by-requires-clause-closure c = (IsPresentEntry-read c.self.inside.stages.items c.self.inside.kept.items c.self.inside.position c.index.result.now c.index-now.result.now c.self.invariant c.index.ensures c.index-now.ensures).of.closure

-- the fault of what the edit makes is passed on
passed : (c : goal.After-from_residual) → c.from_residual.result ≡ Err c.in_err-raw.field-0.0
passed c = let out = err_from_is_err_and c.from_residual.result c.from_residual.ensures.1 in out.1 ∙ ap Err out.2

refused : (c : goal.After-from_residual) → c.in_err-raw.field-0.0 ≢ NoMemory → IsRefused c.args.self.now (edits (edit_of c.args.edit.now)) c.in_err-raw.field-0.0
refused c ne =
    subst (λ h. IsRefused h (edits (edit_of c.args.edit.now)) c.in_err-raw.field-0.0) c.self.view_is
    (IsRefused-kept c.self.inside.stages.items c.self.inside.kept.items c.self.inside.position c.index.result.now c.index-now.result.now (edit_of c.args.edit.now) c.in_err-raw.field-0.0 (IsPresentEntry-read c.self.inside.stages.items c.self.inside.kept.items c.self.inside.position c.index.result.now c.index-now.result.now c.self.invariant c.index.ensures c.index-now.ensures) (c.in_err-raw.ensures.refused ne))

pub returns-in_err-raw-clause-refused : goal.returns-in_err-raw-clause-refused
returns-in_err-raw-clause-refused c =
    subst (λ r. IfErr r (λ fault. fault ≢ NoMemory → IsRefused c.args.self.now (edits (edit_of c.args.edit.now)) fault)) (sym (passed c)) (refused c)

pub returns-in_err-raw-clause-step : goal.returns-in_err-raw-clause-step
returns-in_err-raw-clause-step c = λ other. inr (record { fault = c.in_err-raw.field-0.0; refused = refused c (λ e. other (passed c ∙ ap Err e)); same = refl })

pub made_by-requires-clause-sizes : goal.made_by-requires-clause-sizes
made_by-requires-clause-sizes c = λ r.
    (between c.self.inside.stages.items c.self.inside.kept.items c.self.inside.position c.index.result.now c.index-now.result.now (IsPresentEntry-read c.self.inside.stages.items c.self.inside.kept.items c.self.inside.position c.index.result.now c.index-now.result.now c.self.invariant c.index.ensures c.index-now.ensures)).refines.sizes ∙ sym r.sizes

pub made_by-requires-clause-forced : goal.made_by-requires-clause-forced
made_by-requires-clause-forced c = λ r. IsForced-present c.self.inside.stages.items c.self.inside.kept.items c.self.inside.position c.index.result.now c.index-now.result.now c.in_ok-raw.raw (IsPresentEntry-read c.self.inside.stages.items c.self.inside.kept.items c.self.inside.position c.index.result.now c.index-now.result.now c.self.invariant c.index.ensures c.index-now.ensures) r

pub made_by-requires-clause-refines : goal.made_by-requires-clause-refines
made_by-requires-clause-refines c = λ e.
    let m = c.in_ok-raw.ensures.made in
    let is : c.in_ok-raw.raw ≡ m.closure = subst (λ a. IsEdited c.index.result.now.colours m.closure m.factor a c.in_ok-raw.raw) e m.edited in
    subst (λ R. Refines R c.index.result.now.colours) (sym is) m.is_closure.closure.refines

pub put_after-requires-clause-stages : goal.put_after-requires-clause-stages
put_after-requires-clause-stages c = (IsPresentEntry-read c.self.inside.stages.items c.self.inside.kept.items c.self.inside.position c.index.result.now c.index-now.result.now c.self.invariant c.index.ensures c.index-now.ensures).low

pub put_after-requires-clause-kept : goal.put_after-requires-clause-kept
put_after-requires-clause-kept c = (IsPresentEntry-read c.self.inside.stages.items c.self.inside.kept.items c.self.inside.position c.index.result.now c.index-now.result.now c.self.invariant c.index.ensures c.index-now.ensures).low_kept

here : (c : goal.After-self-1) → IsPresentEntry c.self.inside.stages.items c.self.inside.kept.items c.self.inside.position c.index.result.now c.index-now.result.now
here c = IsPresentEntry-read c.self.inside.stages.items c.self.inside.kept.items c.self.inside.position c.index.result.now c.index-now.result.now c.self.invariant c.index.ensures c.index-now.ensures

raw : (c : goal.After-self-1) → IsRawColouring c.in_ok-raw.raw
raw c = IsRawColouring-made c.index.result.now.colours c.self.inside.position (edit_of c.args.edit.now) c.in_ok-raw.raw (here c).sound.raw c.in_ok-raw.ensures.made

by : (c : goal.After-self-1) → IsMadeBy c.index.result.now.colours c.index-now.result.now c.self.inside.position c.in_ok-raw.raw c.in_ok-stage.field-0
by c = record { colours = c.in_ok-stage.ensures.colours; closure = c.in_ok-stage.ensures.closure; goes_on = c.in_ok-stage.ensures.goes_on; starts = c.in_ok-stage.ensures.starts }

-- the edit is accepted
step : (c : goal.After-self-1) → EditStep (history_of c.self.inside.stages.items c.self.inside.kept.items c.self.inside.position) (edit_of c.args.edit.now) (history_of c.put_after.new.stages.items c.put_after.new.kept.items (c.self.inside.position + 1))
step c =
    EditStep-kept c.self.inside.stages.items c.put_after.new.stages.items c.self.inside.kept.items c.put_after.new.kept.items c.self.inside.position c.index.result.now c.index-now.result.now (edit_of c.args.edit.now)
    c.in_ok-raw.raw c.in_ok-stage.field-0 (here c) c.in_ok-raw.ensures.made (raw c).fits.colouring (by c) c.in_ok-put_after.ensures.stage c.in_ok-put_after.ensures.entry

pub invariant_of-self-2 : goal.invariant_of-self-2
invariant_of-self-2 c =
    IsKeptHistory-edited c.self.inside.stages.items c.put_after.new.stages.items c.self.inside.kept.items c.put_after.new.kept.items c.self.inside.position c.index.result.now c.index-now.result.now (edit_of c.args.edit.now)
    c.in_ok-raw.raw c.in_ok-stage.field-0 c.self.invariant (here c) (step c) (raw c).fits.colouring (by c) c.in_ok-put_after.ensures.stage c.in_ok-put_after.ensures.entry

-- as callers see it
accepted : (c : goal.After-self-1) → EditStep c.args.self.now (edit_of c.args.edit.now) (history_of c.put_after.new.stages.items c.put_after.new.kept.items (c.self.inside.position + 1))
accepted c =
    subst (λ (h : History). EditStep h (edit_of c.args.edit.now) (history_of c.put_after.new.stages.items c.put_after.new.kept.items (c.self.inside.position + 1)))
    c.self.view_is (step c)

pub returns-clause-accepted : goal.returns-clause-accepted
returns-clause-accepted c = accepted c

pub returns-clause-step : goal.returns-clause-step
returns-clause-step c = λ _. inl (accepted c)

pub returns-clause-within : goal.returns-clause-within
returns-clause-within c = (invariant_of-self-2 c).history

pub next_by-requires-clause-within : goal.next_by-requires-clause-within
next_by-requires-clause-within c = c.requires

pub made_by-requires-clause-closed : goal.made_by-requires-clause-closed
made_by-requires-clause-closed c = c.in_ok-raw.ensures.closed

-- where there was no room, nothing has changed
pub invariant_of-self : goal.invariant_of-self
invariant_of-self c =
    let same = c.in_err-put_after.ensures in
    subst (λ (l : List Stage). IsKeptHistory l c.put_after.new.kept.items c.self.inside.position) (sym same.no_stage)
    (subst (λ (l : List Kept). IsKeptHistory c.self.inside.stages.items l c.self.inside.position) (sym same.no_entry) c.self.invariant)
