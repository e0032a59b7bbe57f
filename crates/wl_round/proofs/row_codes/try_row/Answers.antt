use Rattle.std.proofs.Common.{◌≡◌, ◌+◌, List, ℕ, length, set, take, drop, ◌++◌, sym, subst, ◌∙◌, arith}
use Rattle.std.proofs.lemmas.Bool.{OnTrue_at}
use Rattle.std.proofs.lemmas.List.{get_or_read, get_or-set_same}
use Rattle.wl_round.specs.RowCodes.{IsRowTried, IsRowWritten}
use Rattle.wl_round.proofs.OneWrite.{written_back}
use Rattle.wl_round.proofs.RowCodeLemmas.{tried_well}
use Rattle.wl_round.proofs.row_codes.try_row.Goals as goal

pub returns-then-covers-clause-tried : goal.returns-then-covers-clause-tried
returns-then-covers-clause-tried c =
    let n = c.args.size in
    let a = c.args.a in
    let x = c.args.x in
    let leads = c.args.codes.now.leads.items in
    let places = c.args.codes.now.places.items in
    let written = c.write_places.new.places in
    let was = sym (get_or_read leads x c.index.result.now (omega (arith, c.requires.row, c.requires.leads_len)) c.index.ensures 0) ∙ c.if-index-size.true in
    let is = get_or-set_same leads x a 0 (omega (arith, c.requires.row, c.requires.leads_len)) in
    let len = c.args.codes.now.places.len in
    let same : take len (written ++ drop (length written) places) ≡ written = written_back len written places (omega (arith, c.deref_mut.ensures.len, c.write_places.ensures.len)) in
    subst (λ (l : List ℕ). IsRowTried n c.args.class.now (a + 1) (set leads x a) l x) (sym same)
    (tried_well n c.args.class.now a leads places c.args.short.now (set leads x a) written x c.requires.lead was is (OnTrue_at c.if-covers.true c.covers.ensures.yes) c.requires.short
    (subst (λ (l : List ℕ). IsRowWritten n c.args.class.now c.args.short.now x l written) c.deref_mut.ensures.value c.write_places.ensures) c.requires.tried)
