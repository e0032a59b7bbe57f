use Rattle.std.proofs.Common.{◌≢◌, ◌+◌, ◌<◌, ⊎_elim, sym, subst, arith}
use Rattle.std.proofs.lemmas.Bool.{cases_eq}
use Rattle.wl_round.specs.RowCodes.{IsRowTried}
use Rattle.wl_round.proofs.RowCodeLemmas.{tried_as_well}
use Rattle.wl_round.proofs.row_codes.try_rows.Goals as goal

pub loop-x-preserved : goal.loop-x-preserved
loop-x-preserved c =
    let n = c.args.size in
    let class = c.args.class.now in
    let a = c.args.a in
    let x = c.loop-x.x in
    let old = c.loop-x.codes in
    let new = c.try_row.new.codes in
    let e = c.try_row.ensures in
    record {
      leads_len = e.leads_len;
      places_len = e.places_len;
      done = λ y l. ⊎_elim
          (λ same. subst (λ w. IsRowTried n class (a + 1) new.leads.items new.places.items w) (sym same) e.tried)
          (λ (ne : y ≢ x).
          let hy : y < n = omega (arith, l, c.loop-x-test.true) in
          tried_as_well n class (a + 1) old.leads.items old.places.items new.leads.items new.places.items y (e.leads y ne) (λ z hz. e.places y z hy hz ne) (c.loop-x.invariant.done y (omega (arith, l, ne))))
          (cases_eq y x);
      rest = λ y from hy.
          let ne : y ≢ x = omega (arith, from) in
          tried_as_well n class a old.leads.items old.places.items new.leads.items new.places.items y (e.leads y ne) (λ z hz. e.places y z hy hz ne) (c.loop-x.invariant.rest y (omega (arith, from)) hy);
    }
