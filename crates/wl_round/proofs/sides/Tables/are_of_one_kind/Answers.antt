use Rattle.std.proofs.Common.{◌+◌, ◌*◌, ◌<◌, sym, ◌∙◌, arith}
use Rattle.std.proofs.lemmas.Bool.{OnTrue_from, eqb-true}
use Rattle.std.proofs.lemmas.List.{get_or_read}
use Rattle.pair_colours.proofs.Places.{place_below}
use Rattle.wl_round.specs.Sides.{AreOfOneKind}
use Rattle.wl_round.proofs.SideLemmas.{diagonal_from}
use Rattle.wl_round.proofs.sides.Tables.are_of_one_kind.Goals as goal
use Rattle.wl_round.proofs.sides.Tables.are_of_one_kind.Goals.{then-index-via-then-index, then-index-via-else-index+then-index-2}

pub returns-then-index-clause-no : goal.returns-then-index-clause-no
returns-then-index-clause-no c = λ k.
    let t = c.args.self.now in
    let n = t.size in
    let h = c.requires.tables in
    let p = c.args.a.x * n + c.args.a.y in
    let q = c.args.b.x * n + c.args.b.y in
    let hp : p < n * n = place_below n c.args.a.x c.args.a.y c.requires.first_x c.requires.first_y in
    let hq : q < n * n = place_below n c.args.b.x c.args.b.y c.requires.x c.requires.y in
    elim c.then-index.branch [
      | then-index-via-then-index w ↦
          w.if-index.true
          (get_or_read t.classes.items p c.index.result.now (omega (arith, hp, h.square.len)) c.index.ensures 0
          ∙ k.own
          ∙ sym (get_or_read t.classes.items q c.index-2.result.now (omega (arith, hq, h.square.len)) c.index-2.ensures 0))
      | then-index-via-else-index+then-index-2 w ↦
          w.if-index-2.true
          (get_or_read t.turned.items p w.index-else-index.result.now (omega (arith, hp, h.turned.len)) w.index-else-index.ensures 0
          ∙ k.turned
          ∙ sym (get_or_read t.turned.items q w.index-else-index-2.result.now (omega (arith, hq, h.turned.len)) w.index-else-index-2.ensures 0))
    ]

pub returns-then-index-3-clause-yes : goal.returns-then-index-3-clause-yes
returns-then-index-3-clause-yes c = OnTrue_from _ (AreOfOneKind c.args.self.now c.args.a.x c.args.a.y c.args.b.x c.args.b.y) (λ e.
    let t = c.args.self.now in
    let n = t.size in
    let h = c.requires.tables in
    let p = c.args.a.x * n + c.args.a.y in
    let q = c.args.b.x * n + c.args.b.y in
    let hp : p < n * n = place_below n c.args.a.x c.args.a.y c.requires.first_x c.requires.first_y in
    let hq : q < n * n = place_below n c.args.b.x c.args.b.y c.requires.x c.requires.y in
    record {
      diagonal = diagonal_from c.args.a.x c.args.a.y c.args.b.x c.args.b.y c.if-a-b.false;
      own = sym (get_or_read t.classes.items p c.index.result.now (omega (arith, hp, h.square.len)) c.index.ensures 0)
          ∙ c.if-index.false
          ∙ get_or_read t.classes.items q c.index-2.result.now (omega (arith, hq, h.square.len)) c.index-2.ensures 0;
      turned = sym (get_or_read t.turned.items p c.index-else-index.result.now (omega (arith, hp, h.turned.len)) c.index-else-index.ensures 0)
          ∙ c.if-index-2.false
          ∙ get_or_read t.turned.items q c.index-else-index-2.result.now (omega (arith, hq, h.turned.len)) c.index-else-index-2.ensures 0;
      rows = sym (get_or_read t.row_leads.items c.args.a.x c.index-3.result.now (omega (arith, c.requires.first_x, h.rows.leads_len)) c.index-3.ensures 0)
          ∙ c.if-index-3.true
          ∙ get_or_read t.row_leads.items c.args.b.x c.index-4.result.now (omega (arith, c.requires.x, h.rows.leads_len)) c.index-4.ensures 0;
      columns = sym (get_or_read t.column_leads.items c.args.a.y c.index-then-index-3.result.now (omega (arith, c.requires.first_y, h.columns.leads_len)) c.index-then-index-3.ensures 0)
          ∙ eqb-true _ _ e
          ∙ get_or_read t.column_leads.items c.args.b.y c.index-then-index-3-2.result.now (omega (arith, c.requires.y, h.columns.leads_len)) c.index-then-index-3-2.ensures 0;
    })
