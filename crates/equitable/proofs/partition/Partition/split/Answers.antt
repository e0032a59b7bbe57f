use Rattle.std.proofs.Common.{length, get_or, sym, ap, ◌∙◌, arith}
use Rattle.std.proofs.lemmas.Bool.{le-leb, leb-true}
use Rattle.equitable.proofs.CellNumbers.{cell_count_used}
use Rattle.equitable.proofs.PartitionLoops.{made_by, room_by, length-keys}
use Rattle.equitable.specs.Equitable.{cell_count}
use Rattle.equitable.proofs.partition.Partition.split.Goals as goal

pub keys_met-requires : goal.keys_met-requires
keys_met-requires c =
    let keys = length-keys c.args.arcs.now c.deref.result.now c.in_ok-keys.keys.items c.args.step c.in_ok-keys.ensures in
    ap length c.deref-3.ensures.value ∙ keys ∙ sym (ap length c.deref-2.ensures.value ∙ ap length c.self.view_is ∙ c.requires.points)

pub parted-requires-clause-points : goal.parted-requires-clause-points
parted-requires-clause-points c =
    let keys = length-keys c.args.arcs.now c.deref.result.now c.in_ok-keys.keys.items c.args.step c.in_ok-keys.ensures in
    ap length c.deref-5.ensures.value ∙ keys ∙ sym (ap length c.deref-4.ensures.value ∙ ap length c.self.view_is ∙ c.requires.points)

pub parted-requires-clause-count : goal.parted-requires-clause-count
parted-requires-clause-count c = sym (cell_count_used c.self.inside.cells.items c.self.inside.count c.self.invariant.numbers)
    ∙ ap cell_count (sym c.deref-4.ensures.value)

pub parted-requires-clause-room : goal.parted-requires-clause-room
parted-requires-clause-room c =
    let room = room_by c.self.inside.cells.items c.deref-2.result.now c.in_ok-met.met.keys c.args.step.cell c.self.inside.count
    (λ x. get_or c.deref-3.result.now x 0) c.self.invariant c.deref-2.ensures.value c.in_ok-met.ensures in
    omega (arith, room)

pub overflow_cast-self : goal.overflow_cast-self
overflow_cast-self c =
    let room = room_by c.self.inside.cells.items c.deref-2.result.now c.in_ok-met.met.keys c.args.step.cell c.self.inside.count
    (λ x. get_or c.deref-3.result.now x 0) c.self.invariant c.deref-2.ensures.value c.in_ok-met.ensures in
    omega (arith, room, c.len-parts.ensures.len)

pub overflow_sub-self : goal.overflow_sub-self
overflow_sub-self c =
    let made = made_by c.args.arcs.now c.args.self.now c.self.inside.cells.items c.deref.result.now c.deref-2.result.now c.deref-4.result.now
    c.in_ok-self-inside.field-0.items c.in_ok-keys.keys.items c.deref-3.result.now c.deref-5.result.now c.in_ok-met.met.keys
    c.args.step c.self.inside.count c.len-parts.result c.self.view_is c.deref.ensures.value c.deref-2.ensures.value c.deref-4.ensures.value
    c.deref-3.ensures.value c.deref-5.ensures.value
    c.self.invariant c.requires.points c.requires.names c.in_ok-keys.ensures c.in_ok-met.ensures c.in_ok-self-inside.ensures c.len-parts.ensures.len in
    made.some

pub overflow_add-self : goal.overflow_add-self
overflow_add-self c =
    let room = room_by c.self.inside.cells.items c.deref-2.result.now c.in_ok-met.met.keys c.args.step.cell c.self.inside.count
    (λ x. get_or c.deref-3.result.now x 0) c.self.invariant c.deref-2.ensures.value c.in_ok-met.ensures in
    omega (arith, room, c.len-parts.ensures.len)

pub invariant_of-self : goal.invariant_of-self
invariant_of-self c =
    let made = made_by c.args.arcs.now c.args.self.now c.self.inside.cells.items c.deref.result.now c.deref-2.result.now c.deref-4.result.now
    c.in_ok-self-inside.field-0.items c.in_ok-keys.keys.items c.deref-3.result.now c.deref-5.result.now c.in_ok-met.met.keys
    c.args.step c.self.inside.count c.len-parts.result c.self.view_is c.deref.ensures.value c.deref-2.ensures.value c.deref-4.ensures.value
    c.deref-3.ensures.value c.deref-5.ensures.value
    c.self.invariant c.requires.points c.requires.names c.in_ok-keys.ensures c.in_ok-met.ensures c.in_ok-self-inside.ensures c.len-parts.ensures.len in
    made.fits

pub returns-clause-split : goal.returns-clause-split
returns-clause-split c =
    let made = made_by c.args.arcs.now c.args.self.now c.self.inside.cells.items c.deref.result.now c.deref-2.result.now c.deref-4.result.now
    c.in_ok-self-inside.field-0.items c.in_ok-keys.keys.items c.deref-3.result.now c.deref-5.result.now c.in_ok-met.met.keys
    c.args.step c.self.inside.count c.len-parts.result c.self.view_is c.deref.ensures.value c.deref-2.ensures.value c.deref-4.ensures.value
    c.deref-3.ensures.value c.deref-5.ensures.value
    c.self.invariant c.requires.points c.requires.names c.in_ok-keys.ensures c.in_ok-met.ensures c.in_ok-self-inside.ensures c.len-parts.ensures.len in
    made.split

pub returns-clause-parts : goal.returns-clause-parts
returns-clause-parts c =
    let made = made_by c.args.arcs.now c.args.self.now c.self.inside.cells.items c.deref.result.now c.deref-2.result.now c.deref-4.result.now
    c.in_ok-self-inside.field-0.items c.in_ok-keys.keys.items c.deref-3.result.now c.deref-5.result.now c.in_ok-met.met.keys
    c.args.step c.self.inside.count c.len-parts.result c.self.view_is c.deref.ensures.value c.deref-2.ensures.value c.deref-4.ensures.value
    c.deref-3.ensures.value c.deref-5.ensures.value
    c.self.invariant c.requires.points c.requires.names c.in_ok-keys.ensures c.in_ok-met.ensures c.in_ok-self-inside.ensures c.len-parts.ensures.len in
    let counted = made.counted in
    (λ t. omega (arith, leb-true 2 c.len-parts.result t, counted), λ h. le-leb 2 c.len-parts.result (omega (arith, h, counted)))
