use Rattle.std.proofs.Common.{◌<◌, arith, length}
use Rattle.cdcl_core.specs.declared.trail.TrueLit.{TrueLit}
use Rattle.cdcl_core.proofs.Pushing.{room_seen, room_held, pushed_seen, pushed_held}
use Rattle.cdcl_core.proofs.trail.Trail.push.Goals as goal

pub returns-clause-room : goal.returns-clause-room
returns-clause-room c = room_seen c.self.inside c.args.self.now c.args.lit c.self.view_is c.self.invariant c.requires.within c.requires.free

pub index_mut-requires : goal.index_mut-requires
index_mut-requires c =
    let room : c.self.inside.count < length c.self.inside.entries.items = room_held c.self.inside c.args.self.now c.args.lit c.self.view_is c.self.invariant c.requires.within c.requires.free in
    omega arith

pub returns-clause-pushed : goal.returns-clause-pushed
returns-clause-pushed c =
    let entry : TrueLit = record { lit = c.args.lit; level = c.args.level; reason = c.args.reason } in
    pushed_seen c.self.inside c.args.self.now entry c.self.view_is c.self.invariant c.requires.within c.requires.free

pub invariant_of-self : goal.invariant_of-self
invariant_of-self c =
    let entry : TrueLit = record { lit = c.args.lit; level = c.args.level; reason = c.args.reason } in
    let held = pushed_held c.self.inside c.args.self.now entry c.self.view_is c.self.invariant c.requires.within c.requires.free in
    rw c.index-index.ensures.number (record { count = held.count_in; few = held.few; size = held.size; plain = held.plain; places_size = held.places_size; places = held.places; table = held.table })
