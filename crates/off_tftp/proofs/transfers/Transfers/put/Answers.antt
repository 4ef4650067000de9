use Rattle.std.proofs.Common.{◌∙◌, vec_len, arith}
use Rattle.off_tftp.proofs.EntryLemmas.{own_place, place_within, got_none, set_is_put, insert_is_put, sorted_put, kept_put, room_by}
use Rattle.off_tftp.proofs.transfers.Transfers.put.Goals as goal

pub invariant_of-self : goal.invariant_of-self
invariant_of-self c = (
  sorted_put c.args.peer c.args.live c.self.inside.live.items _ c.self.invariant.0
      (set_is_put c.args.peer c.self.inside.live.items c.args.place.index c.index_mut.result.now c.args.live c.is_at.result (own_place c.args.peer c.args.self.now c.self.inside.live.items c.args.place.index c.self.invariant.0 c.self.view_is c.requires.place) c.is_at.ensures c.if-is_at.true c.index_mut.ensures.value),
  c.self.invariant.1,
  c.self.invariant.2,
)

pub returns-then-is_at : goal.returns-then-is_at
returns-then-is_at c =
    kept_put c.args.peer c.args.live c.args.self.now c.self.inside.live.items _ c.self.invariant.0 c.self.view_is
    (set_is_put c.args.peer c.self.inside.live.items c.args.place.index c.index_mut.result.now c.args.live c.is_at.result (own_place c.args.peer c.args.self.now c.self.inside.live.items c.args.place.index c.self.invariant.0 c.self.view_is c.requires.place) c.is_at.ensures c.if-is_at.true c.index_mut.ensures.value)

pub insert_at-requires-clause-room : goal.insert_at-requires-clause-room
insert_at-requires-clause-room c =
    let room = room_by c.args.peer c.args.self.now c.self.inside.live.items (vec_len c.self.inside.live) c.self.invariant.0 c.self.view_is (omega (arith, c.self.inside.live.ok.0))
    (got_none c.args.peer c.args.self.now c.self.inside.live.items c.args.place.index c.is_at.result c.self.invariant.0 c.self.view_is (own_place c.args.peer c.args.self.now c.self.inside.live.items c.args.place.index c.self.invariant.0 c.self.view_is c.requires.place) c.is_at.ensures c.if-is_at.false)
    c.requires.room in
    omega (arith, room, c.self.invariant.2)

pub invariant_of-self-else-is_at : goal.invariant_of-self-else-is_at
invariant_of-self-else-is_at c =
    let room = room_by c.args.peer c.args.self.now c.self.inside.live.items (vec_len c.self.inside.live) c.self.invariant.0 c.self.view_is (omega (arith, c.self.inside.live.ok.0))
    (got_none c.args.peer c.args.self.now c.self.inside.live.items c.args.place.index c.is_at.result c.self.invariant.0 c.self.view_is (own_place c.args.peer c.args.self.now c.self.inside.live.items c.args.place.index c.self.invariant.0 c.self.view_is c.requires.place) c.is_at.ensures c.if-is_at.false)
    c.requires.room in (
      sorted_put c.args.peer c.args.live c.self.inside.live.items _ c.self.invariant.0
          (c.insert_at.ensures.items ∙ insert_is_put c.args.peer c.self.inside.live.items c.args.place.index c.args.live c.is_at.result (own_place c.args.peer c.args.self.now c.self.inside.live.items c.args.place.index c.self.invariant.0 c.self.view_is c.requires.place) c.is_at.ensures c.if-is_at.false),
      omega (arith, room, c.insert_at.ensures.len),
      omega (arith, c.insert_at.ensures.capacity, c.self.invariant.2),
    )

pub returns-else-is_at : goal.returns-else-is_at
returns-else-is_at c =
    kept_put c.args.peer c.args.live c.args.self.now c.self.inside.live.items c.insert_at.new.entries.items c.self.invariant.0 c.self.view_is
    (c.insert_at.ensures.items ∙ insert_is_put c.args.peer c.self.inside.live.items c.args.place.index c.args.live c.is_at.result (own_place c.args.peer c.args.self.now c.self.inside.live.items c.args.place.index c.self.invariant.0 c.self.view_is c.requires.place) c.is_at.ensures c.if-is_at.false)

pub insert_at-requires-clause-within : goal.insert_at-requires-clause-within
insert_at-requires-clause-within c =
    place_within c.args.peer c.self.inside.live.items c.args.place.index (vec_len c.self.inside.live)
    (own_place c.args.peer c.args.self.now c.self.inside.live.items c.args.place.index c.self.invariant.0 c.self.view_is c.requires.place) (omega (arith, c.self.inside.live.ok.0))
