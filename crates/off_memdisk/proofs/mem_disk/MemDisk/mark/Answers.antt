use Rattle.std.proofs.Common.{◌≡◌, ◌+◌, ◌≤◌, length, arith, rules, vec_len}
use Rattle.off_memdisk.specs.MemDisks.{used}
use Rattle.off_memdisk.proofs.HeldLemmas.{space_of, held_synced, synced_of}
use Rattle.off_memdisk.proofs.mem_disk.MemDisk.mark.Goals as goal

pub push_in_room-requires : goal.push_in_room-requires
push_in_room-requires c =
    let some : used c.args.self.now + 1 ≤ c.args.self.now.room = omega (arith, c.room_left-left.ensures, c.if-left-eq0.false) in
    let space = space_of c.args.self.now c.self.inside.base.items c.self.inside.marks.items c.self.inside.pieces.items c.self.inside.bytes.items c.self.inside.room c.self.inside.faults 1
    c.self.inside.failing c.self.view_is c.self.invariant.0 some in
    let long : vec_len c.self.inside.marks ≡ length c.self.inside.marks.items = search rules in
    omega (arith, space, long, c.self.invariant.1.marks_fit)

pub invariant_of-self-2 : goal.invariant_of-self-2
invariant_of-self-2 c =
    let some : used c.args.self.now + 1 ≤ c.args.self.now.room = omega (arith, c.room_left-left.ensures, c.if-left-eq0.false) in
    let space = space_of c.args.self.now c.self.inside.base.items c.self.inside.marks.items c.self.inside.pieces.items c.self.inside.bytes.items c.self.inside.room c.self.inside.faults 1
    c.self.inside.failing c.self.view_is c.self.invariant.0 some in (
      held_synced c.self.inside.base.items c.self.inside.marks.items c.push_in_room.new.items.items c.self.inside.pieces.items c.self.inside.bytes.items c.self.inside.room c.self.invariant.0
          c.push_in_room.ensures.items (omega (arith, space)),
      record {
        bytes_fit = c.self.invariant.1.bytes_fit;
        pieces_fit = c.self.invariant.1.pieces_fit;
        marks_fit = omega (arith, c.self.invariant.1.marks_fit, c.push_in_room.ensures.capacity);
      },
    )

pub returns-clause-exact : goal.returns-clause-exact
returns-clause-exact c = record {
  unlisted = search rules;
  room = omega (arith, c.room_left-left.ensures, c.if-left-eq0.false);
  after = synced_of c.args.self.now c.self.inside.base.items c.self.inside.marks.items c.push_in_room.new.items.items c.self.inside.pieces.items c.self.inside.room c.self.inside.faults
      c.self.inside.failing c.call.new.self c.self.view_is c.push_in_room.ensures.items c.call.ensures.after;
}
