use Rattle.std.proofs.Common.{◌≡◌, ◌+◌, ◌∙◌, length, refl, ap, arith, rules, vec_len}
use Rattle.off_memdisk.specs.MemDisks.{HasRoom, MemDiskHeld, reads_as}
use Rattle.off_memdisk.proofs.HeldLemmas.{space_of, held_wrote, wrote_of, end_written}
use Rattle.off_memdisk.proofs.mem_disk.MemDisk.put.Goals as goal

pub put_in_room-requires-clause-room : goal.put_in_room-requires-clause-room
put_in_room-requires-clause-room c =
    let room : HasRoom c.args.at (length c.args.piece.now) c.args.self.now = search rules in
    let space = space_of c.args.self.now c.self.inside.base.items c.self.inside.marks.items c.self.inside.pieces.items c.self.inside.bytes.items c.self.inside.room c.self.inside.faults (length c.args.piece.now + 1)
    c.self.inside.failing c.self.view_is c.self.invariant.0 room.within in
    let long : vec_len c.self.inside.bytes ≡ length c.self.inside.bytes.items = search rules in
    omega (arith, space, long, c.self.invariant.0.no_longer, c.self.invariant.1.bytes_fit)

pub put_in_room-requires-2-clause-room : goal.put_in_room-requires-2-clause-room
put_in_room-requires-2-clause-room c =
    let room : HasRoom c.args.at (length c.args.piece.now) c.args.self.now = search rules in
    let space = space_of c.args.self.now c.self.inside.base.items c.self.inside.marks.items c.self.inside.pieces.items c.self.inside.bytes.items c.self.inside.room c.self.inside.faults (length c.args.piece.now + 1)
    c.self.inside.failing c.self.view_is c.self.invariant.0 room.within in
    let long : vec_len c.self.inside.pieces ≡ length c.self.inside.pieces.items = search rules in
    omega (arith, space, long, c.self.invariant.1.pieces_fit)

pub push_in_room-requires : goal.push_in_room-requires
push_in_room-requires c =
    let room : HasRoom c.args.at (length c.args.piece.now) c.args.self.now = search rules in
    let space = space_of c.args.self.now c.self.inside.base.items c.self.inside.marks.items c.self.inside.pieces.items c.self.inside.bytes.items c.self.inside.room c.self.inside.faults (length c.args.piece.now + 1)
    c.self.inside.failing c.self.view_is c.self.invariant.0 room.within in
    let long : vec_len c.self.inside.marks ≡ length c.self.inside.marks.items = search rules in
    omega (arith, space, long, c.self.invariant.1.marks_fit)

pub invariant_of-self-2 : goal.invariant_of-self-2
invariant_of-self-2 c =
    let room : HasRoom c.args.at (length c.args.piece.now) c.args.self.now = search rules in
    let space = space_of c.args.self.now c.self.inside.base.items c.self.inside.marks.items c.self.inside.pieces.items c.self.inside.bytes.items c.self.inside.room c.self.inside.faults (length c.args.piece.now + 1)
    c.self.inside.failing c.self.view_is c.self.invariant.0 room.within in
    let held : c.len-held.result ≡ length c.self.inside.pieces.items = search rules in (
      held_wrote c.self.inside.base.items c.self.inside.marks.items c.push_in_room.new.items.items c.self.inside.pieces.items c.put_in_room-2.new.bytes.items
          c.self.inside.bytes.items c.put_in_room.new.bytes.items c.args.piece.now c.self.inside.room c.args.at (length c.args.piece.now) c.self.invariant.0
          c.push_in_room.ensures.items (c.put_in_room-2.ensures.bytes ∙ end_written c.self.inside.pieces.items c.args.piece.now c.len-held.result held) c.put_in_room.ensures.bytes refl
          (omega (arith, c.requires, ap length c.self.invariant.0.reads, ap (λ (m : MemDiskHeld). length (reads_as m)) c.self.view_is)) room.small space,
      record {
        bytes_fit = omega (arith, c.self.invariant.1.bytes_fit, c.put_in_room.ensures.capacity);
        pieces_fit = omega (arith, c.self.invariant.1.pieces_fit, c.put_in_room-2.ensures.capacity);
        marks_fit = omega (arith, c.self.invariant.1.marks_fit, c.push_in_room.ensures.capacity);
      },
    )

pub returns-clause-exact : goal.returns-clause-exact
returns-clause-exact c =
    let held : c.len-held.result ≡ length c.self.inside.pieces.items = search rules in
    record {
      unlisted = search rules;
      room = search rules;
      after = wrote_of c.args.self.now c.self.inside.base.items c.self.inside.marks.items c.push_in_room.new.items.items c.self.inside.pieces.items c.put_in_room-2.new.bytes.items
          c.self.inside.bytes.items c.args.piece.now c.self.inside.room c.self.inside.faults c.args.at (length c.args.piece.now) c.self.inside.failing c.call.new.self c.self.view_is c.self.invariant.0
          c.push_in_room.ensures.items (c.put_in_room-2.ensures.bytes ∙ end_written c.self.inside.pieces.items c.args.piece.now c.len-held.result held) refl c.call.ensures.after;
    }
