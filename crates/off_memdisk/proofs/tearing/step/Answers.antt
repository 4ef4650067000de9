use Rattle.std.proofs.Common.{◌+◌, ◌≤◌, length, sym, subst, ap, ◌∙◌, refl, rules, List, ℕ}
use Rattle.off_memdisk.specs.MemDisks.{written_in}
use Rattle.off_memdisk.specs.Tearing.{Steps}
use Rattle.off_memdisk.specs.declared.mem_disk.Mark.{Mark}
use Rattle.off_memdisk.proofs.TearLemmas.{torn_wider}
use Rattle.off_memdisk.proofs.tearing.step.Goals as goal

pub returns-in_ok-put_within-in-Wrote : goal.returns-in_ok-put_within-in-Wrote
returns-in_ok-put_within-in-Wrote c =
    let few : length c.deref-in-Wrote.result.now ≤ c.in-Wrote.len = search rules in
    subst (λ (m : Mark). Steps m c.args.pieces.now c.args.replay.now (record { reads = c.put_bytes.new.bytes; image = c.put_within.new.image; taken = c.args.replay.now.taken + c.in-Wrote.len }))
    (sym c.in-Wrote.is) (
      c.in_ok-put_bytes-in-Wrote.ensures.ok ∙ ap (λ (p : List ℕ). written_in c.args.replay.now.reads.items c.in-Wrote.at p) c.piece_of-piece.ensures.bytes,
      torn_wider c.in-Wrote.at (length c.deref-in-Wrote.result.now) c.in-Wrote.len c.args.replay.now.image.items c.put_within.new.image.items few c.in_ok-put_within-in-Wrote.ensures,
      refl,
    )
