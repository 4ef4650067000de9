-- What a keeper over a journal tells of a crash.
use Rattle.std.proofs.Common.{◌≡◌, ℕ, ◌⊎◌, inl, inr, List, sym, ap, ◌∙◌}
use Rattle.off_defs.specs.Told.{IsOne}
use Rattle.off_defs.specs.State.{Tables}
use Rattle.off_defs.specs.Tables.{write_all}
use Rattle.off_outside.specs.KeeperSeen.{Rests}
use Rattle.off_disk.specs.DiskSeen.{DiskSeen}
use Rattle.off_journal.specs.Journal.{Opens}
use Rattle.off_journal.specs.JournalLaws.{closed_opens, doubtful_opens}
use Rattle.off_journal.specs.Keeping.{Keeps, journal_seen, doubt_of}
use Rattle.off_journal.specs.declared.keeper.Last.{Last}
use Rattle.off_journal.specs.declared.keeper.Last.TheVariants.{Closed, Doubtful}
use Rattle.off_journal.specs.declared.keeper.Counts.{Counts}

either_as : {u t s v w : Tables} → t ≡ s → w ≡ v → (u ≡ t) ⊎ (u ≡ w) → (u ≡ s) ⊎ (u ≡ v)
either_as same also (inl e) = inl (e ∙ same)
either_as same also (inr e) = inr (e ∙ also)

-- a file that a crash may leave now opens as the tables, or as these with the refused commit
pub now_opens : (last : Last) (rows : Tables) (gate : ℕ) (disk : DiskSeen)
    → Keeps rows gate last disk → (c : List ℕ) (u : Tables)
    → disk.left disk.moment c → Opens c u → (u ≡ rows) ⊎ doubt_of last rows u
now_opens Closed rows gate disk k c u left opens =
    inl (closed_opens k.commits c u k.are (k.all c left) opens ∙ sym k.tables)
now_opens (Doubtful refused) rows gate disk k c u left opens =
    either_as (sym k.tables) (sym (ap (λ (t : Tables). write_all t refused) k.tables))
    (doubtful_opens k.commits refused c u k.are k.fits (k.all c left) opens)

told_as : (last : Last) {u t rows : Tables} → t ≡ rows → (u ≡ rows) ⊎ doubt_of last rows u
    → (u ≡ t) ⊎ doubt_of last rows u
told_as last same (inl e) = inl (e ∙ sym same)
told_as last same (inr e) = inr e

pub journal_rests : (disk : DiskSeen) (rows : Tables) (gate : ℕ) (last : Last) (counts : Counts)
    → Rests (journal_seen disk rows gate last counts)
journal_rests disk rows gate last counts t told u opened =
    told_as last told.0 (now_opens last rows gate disk told.1 opened.0 u opened.1.0 opened.1.1)

pub one_journal_tells : (disk : DiskSeen) (rows : Tables) (gate : ℕ) (last : Last) (counts : Counts)
    → IsOne (journal_seen disk rows gate last counts).tables
one_journal_tells disk rows gate last counts x y p q = p.0 ∙ sym q.0
