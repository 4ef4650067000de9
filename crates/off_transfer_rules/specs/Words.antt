-- The lines of the log for TFTP datagrams and for Ticks. Their words are this project's profile.
use Rattle.std.specs.Prelude.{ℕ, ◌==◌, ◌&&◌, List, [], ◌++◌, codes, decimal, if◌then◌else◌}
use Rattle.off_transfer_rules.specs.declared.words.TftpWord.{TftpWord}
use Rattle.off_transfer_rules.specs.declared.words.TftpWord.TheVariants as word
use Rattle.off_transfer_rules.specs.declared.ticks.Ticked.{Ticked}

abbrev pub tftp_text : TftpWord → List ℕ
tftp_text word.Form = codes "form"
tftp_text word.Write = codes "write"
tftp_text word.Mode = codes "mode"
tftp_text word.Again = codes "again"
tftp_text word.NoLease = codes "no-lease"
tftp_text word.Agreement = codes "agreement"
tftp_text word.Name = codes "name"
tftp_text word.Full = codes "full"
tftp_text word.Oack = codes "oack"
tftp_text (word.Block number) = codes "block " ++ decimal number
tftp_text word.Unknown = codes "unknown"
tftp_text word.StaleAck = codes "stale-ack"
tftp_text word.Done = codes "done"
tftp_text word.PeerError = codes "peer-error"

abbrev pub tftp_line : TftpWord → List ℕ
tftp_line word = codes "tftp " ++ tftp_text word

-- a Tick that does nothing has no line
abbrev pub tick_line : Ticked → List ℕ
tick_line ticked =
    if ticked.again == 0 && ticked.closed == 0 then []
    else codes "tick again " ++ decimal ticked.again ++ codes " closed " ++ decimal ticked.closed
