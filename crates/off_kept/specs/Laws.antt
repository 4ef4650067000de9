-- Laws of what is kept. They hold of all tables.
use Rattle.std.specs.Prelude.{◌≡◌, List, Some}
use Rattle.off_base.specs.declared.macs.Mac.{Mac}
use Rattle.off_defs.specs.declared.writes.Write.{Write}
use Rattle.off_defs.specs.State.{Tables}
use Rattle.off_defs.specs.Tables.{write_all}
use Rattle.off_file_rules.specs.Profile.{profile_in}
use Rattle.off_kept.specs.declared.bodies.KeptBody.{KeptBody}
use Rattle.off_kept.specs.Entries.{Entries, kept_of, with_first, without_written}
use Rattle.off_kept.specs.Right.{IsRight, AllRight}

-- behind writes all is right that they leave
abbrev pub KeptStaysRight : Type 0
KeptStaysRight =
    (tables : Tables) (writes : List Write) (entries : Entries) → AllRight tables entries →
    AllRight (write_all tables writes) (without_written writes entries)

-- a right entry first leaves all right
abbrev pub FirstIsRight : Type 0
FirstIsRight =
    (tables : Tables) (mac : Mac) (kept : KeptBody) (entries : Entries) →
    IsRight tables (mac, kept) → AllRight tables entries →
    AllRight tables (with_first mac kept entries)

-- what is found of a modem is right of it
abbrev pub FoundIsRight : Type 0
FoundIsRight =
    (tables : Tables) (mac : Mac) (kept : KeptBody) (entries : Entries) →
    AllRight tables entries → kept_of mac entries ≡ Some kept → IsRight tables (mac, kept)

-- the profile of a right entry is its modem's
abbrev pub ProfileIsModems : Type 0
ProfileIsModems =
    (tables : Tables) (mac : Mac) (kept : KeptBody) (right : IsRight tables (mac, kept)) →
    profile_in tables mac ≡ Some right.profile
