-- The words that were read, as the book has them.
use Rattle.std.specs.Result.{result_ok}
use Rattle.hex.specs.Hex.{decode_of}
use Rattle.std.specs.Prelude.{◌≡◌, ◌≤◌, true, false, Ok, ℕ, Bool, ◌&&◌, List, [], codes, slice_index_or, Option, None, option_map, if◌then◌else◌, ◌∷◌}
use Rattle.std.specs.Option.{option_or}
use Rattle.std.specs.Str.{bytes_eq}
use Rattle.off_book.specs.Words.{Serve, Import, Job, to_serve, to_import, to_drill, to_seal, to_check, secret_of, serve_of, import_of, drill_of}
use Rattle.off_words.specs.declared.import_words.ImportForm.{ImportForm}
use Rattle.off_words.specs.declared.jobs.Asked.{Asked}
use Rattle.off_words.specs.declared.jobs.Asked.TheVariants as asked
use Rattle.off_words.specs.declared.words.Form.{Form}
use Rattle.off_words.specs.declared.words.Wanted.{Wanted}

abbrev pub form_of : Form → Serve
form_of form = record { store = form.store.now; ports = form.ports; turns = form.turns }

-- the store and the ports
pub record Places : Type 0 where
  pub store : List ℕ
  pub ports : List ℕ

abbrev pub places_of : Wanted → Places
places_of wanted = record { store = wanted.store.now; ports = wanted.ports }

abbrev pub places_in : Serve → Places
places_in serve = record { store = serve.store; ports = serve.ports }

abbrev pub import_form_of : ImportForm → Import
import_form_of form = record { store = form.store.now; kind = form.kind; batch = form.batch }

-- an import takes no events: its ports are 0
abbrev pub import_places : Import → Places
import_places import = record { store = import.store; ports = 0 ∷ 0 ∷ 0 ∷ 0 ∷ [] }

-- a drill has its tables in memory, and no events
abbrev pub drill_places : ℕ → Places
drill_places modems = record { store = codes "memory"; ports = 0 ∷ 0 ∷ 0 ∷ 0 ∷ [] }

abbrev pub places_wanted : List (List ℕ) → Option Places
places_wanted words =
    option_or (option_map places_in (serve_of words))
    (option_or (option_map import_places (import_of words))
    (option_map drill_places (drill_of words)))

-- the words that are the same in each command stand in their places
abbrev pub flags_stand : List (List ℕ) → Bool
flags_stand words =
    bytes_eq (slice_index_or words 0 []) (codes "serve")
    && (bytes_eq (slice_index_or words 1 []) (codes "--store")
    && (bytes_eq (slice_index_or words 3 []) (codes "--ports")
    && bytes_eq (slice_index_or words 5 []) (codes "--turns")))

abbrev pub import_flags_stand : List (List ℕ) → Bool
import_flags_stand words =
    bytes_eq (slice_index_or words 0 []) (codes "import")
    && bytes_eq (slice_index_or words 1 []) (codes "--store")

-- the job that was read
abbrev pub asked_for : Asked → Job
asked_for (asked.Serve form) = to_serve (form_of form)
asked_for (asked.Import form) = to_import (import_form_of form)
asked_for (asked.Drill modems) = to_drill modems
asked_for (asked.Seal secret) = to_seal secret
asked_for (asked.Check secret) = to_check secret

-- a drill that was read has 4,000 modems at most
abbrev pub DrillsFew : Asked → Type 0
DrillsFew (asked.Drill modems) = modems ≤ 4000
DrillsFew asked = true ≡ true

-- the secret behind a command
abbrev pub keyed_secret : List ℕ → List (List ℕ) → Option (List ℕ)
keyed_secret command (word ∷ hex ∷ []) = if bytes_eq word command then secret_of hex else None
keyed_secret command words = None

-- the bytes that hexadecimal pairs stand for, if the text is such pairs
abbrev pub IsDecoded : Bool → List ℕ → List ℕ → Type 0
IsDecoded true text bytes = decode_of text ≡ Ok bytes
IsDecoded false text bytes = result_ok (decode_of text) ≡ None
