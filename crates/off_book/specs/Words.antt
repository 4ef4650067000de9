-- The words of the command line behind the program's name:
--     serve --store STORE --ports DHCP,TIME,TFTP,HTTP --turns N
--     import --store STORE KIND BATCH
--     drill MODEMS
--     seal HEX
--     check HEX
-- STORE is `memory` or a path that isn't empty and doesn't begin with `-`. Ports are numbers from
-- 1 to 65535. N is 0 to 10^15. KIND is `subscribers` or `modems`, BATCH a number of 64 bits. MODEMS
-- is 1 to 4,000. HEX is a secret of 1 to 64 bytes in hexadecimal pairs of either case.
use Rattle.std.specs.Prelude.{ℕ, ◌==◌, Bool, not, ◌&&◌, nat_lt, List, [], ◌∷◌, length, map, codes, slice_index, Option, Some, None, option_and_then, option_map, nat_le, if◌then◌else◌}
use Rattle.std.specs.Option.{option_or}
use Rattle.std.specs.List.{slice_split}
use Rattle.std.specs.Str.{bytes_eq}
use Rattle.std.specs.Result.{result_ok}
use Rattle.hex.specs.Hex.{decode_of}
use Rattle.off_base.specs.Number.{number_read, greatest_u64}
use Rattle.off_defs.specs.declared.tables.ImportKind.{ImportKind}
use Rattle.off_defs.specs.declared.tables.ImportKind.TheVariants.{Subscribers, Modems}

-- what the words of `serve` ask for; `ports` in the order DHCP, time, TFTP, HTTP
pub record Serve : Type 0 where
  pub store : List ℕ
  pub ports : List ℕ
  pub turns : ℕ

-- the greatest number of turns, 10^15
abbrev pub most_turns : ℕ
most_turns = 1000000000000000

-- a port, from 1 to 65535
abbrev pub port_of : List ℕ → Option ℕ
port_of text = option_and_then (λ n. if n == 0 then None else Some n) (number_read 65535 text)

-- the texts between commas
abbrev pub between_commas : List ℕ → List (List ℕ)
between_commas text = slice_split (λ c. c == 44) text

-- the ports, where there are four of them
abbrev pub four_ports : List (Option ℕ) → Option (List ℕ)
four_ports (Some dhcp ∷ Some time ∷ Some tftp ∷ Some http ∷ []) =
    Some (dhcp ∷ time ∷ tftp ∷ http ∷ [])
four_ports _ = None

-- four ports with commas between them
abbrev pub ports_of : List ℕ → Option (List ℕ)
ports_of text = four_ports (map port_of (between_commas text))

-- `memory`, or a path
abbrev pub is_store : List ℕ → Bool
is_store text = nat_lt 0 (length text) && not (slice_index text 0 == 45)

abbrev pub serve_by : List ℕ → Option (List ℕ) → Option ℕ → Option Serve
serve_by store None turns = None
serve_by store (Some ports) None = None
serve_by store (Some ports) (Some turns) =
    if is_store store then Some (record { store = store; ports = ports; turns = turns }) else None

-- the one form of `serve`, or None for every other list of words
unfoldable pub serve_of : List (List ℕ) → Option Serve
serve_of (command ∷ store_flag ∷ store ∷ ports_flag ∷ ports ∷ turns_flag ∷ turns ∷ []) =
    if (bytes_eq command (codes "serve")
    && (bytes_eq store_flag (codes "--store")
    && (bytes_eq ports_flag (codes "--ports") && bytes_eq turns_flag (codes "--turns"))))
    then serve_by store (ports_of ports) (number_read most_turns turns) else None
serve_of words = None

-- what the words of `import` ask for
pub record Import : Type 0 where
  pub store : List ℕ
  pub kind : ImportKind
  pub batch : ℕ

-- which rows an import has
abbrev pub kind_of : List ℕ → Option ImportKind
kind_of word =
    if bytes_eq word (codes "subscribers") then Some Subscribers
    else if bytes_eq word (codes "modems") then Some Modems
    else None

abbrev pub import_by : List ℕ → Option ImportKind → Option ℕ → Option Import
import_by store None batch = None
import_by store (Some kind) None = None
import_by store (Some kind) (Some batch) =
    if is_store store then Some (record { store = store; kind = kind; batch = batch }) else None

-- the one form of `import`, or None for every other list of words
unfoldable pub import_of : List (List ℕ) → Option Import
import_of (command ∷ store_flag ∷ store ∷ kind ∷ batch ∷ []) =
    if (bytes_eq command (codes "import") && bytes_eq store_flag (codes "--store"))
    then import_by store (kind_of kind) (number_read greatest_u64 batch) else None
import_of words = None

-- the greatest number of modems that `drill` boots
abbrev pub most_drilled : ℕ
most_drilled = 4000

-- how many modems, from 1 to 4,000
abbrev pub drilled_of : List ℕ → Option ℕ
drilled_of text =
    option_and_then (λ n. if n == 0 then None else Some n) (number_read most_drilled text)

-- the one form of `drill`, or None for every other list of words
unfoldable pub drill_of : List (List ℕ) → Option ℕ
drill_of (command ∷ modems ∷ []) =
    if bytes_eq command (codes "drill") then drilled_of modems else None
drill_of words = None

-- a secret of 1 to 64 bytes, in hexadecimal pairs
unfoldable pub secret_of : List ℕ → Option (List ℕ)
secret_of text =
    if (nat_lt 0 (length text) && nat_le (length text) 128) then result_ok (decode_of text) else
    None

-- what the words ask for
pub data Job : Type 0 where
  to_serve : Serve → Job
  to_import : Import → Job
  to_drill : ℕ → Job
  to_seal : List ℕ → Job
  to_check : List ℕ → Job

-- the words of a job with a secret: the command, and the secret
abbrev pub keyed_of : List ℕ → (List ℕ → Job) → List (List ℕ) → Option Job
keyed_of command job (word ∷ hex ∷ []) =
    if bytes_eq word command then option_map job (secret_of hex) else None
keyed_of command job words = None

-- the one form that the words have, or None where they have none
abbrev pub job_of : List (List ℕ) → Option Job
job_of words =
    option_or (option_map to_serve (serve_of words))
    (option_or (option_map to_import (import_of words))
    (option_or (option_map to_drill (drill_of words))
    (option_or (keyed_of (codes "seal") to_seal words) (keyed_of (codes "check") to_check words))))
