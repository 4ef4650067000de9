-- What a clerk is answered where the command was done: JSON objects (RFC 8259) without white space,
-- keys in the order of their bytes.
use Rattle.std.specs.Prelude.{ℕ, Bool, true, false, List, [], ◌∷◌, ◌++◌, codes, decimal, map}
use Rattle.std.specs.Fmt.{signed_decimal}
use Rattle.std.specs.List.{join_with_byte}
use Rattle.hex.specs.Hex.{encode_lower}
use Rattle.serde_json.specs.Data.{string}
use Rattle.serde_json.specs.Written.{compact_text}
use Rattle.off_base.specs.AddressText.{ip_text_of, mac_text_of}
use Rattle.off_base.specs.Tree.{Tree, Row, leaf, group, no_more, followed}
use Rattle.off_defs.specs.declared.tables.Pool.{Pool}
use Rattle.off_defs.specs.declared.tables.Hold.{Hold}
use Rattle.off_defs.specs.declared.tables.Hold.TheVariants.{Offered, Bound, Declined}
use Rattle.off_orders.specs.declared.shown.ShownRow.{ShownRow}
use Rattle.off_orders.specs.declared.shown.ShownRow.TheVariants as row
use Rattle.off_orders.specs.declared.orders.Reply.{Reply}
use Rattle.off_orders.specs.declared.orders.Reply.TheVariants.{Done, Shown, ShownPool, Rows}

-- a text as a JSON string, with the escapes that serde_json writes
abbrev pub text_of : List ℕ → List ℕ
text_of held = compact_text (string held)

abbrev pub flag_text : Bool → List ℕ
flag_text true = codes "true"
flag_text false = codes "false"

-- an array of these texts
abbrev pub array_text : List (List ℕ) → List ℕ
array_text texts = codes "[" ++ join_with_byte 44 texts ++ codes "]"

-- a setting: its code, and its value in hexadecimal or the array of its parts
abbrev mutual
  pub tree_text : Tree → List ℕ
  tree_text (leaf code value) = codes "{\"code\":" ++ decimal code ++ codes ",\"hex\":\""
      ++ encode_lower value ++ codes "\"}"
  tree_text (group code parts) = codes "{\"code\":" ++ decimal code ++ codes ",\"parts\":"
      ++ array_text (part_texts parts) ++ codes "}"

  pub part_texts : Row → List (List ℕ)
  part_texts no_more = []
  part_texts (followed t r) = tree_text t ∷ part_texts r

abbrev pub settings_text : List Tree → List ℕ
settings_text settings = array_text (map tree_text settings)

-- who holds an address. A declined address has no owner
abbrev pub owner_text : Hold → List ℕ
owner_text (Offered owner) = mac_text_of owner.0
owner_text (Bound owner) = mac_text_of owner.0
owner_text Declined = []

abbrev pub state_text : Hold → List ℕ
state_text (Offered owner) = codes "offered"
state_text (Bound owner) = codes "bound"
state_text Declined = codes "declined"

-- what stands behind a pool's first address, and behind its hub where it's shown
abbrev pub rest_of_pool : Pool → List ℕ
rest_of_pool pool =
    codes ",\"last\":\"" ++ ip_text_of pool.last.0 ++ codes "\",\"prefix\":"
    ++ decimal pool.prefix ++ codes ",\"relay\":\"" ++ ip_text_of pool.relay.0
    ++ codes "\",\"router\":\"" ++ ip_text_of pool.router.0 ++ codes "\"}"

abbrev pub pool_text : Pool → ℕ → List ℕ
pool_text pool hub =
    codes "{\"first\":\"" ++ ip_text_of pool.first.0 ++ codes "\",\"hub\":" ++ decimal hub
    ++ rest_of_pool pool

-- A row as a clerk sees it: the fields of the body that puts such a row, but a hub's secret. A pool
-- is shown with its hub, by an answer of its own
abbrev pub row_text : ShownRow → List ℕ
row_text (row.Site site) =
    codes "{\"lease\":" ++ decimal site.lease ++ codes ",\"log\":\"" ++ ip_text_of site.log.0
    ++ codes "\",\"offset\":" ++ signed_decimal site.offset ++ codes ",\"server\":\""
    ++ ip_text_of site.server.0 ++ codes "\"}"
row_text (row.Subscriber subscriber) =
    codes "{\"active\":" ++ flag_text subscriber.active ++ codes ",\"cpes\":"
    ++ decimal subscriber.cpes ++ codes ",\"name\":" ++ text_of subscriber.name ++ codes "}"
row_text (row.AddOn settings) = codes "{\"settings\":" ++ settings_text settings ++ codes "}"
row_text (row.Modem modem) =
    codes "{\"class\":" ++ decimal modem.class ++ codes ",\"serial\":" ++ text_of modem.serial
    ++ codes ",\"subscriber\":" ++ decimal modem.subscriber ++ codes "}"
row_text (row.Class class) =
    codes "{\"name\":" ++ text_of class.name ++ codes ",\"settings\":"
    ++ settings_text class.settings ++ codes "}"
row_text (row.Pool pool) =
    codes "{\"first\":\"" ++ ip_text_of pool.first.0 ++ codes "\"" ++ rest_of_pool pool
row_text (row.Lease lease) =
    codes "{\"expiry\":" ++ decimal lease.expiry.0 ++ codes ",\"owner\":\"" ++ owner_text lease.hold
    ++ codes "\",\"state\":\"" ++ state_text lease.hold ++ codes "\"}"

abbrev pub reply_text : Reply → List ℕ
reply_text Done = codes "{\"ok\":true}"
reply_text (Shown key row) = row_text row
reply_text (ShownPool number pool hub) = pool_text pool hub
reply_text (Rows count) = codes "{\"rows\":" ++ decimal count ++ codes "}"
