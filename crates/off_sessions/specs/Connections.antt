-- The live connections, as they are held: sessions by number.
use Rattle.std.specs.Prelude.{◌≡◌, ℕ, List, map}
use Rattle.std.specs.Ordering.{nat_cmp}
use Rattle.std.specs.List.{AllByRecursion}
use Rattle.std.specs.List.Sorted.{IsStrictlySortedBy}
use Rattle.std.specs.Map.{keys_of}
use Rattle.std.specs.FinMap as fin
use Rattle.std.specs.Coded.{Coded, coded_ℕ, coded_list}
use Rattle.off_http.specs.Request.{Waits}
use Rattle.off_http.specs.Heard.{Heard}

abbrev pub bytes_of : Heard → List ℕ
bytes_of session = session.bytes

abbrev pub heard_entry : ℕ × Heard → ℕ × List ℕ
heard_entry entry = (entry.0, bytes_of entry.1)

-- the bytes that have come of each connection
abbrev pub heard_in : List (ℕ × Heard) → fin.FinMap nat_cmp (List ℕ)
heard_in entries = fin.from_sorted (map heard_entry entries)

-- no connection is kept of which a request has come whole, or that can be none
abbrev pub AllWait : List (ℕ × Heard) → Type 0
AllWait entries = AllByRecursion (λ entry. entry.1.answer ≡ Waits) entries

abbrev pub AreLive : List (ℕ × Heard) → Type 0
AreLive entries = IsStrictlySortedBy nat_cmp (keys_of entries) × AllWait entries

-- the code of such a map, by which a proof tells two of them apart
abbrev pub connections_code : Coded (fin.FinMap nat_cmp (List ℕ))
connections_code = fin.code coded_ℕ (coded_list coded_ℕ)
