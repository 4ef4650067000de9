-- Rows that are read in the order of their keys, and put one behind the other.
use Rattle.std.proofs.Common.{◌≡◌, Bool, true, false, cond, Option, Some, None, List, [], ◌∷◌, refl, sym, ap, ◌∙◌}
use lib.Dec.{T}
use Rattle.std.specs.Ordering.{eq_by_cmp}
use Rattle.std.specs.FinMap as map
use Rattle.std.specs.FinMap.Entries as list
use Rattle.off_defs.specs.declared.keys.Key.{Key}
use Rattle.off_defs.specs.declared.tables.Row.{Row}
use Rattle.off_defs.specs.Keys.{key_cmp}
use Rattle.off_defs.specs.State.{Tables}
use Rattle.off_defs.specs.Tables.{row_at, with_row, behind, next_entry}
use Rattle.off_defs.proofs.EntryLemmas.{first, second, none_below}
use Rattle.off_defs.proofs.TableLemmas.{same_key, same_tables, row_with, next_of, next_none}
use Rattle.off_outside.specs.KeeperSeen.{KeeperSeen}
use Rattle.off_outside.specs.KeeperCalls.{Reads}
use Rattle.off_outside.proofs.KeeperLemmas.{reads_then, reads_none}

-- entries put one behind the other
abbrev pub put_all : Tables → List (Key × Row) → Tables
put_all t [] = t
put_all t (e ∷ es) = put_all (with_row t e.0 e.1) es

-- the first of two that is there
abbrev first_some : {A : Type 0} → Option A → Option A → Option A
first_some None y = y
first_some (Some x) y = Some x

first_none : {A : Type 0} (x : Option A) → first_some x None ≡ x
first_none None = refl
first_none (Some x) = refl

put_head : (here : Option Row) (e : Key × Row) (es : List (Key × Row)) (q : Key) (b : Bool) → eq_by_cmp key_cmp q e.0 ≡ b → T (list.below_all key_cmp e.0 es)
    → first_some (list.find key_cmp q es) (cond b (Some e.1) here) ≡ first_some (cond b (Some e.1) (list.find key_cmp q es)) here
put_head here e es q true is below =
    ap (λ (found : Option Row). first_some found (Some e.1)) (ap (λ (k : Key). list.find key_cmp k es) (same_key q e.0 is) ∙ none_below key_cmp e.0 es below)
put_head here e es q false is below = refl

-- of entries in order, the one of a key stands, or what stood before
put_row : (t : Tables) (es : List (Key × Row)) (q : Key) → T (list.is_sorted key_cmp es) → row_at (put_all t es) q ≡ first_some (list.find key_cmp q es) (row_at t q)
put_row t [] q sorted = refl
put_row t (e ∷ es) q sorted =
    put_row (with_row t e.0 e.1) es q (second _ _ sorted)
    ∙ (ap (λ (here : Option Row). first_some (list.find key_cmp q es) here) (row_with t e.0 e.1 q)
    ∙ put_head (row_at t q) e es q (eq_by_cmp key_cmp q e.0) refl (first _ _ sorted))

-- all entries of tables make these tables
all_put : (t : Tables) → put_all map.empty (map.entries t) ≡ t
all_put t = same_tables (put_all map.empty (map.entries t)) t (λ q.
    put_row map.empty (map.entries t) q (map.entries_sorted t)
    ∙ (ap (λ (here : Option Row). first_some (list.find key_cmp q (map.entries t)) here) (map.get-empty key_cmp q)
    ∙ (first_none (list.find key_cmp q (map.entries t)) ∙ sym (map.get-entries t q))))

all_left : (es : List (Key × Row)) → behind None es ≡ es
all_left [] = refl
all_left (e ∷ es) = ap (λ (v : List (Key × Row)). e ∷ v) (all_left es)

-- rows that were read up to a place: with all that is left of the walk they are the tables
abbrev pub ReadTo : Tables → Option Key → Tables → Type 0
ReadTo rows place t = put_all rows (behind place (map.entries t)) ≡ t

pub read_none : (a : KeeperSeen) (rows : Tables) → rows ≡ map.empty → Reads (ReadTo rows None) a a
read_none a rows is = reads_none (λ t.
    ap (λ (es : List (Key × Row)). put_all rows es) (all_left (map.entries t)) ∙ (ap (λ (u : Tables). put_all u (map.entries t)) is ∙ all_put t))

pub read_more : {a b c : KeeperSeen} (rows more : Tables) (place : Option Key) (key : Key) (row : Row) → Reads (ReadTo rows place) a b
    → Reads (λ t. Some (key, row) ≡ next_entry place t) b c → more ≡ with_row rows key row → Reads (ReadTo more (Some key)) a c
read_more rows more place key row so_far next is = reads_then so_far next (λ t has one.
    ap (λ (u : Tables). put_all u (behind (Some key) (map.entries t))) is
    ∙ (ap (λ (es : List (Key × Row)). put_all rows es) (sym (next_of place (key, row) t (sym one))) ∙ has))

pub read_end : {a b c : KeeperSeen} (rows : Tables) (place : Option Key) → Reads (ReadTo rows place) a b
    → Reads (λ t. None ≡ next_entry place t) b c → Reads (λ t. rows ≡ t) a c
read_end rows place so_far next = reads_then so_far next (λ t has none.
    ap (λ (es : List (Key × Row)). put_all rows es) (sym (next_none place t (sym none))) ∙ has)
