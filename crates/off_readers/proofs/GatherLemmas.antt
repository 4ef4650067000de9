-- Rows that are gathered by a walk: pools, leases, modems.
use Rattle.std.proofs.Common.{◌≡◌, ℕ, ◌<◌, Option, Some, None, List, [], ◌∷◌, ◌++◌, sym, ap, ◌∙◌, append_assoc}
use Rattle.std.proofs.lemmas.List.{append-nil}
use Rattle.std.specs.List.{cons_option}
use Rattle.off_defs.specs.declared.keys.Key.{Key}
use Rattle.off_defs.specs.declared.tables.Row.{Row}
use Rattle.off_defs.specs.State.{Tables}
use Rattle.off_defs.specs.Tables.{next_entry}
use Rattle.off_outside.specs.KeeperSeen.{KeeperSeen}
use Rattle.off_outside.specs.KeeperCalls.{Reads}
use Rattle.off_outside.proofs.KeeperLemmas.{reads_then, reads_as}
use Rattle.off_rows.specs.KeyBytes.{kind_of}
use Rattle.off_readers.proofs.WalkLemmas.{OnlyAt, left_of, left_next, left_none, kind_ends}

-- what a walk has gathered, and what is left of it, are all that it is to gather
abbrev pub Gathered : {A : Type 0} → (Key × Row → Option A) → (Tables → List A) → List A → Option Key → Tables → Type 0
Gathered give all found place t = all t ≡ found ++ left_of give place t

cons_append : {A : Type 0} (given : Option A) (xs ys : List A) → xs ++ cons_option given ys ≡ (xs ++ cons_option given []) ++ ys
cons_append None xs ys = ap (λ (v : List _). v ++ ys) (sym (append-nil xs))
cons_append (Some x) xs ys = sym (append_assoc xs (x ∷ []) ys)

-- what a call gave, by what its result is
pub next_is : {b c : KeeperSeen} (place : Option Key) (given wanted : Option (Key × Row)) → Reads (λ t. given ≡ next_entry place t) b c → given ≡ wanted
    → Reads (λ t. wanted ≡ next_entry place t) b c
next_is place given wanted next is = reads_as next (λ t one. sym is ∙ one)

pub gathered_more : {A : Type 0} {a b c : KeeperSeen} (give : Key × Row → Option A) (all : Tables → List A) (found more : List A) (place : Option Key) (entry : Key × Row)
    → Reads (Gathered give all found place) a b → Reads (λ t. Some entry ≡ next_entry place t) b c → more ≡ found ++ cons_option (give entry) []
    → Reads (Gathered give all more (Some entry.0)) a c
gathered_more give all found more place entry so_far next is = reads_then so_far next (λ t left one.
    left
    ∙ ap (λ v. found ++ v) (left_next give place entry t one)
    ∙ cons_append (give entry) found (left_of give (Some entry.0) t)
    ∙ ap (λ v. v ++ left_of give (Some entry.0) t) (sym is))

pub gathered_end : {A : Type 0} {a b c : KeeperSeen} (give : Key × Row → Option A) (all : Tables → List A) (found : List A) (place : Option Key)
    → Reads (Gathered give all found place) a b → Reads (λ t. None ≡ next_entry place t) b c → Reads (λ t. found ≡ all t) a c
gathered_end give all found place so_far next = reads_then so_far next (λ t left none.
    sym (left ∙ ap (λ v. found ++ v) (left_none give place t none) ∙ append-nil found))

pub gathered_past : {A : Type 0} {a b c : KeeperSeen} (kind : ℕ) (give : Key × Row → Option A) (all : Tables → List A) (found : List A) (place : Option Key) (entry : Key × Row)
    → OnlyAt kind give → kind < kind_of entry.0 → Reads (Gathered give all found place) a b → Reads (λ t. Some entry ≡ next_entry place t) b c → Reads (λ t. found ≡ all t) a c
gathered_past kind give all found place entry only past so_far next = reads_then so_far next (λ t left one.
    sym (left ∙ ap (λ v. found ++ v) (kind_ends only place entry t past one) ∙ append-nil found))
