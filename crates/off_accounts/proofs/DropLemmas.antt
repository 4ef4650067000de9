-- The drops of leases that are lost, along a walk.
use Rattle.std.proofs.Common.{◌≡◌, Bool, true, false, cond, Option, Some, None, List, [], ◌∷◌, ◌++◌, map, refl, sym, ap, ◌∙◌, append_assoc}
use Rattle.std.specs.List.{filter, filter_map, flat_map, cons_option}
use Rattle.std.specs.FinMap as map_of
use Rattle.off_base.specs.declared.addresses.Ip4.{Ip4}
use Rattle.off_defs.specs.declared.keys.Key.{Key}
use Rattle.off_defs.specs.declared.tables.Row.{Row}
use Rattle.off_defs.specs.declared.tables.Pool.{Pool}
use Rattle.off_defs.specs.declared.tables.Lease.{Lease}
use Rattle.off_defs.specs.declared.tables.DeviceLease.{DeviceLease}
use Rattle.off_defs.specs.declared.writes.Write.{Write}
use Rattle.off_defs.specs.State.{Tables}
use Rattle.off_defs.specs.Tables.{is_after, behind, next_entry}
use Rattle.off_account_rules.specs.Rows.{lease_of, device_of, leases, devices}
use Rattle.off_account_rules.specs.Changes.{gives_up}
use Rattle.off_orders.specs.Clerk.{lease_drops, device_drop}
use Rattle.off_accounts.specs.declared.whose.Whose.{Whose}
use Rattle.off_accounts.specs.declared.whose.Whose.TheVariants.{Modems as OfModems, Devices as OfDevices}
use Rattle.off_accounts.specs.declared.lost.Lost.{Lost}
use Rattle.off_accounts.specs.Searches.{is_given_up, lost_drops, drops_by, drops_at, drops_from, lost_devices_from}
use Rattle.off_readers.proofs.FoldLemmas.{fold_next, fold_none, fold_begin, fold_past}
use Rattle.off_accounts.proofs.LostLemmas.{no_drops}

append_none : {A : Type 0} (xs : List A) → xs ++ [] ≡ xs
append_none [] = refl
append_none (x ∷ xs) = ap (λ (v : List _). x ∷ v) (append_none xs)

-- the drops of all entries, behind what was written before, are what is written now and the drops of the entries behind the place
abbrev pub IsLeftToDrop : Lost → List Write → List Write → Key → Tables → Type 0
IsLeftToDrop lost before now place t = before ++ flat_map (drops_at lost) (map_of.entries t) ≡ now ++ flat_map (drops_at lost) (behind (Some place) (map_of.entries t))

module _ {X : Type 0} (drops : Ip4 × X → List Write) (lost : Lost) where
  abbrev goes : Ip4 × X → Bool
  goes lease = gives_up (Some lost.old) lost.new lease.0

  drops_kept : (lease : Ip4 × X) (leases : List (Ip4 × X)) → flat_map drops (cond (goes lease) (lease ∷ filter goes leases) (filter goes leases)) ≡ cond (goes lease) (drops lease) [] ++ flat_map drops (filter goes leases)
  drops_kept lease leases =
      elim (goes lease) as (λ b. flat_map drops (cond b (lease ∷ filter goes leases) (filter goes leases)) ≡ cond b (drops lease) [] ++ flat_map drops (filter goes leases)) [ true ↦ refl | false ↦ refl ]

  drops_first : (given : Option (Ip4 × X)) (leases : List (Ip4 × X)) (rest : List Write) → flat_map drops (filter goes leases) ≡ rest
      → flat_map drops (filter goes (cons_option given leases)) ≡ lost_drops drops lost given ++ rest
  drops_first None leases rest e = e
  drops_first (Some lease) leases rest e = drops_kept lease leases ∙ ap (λ (v : List Write). cond (goes lease) (drops lease) [] ++ v) e

  given_drops : (give : Key × Row → Option (Ip4 × X)) (es : List (Key × Row)) → flat_map drops (filter goes (filter_map give es)) ≡ flat_map (λ (e : Key × Row). lost_drops drops lost (give e)) es
  given_drops give [] = refl
  given_drops give (e ∷ es) = drops_first (give e) (filter_map give es) (flat_map (λ (e : Key × Row). lost_drops drops lost (give e)) es) (given_drops give es)

one_by_one : {X : Type 0} (drop : X → Write) (xs : List X) → map drop xs ≡ flat_map (λ (x : X). drop x ∷ []) xs
one_by_one drop [] = refl
one_by_one drop (x ∷ xs) = ap (λ (v : List Write). drop x ∷ v) (one_by_one drop xs)

all_drops_by : (whose : Whose) (lost : Lost) (t : Tables) → drops_from whose (Some lost.old) lost.new t ≡ flat_map (drops_by whose lost) (map_of.entries t)
all_drops_by OfModems lost t = given_drops lease_drops lost lease_of (map_of.entries t)
all_drops_by OfDevices lost t = one_by_one device_drop (lost_devices_from (Some lost.old) lost.new t) ∙ given_drops (λ lease. device_drop lease ∷ []) lost device_of (map_of.entries t)

all_drops : (lost : Lost) (t : Tables) → drops_from lost.whose (Some lost.old) lost.new t ≡ flat_map (drops_at lost) (map_of.entries t)
all_drops lost t = all_drops_by lost.whose lost t

module _ (lost : Lost) (before : List Write) where
  abbrev add_drops : Key × Row → List Write → List Write
  add_drops e writes = drops_at lost e ++ writes

  none_added : (e : Key × Row) (writes : List Write) → is_given_up lost e.0 ≡ false → add_drops e writes ≡ writes
  none_added e writes is = ap (λ (v : List Write). v ++ writes) (no_drops lost e lost.whose is)

  pub drop_begin : (place : Key) (t : Tables) → ((e : Key × Row) → is_after (Some place) e ≡ false → is_given_up lost e.0 ≡ false) → IsLeftToDrop lost before before place t
  drop_begin place t none = ap (λ (v : List Write). before ++ v) (fold_begin (flat_map (drops_at lost)) add_drops (λ e es. refl) place t (λ e a up. none_added e a (none e up)))

  pub drop_none : (now : List Write) (place : Key) (t : Tables) → IsLeftToDrop lost before now place t → None ≡ next_entry (Some place) t
      → now ≡ before ++ drops_from lost.whose (Some lost.old) lost.new t
  drop_none now place t left next =
      sym (ap (λ (v : List Write). before ++ v) (all_drops lost t) ∙ left
      ∙ ap (λ (v : List Write). now ++ v) (fold_none (flat_map (drops_at lost)) add_drops (λ e es. refl) (Some place) t next) ∙ append_none now)

  pub drop_past : (now : List Write) (place : Key) (e : Key × Row) (t : Tables) → IsLeftToDrop lost before now place t → Some e ≡ next_entry (Some place) t
      → is_given_up lost e.0 ≡ false
      → ((other : Key × Row) → is_after (Some e.0) other ≡ true → is_given_up lost other.0 ≡ false)
      → now ≡ before ++ drops_from lost.whose (Some lost.old) lost.new t
  drop_past now place e t left next here later =
      sym (ap (λ (v : List Write). before ++ v) (all_drops lost t) ∙ left
      ∙ ap (λ (v : List Write). now ++ v)
      (fold_past (flat_map (drops_at lost)) add_drops (λ e es. refl) (Some place) e t next (λ a. none_added e a here) (λ other a after. none_added other a (later other after)))
      ∙ append_none now)

  pub drop_on : (now more : List Write) (place : Key) (e : Key × Row) (t : Tables) → IsLeftToDrop lost before now place t → Some e ≡ next_entry (Some place) t
      → more ≡ now ++ drops_at lost e → IsLeftToDrop lost before more e.0 t
  drop_on now more place e t left next is =
      left ∙ ap (λ (v : List Write). now ++ v) (fold_next (flat_map (drops_at lost)) add_drops (λ e es. refl) (Some place) e t next)
      ∙ sym (append_assoc now (drops_at lost e) (flat_map (drops_at lost) (behind (Some e.0) (map_of.entries t))))
      ∙ ap (λ (v : List Write). v ++ flat_map (drops_at lost) (behind (Some e.0) (map_of.entries t))) (sym is)

none_kept : {X : Type 0} (xs : List X) → filter (λ x. false) xs ≡ []
none_kept [] = refl
none_kept (x ∷ xs) = none_kept xs

-- without a pool before nothing is lost
nothing_from : (whose : Whose) (new : Option Pool) (t : Tables) → drops_from whose None new t ≡ []
nothing_from OfModems new t = ap (λ (v : List (Ip4 × Lease)). flat_map lease_drops v) (none_kept (leases t))
nothing_from OfDevices new t = ap (λ (v : List (Ip4 × DeviceLease)). map device_drop v) (none_kept (devices t))

pub nothing_lost : (whose : Whose) (old new : Option Pool) (first : List Write) (t : Tables) → old ≡ None → first ≡ first ++ drops_from whose old new t
nothing_lost whose old new first t none =
    sym (ap (λ (o : Option Pool). first ++ drops_from whose o new t) none ∙ ap (λ (v : List Write). first ++ v) (nothing_from whose new t) ∙ append_none first)
