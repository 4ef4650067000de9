-- What is read for a peer, as it is judged; and the profile of rows that were read.
use Rattle.std.specs.Prelude.{◌≡◌, ℕ, Bool, List, Option, Some, None, is_some, true, option_map, option_and_then, if◌then◌else◌}
use Rattle.off_base.specs.Tree.{Tree}
use Rattle.off_base.specs.declared.addresses.Ip4.{Ip4}
use Rattle.off_base.specs.declared.macs.Mac.{Mac}
use Rattle.off_defs.specs.declared.tables.Site.{Site}
use Rattle.off_defs.specs.declared.tables.Subscriber.{Subscriber}
use Rattle.off_defs.specs.declared.tables.Class.{Class}
use Rattle.off_defs.specs.declared.tables.Lease.{Lease}
use Rattle.off_defs.specs.State.{Tables}
use Rattle.off_account_rules.specs.Rows.{passes, hub_in, lease_in}
use Rattle.off_lease_rules.specs.Free.{has_ended}
use Rattle.off_file_rules.specs.Profile.{profile_of}
use Rattle.off_transfer_rules.specs.View.{View, view_by, bound_to, holder, is_own_name}
use Rattle.off_tftp.specs.Built.{CanBuild}
use Rattle.off_tftp.specs.Keeping.{entry_for}
use Rattle.off_tftp.specs.declared.gathering.Seen.{Seen}

-- What the tables have for an address, with the site of a hub that is told with it. Where it's the
-- hub of the address, it's what the tables have by themselves.
unfoldable pub view_at : Tables → Option ℕ → Ip4 → View
view_at tables hub ip =
    view_by tables (option_and_then (hub_in tables) hub) (lease_in tables ip)

-- all of it but the profile: of that the spelling is seen, which may have been kept
abbrev pub view_of : Seen → View
view_of seen =
    record { site = seen.site; lease = seen.lease; modem = seen.modem; profile = None }

abbrev pub view_with : Seen → Option (List Tree) → View
view_with seen profile =
    record { site = seen.site; lease = seen.lease; modem = seen.modem; profile = profile }

-- all of it but the profile, which an acknowledgement doesn't need
abbrev pub without_profile : View → View
without_profile v = record v { profile = None }

-- the name is that of the file of the modem to which the address is bound
abbrev pub names_file : ℕ → Ip4 → List ℕ → View → Bool
names_file now ip name v = passes (λ mac. passes (is_own_name name mac ip) v.site) (holder now v)

-- what a read request needs: the profile only where the name is right
abbrev pub seen_for : ℕ → Ip4 → List ℕ → View → View
seen_for now ip name v = if names_file now ip name v then v else without_profile v

-- where there is a body, the name is right
abbrev pub IsNamed : ℕ → Ip4 → List ℕ → Seen → Type 0
IsNamed now ip name seen = is_some seen.body ≡ true → names_file now ip name (view_of seen) ≡ true

-- where there is a body, the name is that of the modem's file
abbrev pub HasName : Ip4 → List ℕ → Mac → Seen → Type 0
HasName ip name mac seen =
    is_some seen.body ≡ true → passes (is_own_name name mac ip) seen.site ≡ true

-- the modem to which a lease binds at a moment
abbrev pub held_by : ℕ → Option Lease → Option Mac
held_by now lease =
    if has_ended now lease then None else option_and_then (λ lease. bound_to lease.hold) lease

-- the profile of these rows, where there are a subscriber and a class
abbrev pub profile_from : Option Subscriber → Option Class → List (ℕ × List Tree)
    → Option (List Tree)
profile_from who class add_ons =
    option_and_then
    (λ who. option_map (λ row. profile_of who.active who.cpes row.settings add_ons) class) who

-- what is seen is what a view has: its profile by the modem's entry
pub record Shows (seen : Seen) (v : View) : Type 0 where
  pub rest : view_of seen ≡ without_profile v
  pub entry : seen.body ≡ entry_for v.modem v.profile

-- what is seen has a file that can be built; what is read of tables has
abbrev pub CanServe : View → ℕ → Ip4 → Type 0
CanServe v now ip =
    (site : Site) (profile : List Tree) → v.site ≡ Some site → v.profile ≡ Some profile
    → CanBuild site.secret profile now ip
