-- What a peer's datagram is judged by: what is read of the tables for its address, by kind, and
-- when that agrees with a transfer. Who may read which file is this project's profile.
use Rattle.std.specs.Prelude.{◌≡◌, ℕ, ◌==◌, Bool, ◌&&◌, List, Option, Some, None, option_and_then, if◌then◌else◌}
use Rattle.std.specs.Str.{bytes_eq}
use Rattle.off_base.specs.Tree.{Tree}
use Rattle.off_base.specs.declared.addresses.Ip4.{Ip4}
use Rattle.off_base.specs.declared.macs.Mac.{Mac}
use Rattle.off_defs.specs.declared.tables.Site.{Site}
use Rattle.off_defs.specs.declared.tables.Modem.{Modem}
use Rattle.off_defs.specs.declared.tables.Lease.{Lease}
use Rattle.off_defs.specs.declared.tables.Hold.{Hold}
use Rattle.off_defs.specs.declared.tables.Hold.TheVariants.{Bound}
use Rattle.off_defs.specs.State.{Tables}
use Rattle.off_account_rules.specs.Rows.{passes, site_of, modem_in, lease_in}
use Rattle.off_account_rules.specs.Good.{owner_of, is_mac}
use Rattle.off_file_rules.specs.Name.{name_of}
use Rattle.off_file_rules.specs.Profile.{profile_in}
use Rattle.off_file_rules.specs.File.{IsBuilt}
use Rattle.off_lease_rules.specs.Free.{has_ended}
use Rattle.off_transfer_rules.specs.Requests.{FileOwner}

-- the site of the address's hub, the lease of the address, and of the modem that owns it the row and the profile
pub record View : Type 0 where
  pub site : Option Site
  pub lease : Option Lease
  pub modem : Option Modem
  pub profile : Option (List Tree)

abbrev pub owner_by : Option Lease → Option Mac
owner_by lease = option_and_then (λ lease. owner_of lease.hold) lease

abbrev pub view_by : Tables → Option Site → Option Lease → View
view_by tables site lease = record {
  site = site;
  lease = lease;
  modem = option_and_then (modem_in tables) (owner_by lease);
  profile = option_and_then (profile_in tables) (owner_by lease);
}

unfoldable pub view : Tables → Ip4 → View
view tables ip = view_by tables (site_of tables ip) (lease_in tables ip)

-- the modem to which the address is bound, by a lease that hasn't ended
abbrev pub bound_to : Hold → Option Mac
bound_to (Bound mac) = Some mac
bound_to hold = None

abbrev pub holder : ℕ → View → Option Mac
holder now v =
    if has_ended now v.lease then None else option_and_then (λ lease. bound_to lease.hold) v.lease

-- the name of the modem's file at the address
abbrev pub is_own_name : List ℕ → Mac → Ip4 → Site → Bool
is_own_name name mac ip site = bytes_eq name (name_of site.secret mac ip)

abbrev pub is_of_subscriber : ℕ → Modem → Bool
is_of_subscriber subscriber modem = modem.subscriber == subscriber

-- The tables agree with a file of this name for a modem of a subscriber: the address is bound to
-- the modem, the modem is the subscriber's, and the name is that of its file.
abbrev pub agrees : View → ℕ → Ip4 → List ℕ → FileOwner → Bool
agrees v now ip name owner =
    passes (is_mac owner.modem) (holder now v)
    && (passes (is_of_subscriber owner.subscriber) v.modem
    && passes (is_own_name name owner.modem ip) v.site)

-- the file that is built of all this at a moment
pub record IsBuiltBy (v : View) (now : ℕ) (ip : Ip4) (file : List ℕ) : Type 0 where
  pub site : Site
  pub profile : List Tree
  pub site_is : v.site ≡ Some site
  pub profile_is : v.profile ≡ Some profile
  pub built : IsBuilt site.secret profile now ip file
