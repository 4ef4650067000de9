-- What is kept of a message's options once they are read.
use Rattle.std.specs.Prelude.{◌≡◌, ℕ, ◌==◌, Bool, true, false, not, IfOk}
use Rattle.off_base.specs.Parts.{bytes_of}
use Rattle.off_dhcp.specs.Datagram.{Received, option_in}
use Rattle.off_docsis.specs.Cable.{device_of, relay_of, ShowsDevice, ShowsRelay, begins_as_modem}
use Rattle.off_account_rules.specs.Rows.{passes}
use Rattle.off_asking.specs.Asking.{vendor_parts, relay_parts}
use Rattle.off_asking.specs.declared.kinds.Kind.{Kind}
use Rattle.off_asking.specs.declared.kinds.Kind.TheVariants.{Discover, Request, Decline, Release, Other}
use Rattle.off_asking.specs.declared.parts.Said.{Said}

-- the number of a kind (RFC 2132 section 9.6), by what is asked of it
pub record Answers (code : ℕ) (discovers requests declines releases : Bool) : Type 0 where
  pub discovers_is : (code == 1) ≡ discovers
  pub requests_is : (code == 3) ≡ requests
  pub declines_is : (code == 4) ≡ declines
  pub releases_is : (code == 7) ≡ releases

abbrev pub IsKind : ℕ → Kind → Type 0
IsKind code Discover = Answers code true false false false
IsKind code Request = Answers code false true false false
IsKind code Decline = Answers code false false true false
IsKind code Release = Answers code false false false true
IsKind code (Other other) = Answers code false false false false

-- what the client says of itself in options 43 and 60, and the relay of it in option 82
pub record Says (m : Received) (said : Said) : Type 0 where
  pub vendor_is : said.vendor ≡ option_in 43 m.options
  pub device_is : said.device ≡ device_of (vendor_parts m)
  pub device_shown : IfOk said.device
      (λ found. ShowsDevice (bytes_of (option_in 43 m.options)) found (vendor_parts m))
  pub relay_is : said.relay ≡ option_in 82 m.options
  pub way_is : said.way ≡ relay_of (relay_parts m)
  pub way_shown : IfOk said.way
      (λ found. ShowsRelay (bytes_of (option_in 82 m.options)) found (relay_parts m))
  pub modem_is : said.is_modem ≡ begins_as_modem (bytes_of (option_in 60 m.options))
  pub other_is : said.is_other
      ≡ passes (λ class. not (begins_as_modem class)) (option_in 60 m.options)
