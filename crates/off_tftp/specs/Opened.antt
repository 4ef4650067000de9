-- A read request that didn't come before: what was found for it, or why it's refused, and the file
-- of what was read.
use Rattle.std.specs.Prelude.{◌≡◌, ℕ, ◌&&◌, Bool, false, List, Option, Some, is_some, option_map, IfSome, MatchOption}
use Rattle.off_base.specs.Tree.{Tree, spelling}
use Rattle.off_base.specs.declared.addresses.Ip4.{Ip4}
use Rattle.off_defs.specs.declared.tables.Site.{Site}
use Rattle.off_defs.specs.declared.tables.Modem.{Modem}
use Rattle.off_transfer_rules.specs.View.{View, IsBuiltBy}
use Rattle.off_transfer_rules.specs.Steps.{Denies, way_anew}
use Rattle.off_tftp.specs.Keeping.{entry_for}
use Rattle.off_tftp.specs.Seen.{view_with, held_by, IsNamed, CanServe}
use Rattle.off_tftp.specs.Granted.{IsFor, asked_in}
use Rattle.off_tftp.specs.Deciding.{Starts, denial_of}
use Rattle.off_tftp.specs.declared.gathering.Seen.{Seen}
use Rattle.off_tftp.specs.declared.opening.Found.{Found}
use Rattle.off_tftp.specs.declared.requests.Request.{Request}
use Rattle.off_tftp.specs.declared.requests.Grant.{Grant}
use Rattle.off_tftp.specs.declared.deciding.Decision.{Decision}
use Rattle.off_tftp.specs.declared.deciding.Refusal.{Refusal}

-- something of what it is made isn't there
abbrev pub IsMissing : View → Type 0
IsMissing v = (is_some v.site && is_some v.profile) ≡ false

abbrev pub IsBegun : View → ℕ → Ip4 → Option (List ℕ) → Type 0
IsBegun v now ip file = MatchOption file (IsMissing v) (λ file. IsBuiltBy v now ip file)

-- what a request is granted: no rule is broken
pub record Finds (now : ℕ) (seen : Seen) (lacks_room : Bool) (found : Found) : Type 0 where
  pub row : Modem
  pub modem_is : held_by now seen.lease ≡ Some found.modem
  pub row_is : seen.modem ≡ Some row
  pub subscriber_is : found.subscriber ≡ row.subscriber
  pub body_is : seen.body ≡ Some found.body.now
  pub room : lacks_room ≡ false

-- why it's refused, by what was seen with any profile whose body that is
abbrev pub Refuses : Request → Seen → Bool → Refusal → Type 0
Refuses request seen lacks_room why =
    (profile : Option (List Tree)) → seen.body ≡ entry_for seen.modem profile
    → IsNamed request.at.0 request.from.ip request.name.now seen
    → way_anew (view_with seen profile) request.at.0 request.from.ip lacks_room (asked_in request)
    ≡ Denies (denial_of why)

-- a transfer of what was found begins, where there is a file
pub record Begins (request : Request) (site : Option Site) (found : Found) (d : Decision) : Type 0
  where
    pub grant : Option Grant
    pub starts : Starts request found.body.now grant d
    pub whose : IfSome grant (IsFor found.modem found.subscriber)
    pub built : (v : View) → v.site ≡ site
        → option_map spelling v.profile ≡ Some found.body.now.body
        → CanServe v request.at.0 request.from.ip
        → IsBegun v request.at.0 request.from.ip (option_map (λ g. g.file) grant)
