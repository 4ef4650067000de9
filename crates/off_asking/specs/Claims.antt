-- Conditions of refusal that are the same for each client: by what its message says, the address
-- that is its own, and its pool.
use Rattle.std.specs.Prelude.{◌==◌, Bool, not, ◌&&◌, ◌||◌, List, [], ◌∷◌, Option, Some, None, is_none, if◌then◌else◌}
use Rattle.off_base.specs.declared.addresses.Ip4.{Ip4}
use Rattle.off_defs.specs.declared.tables.Pool.{Pool}
use Rattle.off_defs.specs.declared.tables.Site.{Site}
use Rattle.off_dhcp.specs.Datagram.{Received}
use Rattle.off_account_rules.specs.Rows.{passes, has_address}
use Rattle.off_account_rules.specs.Good.{is_address}
use Rattle.off_asking.specs.Asking.{is_request, asks, gives_back, named_server, at_address, is_formless, is_selecting, form_of, claimed}

abbrev pub is_served : Received → Bool
is_served m = asks m || gives_back m

abbrev pub has_no_form : Received → Bool
has_no_form m = is_request m && is_formless (form_of m)

abbrev pub is_another : Site → Ip4 → Bool
is_another site server = not (server.0 == site.server.0)

abbrev pub names_another_server : Received → Site → Bool
names_another_server m site = passes (is_another site) (at_address (named_server m))

-- the address that the client claims is its own, or lies in its pool
abbrev pub claims_own : Received → Option Ip4 → Bool
claims_own m own = passes (λ address. passes (is_address address) own) (claimed m)

abbrev pub claims_in_pool : Received → Option Pool → Bool
claims_in_pool m pool =
    passes (λ address. passes (λ pool. has_address pool address) pool) (claimed m)

-- Who selects an offer that was never made is told that the address isn't its own; who has one of
-- which the office knows nothing gets no answer (RFC 2131 section 4.3.2).
abbrev pub lacks_record : Received → Option Ip4 → Bool
lacks_record m own =
    (is_request m && not (is_selecting (form_of m)) && is_none own) ||
    (gives_back m && not (claims_own m own))

abbrev pub claims_wrongly : Received → Option Ip4 → Option Pool → Bool
claims_wrongly m own pool = is_request m && not (claims_own m own && claims_in_pool m pool)

-- the word of the first rule that is broken
abbrev pub refused_by : {W : Type 0} → List (W × Bool) → Option W
refused_by [] = None
refused_by (rule ∷ rules) = if rule.1 then Some rule.0 else refused_by rules
