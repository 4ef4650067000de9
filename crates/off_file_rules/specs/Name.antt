-- The name of a modem's configuration file, which the office gives in DHCP replies (RFC 2131,
-- section 2: `file`) and takes back in read requests (RFC 1350). Only who knows the site's secret
-- can make it. Its form is this project's profile.
use Rattle.std.specs.Prelude.{ℕ, List, ◌++◌, take, codes}
use Rattle.std.specs.Int.{w32, to_be_bytes}
use Rattle.hex.specs.Hex.{encode_lower}
use Rattle.off_base.specs.AddressText.{mac_text_of}
use Rattle.off_base.specs.declared.addresses.Ip4.{Ip4}
use Rattle.off_base.specs.declared.macs.Mac.{Mac}
use Rattle.off_mic.specs.Hmac.{hmac}

-- the modem's and its address's ten bytes, digested under the secret
abbrev pub name_key : List ℕ → Mac → Ip4 → List ℕ
name_key secret mac ip = hmac secret (mac.0 ++ to_be_bytes w32 ip.0)

-- the modem's twelve digits, `-`, the sixteen digits of the digest's first eight bytes, `.cm`
unfoldable pub name_of : List ℕ → Mac → Ip4 → List ℕ
name_of secret mac ip =
    mac_text_of mac.0 ++ codes "-" ++ encode_lower (take 8 (name_key secret mac ip)) ++ codes ".cm"
