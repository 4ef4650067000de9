-- The words with which the log has what became of a DHCP datagram. Which they are is this project's
-- profile.
use Rattle.std.specs.Prelude.{ℕ, Bool, true, false, List, codes}
use Rattle.off_dhcp.specs.declared.faults.DhcpFault.{DhcpFault}
use Rattle.off_dhcp.specs.declared.faults.DhcpFault.TheVariants as fault
use Rattle.off_lease_rules.specs.declared.words.DhcpWord.{DhcpWord}
use Rattle.off_lease_rules.specs.declared.words.DhcpWord.TheVariants as word

-- the word of a datagram that is no message; the log doesn't say where an option is cut
abbrev pub unread : DhcpFault → DhcpWord
unread fault.Short = word.Short
unread fault.Long = word.Long
unread fault.NotRequest = word.NotRequest
unread fault.Hardware = word.Hardware
unread fault.Cookie = word.Cookie
unread (fault.OptionCut place) = word.OptionCut
unread fault.NoType = word.NoType
unread fault.Overload = word.Overload

-- the words of messages that no rule refuses
abbrev pub acts : DhcpWord → Bool
acts word.Offer = true
acts word.Ack = true
acts word.Declined = true
acts word.Released = true
acts refused = false

abbrev pub word_text : DhcpWord → List ℕ
word_text word.Offer = codes "offer"
word_text word.Ack = codes "ack"
word_text word.Declined = codes "declined"
word_text word.Released = codes "released"
word_text word.Short = codes "dhcp-short"
word_text word.Long = codes "dhcp-long"
word_text word.NotRequest = codes "dhcp-not-request"
word_text word.Hardware = codes "dhcp-hardware"
word_text word.Cookie = codes "dhcp-cookie"
word_text word.OptionCut = codes "dhcp-option-cut"
word_text word.NoType = codes "dhcp-no-type"
word_text word.Overload = codes "dhcp-overload"
word_text word.NoSite = codes "no-site"
word_text word.NotServed = codes "not-served"
word_text word.RequestForm = codes "request-form"
word_text word.PartCut = codes "part-cut"
word_text word.RelayMismatch = codes "relay-mismatch"
word_text word.NotAModem = codes "not-a-modem"
word_text word.NoRelayPool = codes "no-relay-pool"
word_text word.UnknownModem = codes "unknown-modem"
word_text word.SerialMismatch = codes "serial-mismatch"
word_text word.OtherServer = codes "other-server"
word_text word.PoolFull = codes "pool-full"
word_text word.NoRecord = codes "no-record"
word_text word.NotYourAddress = codes "not-your-address"
