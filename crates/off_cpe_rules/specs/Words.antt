-- The words with which the log has what became of a device's message. Which they are is this
-- project's profile.
use Rattle.std.specs.Prelude.{ℕ, Bool, true, false, List, codes}
use Rattle.off_cpe_rules.specs.declared.words.DeviceWord.{DeviceWord}
use Rattle.off_cpe_rules.specs.declared.words.DeviceWord.TheVariants as word

-- the words of messages that no rule refuses
abbrev pub acts : DeviceWord → Bool
acts word.Offer = true
acts word.Ack = true
acts word.Declined = true
acts word.Released = true
acts refused = false

abbrev pub device_text : DeviceWord → List ℕ
device_text word.Offer = codes "cpe-offer"
device_text word.Ack = codes "cpe-ack"
device_text word.Declined = codes "cpe-declined"
device_text word.Released = codes "cpe-released"
device_text word.NotServed = codes "not-served"
device_text word.Form = codes "cpe-form"
device_text word.NoPool = codes "cpe-no-pool"
device_text word.Suspended = codes "cpe-suspended"
device_text word.Offline = codes "cpe-offline"
device_text word.OtherServer = codes "cpe-other-server"
device_text word.Limit = codes "cpe-limit"
device_text word.PoolFull = codes "cpe-pool-full"
device_text word.NoRecord = codes "cpe-no-record"
device_text word.NotYours = codes "cpe-not-yours"
