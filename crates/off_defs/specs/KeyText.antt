-- The text of a key, as it stands on a line of the log: its kind and its numbers.
use Rattle.std.specs.Prelude.{ℕ, List, ◌++◌, codes}
use Rattle.std.specs.Fmt.{decimal}
use Rattle.off_base.specs.AddressText.{mac_text_of, ip_text_of}
use Rattle.off_defs.specs.declared.keys.Key.{Key}
use Rattle.off_defs.specs.declared.keys.Key.TheVariants.{Site, Subscriber, AddOn, Modem, Class}
use Rattle.off_defs.specs.declared.keys.Key.TheVariants.{Pool, Lease, Held, Batch}
use Rattle.off_defs.specs.declared.keys.Key.TheVariants.{Hub, PoolHub, DevicePool, Device}

abbrev pub key_text_of : Key → List ℕ
key_text_of Site = codes "site"
key_text_of (Subscriber number) = codes "subscriber " ++ decimal number
key_text_of (AddOn subscriber number) =
    codes "add-on " ++ decimal subscriber ++ codes " " ++ decimal number
key_text_of (Modem mac) = codes "modem " ++ mac_text_of mac.0
key_text_of (Class number) = codes "class " ++ decimal number
key_text_of (Pool number) = codes "pool " ++ decimal number
key_text_of (Lease address) = codes "lease " ++ ip_text_of address.0
key_text_of (Held mac) = codes "held " ++ mac_text_of mac.0
key_text_of (Batch number) = codes "batch " ++ decimal number
key_text_of (Hub number) = codes "hub " ++ decimal number
key_text_of (PoolHub pool) = codes "pool-hub " ++ decimal pool
key_text_of (DevicePool number) = codes "device-pool " ++ decimal number
key_text_of (Device address) = codes "device " ++ ip_text_of address.0
