-- What is remembered of agreement: what the tables said of an address, and until when they do.
use Rattle.std.specs.Prelude.{◌≡◌, ℕ, ◌<◌, ◌%◌, ◌==◌, ◌&&◌, nat_lt, Bool, true, false, List, [], ◌∷◌, replicate, slice_set, slice_index_or, Option, Some, None, IfSome, refl, if◌then◌else◌}
use Rattle.std.specs.List.{list_any}
use Rattle.std.specs.Str.{bytes_eq}
use Rattle.std.specs.Coded.{Coded, code_by, coded×, coded_ℕ, coded_list, coded_option}
use Rattle.off_base.specs.declared.addresses.Ip4.{Ip4}
use Rattle.off_defs.specs.declared.keys.Key.{Key}
use Rattle.off_defs.specs.declared.keys.Key.TheVariants.{Site, Subscriber, AddOn, Modem, Class}
use Rattle.off_defs.specs.declared.keys.Key.TheVariants.{Pool, Lease, Held, Batch}
use Rattle.off_defs.specs.declared.keys.Key.TheVariants.{Hub, PoolHub, DevicePool, Device}
use Rattle.off_defs.specs.declared.writes.Write.{Write}
use Rattle.off_defs.specs.State.{Tables, Transfer}
use Rattle.off_account_rules.specs.Rows.{passes}
use Rattle.off_base.specs.Macs.{is_same_mac}
use Rattle.off_defs.specs.Tables.{key_written}
use Rattle.off_transfer_rules.specs.Requests.{file_owner}
use Rattle.off_transfer_rules.specs.View.{View, view, agrees}
use Rattle.off_tftp.specs.declared.agreements.Agreement.{Agreement}

-- an address has one slot, in which one agreement may stand
abbrev pub Slots : Type 0
Slots = List (Option Agreement)

abbrev pub most_slots : ℕ
most_slots = 512

abbrev pub slot_of : Ip4 → ℕ
slot_of ip = ip.0 % most_slots

unfoldable pub none_remembered : Slots
none_remembered = replicate most_slots None

-- what stands in the slot of an address, whosever it is
abbrev pub in_slot : Ip4 → Slots → Option Agreement
in_slot ip slots = slice_index_or slots (slot_of ip) None

-- it's put in place of what stands in its slot
abbrev pub with_agreement : Agreement → Slots → Slots
with_agreement a slots = slice_set slots (slot_of a.ip) (Some a)

abbrev pub with_agreed : Option Agreement → Slots → Slots
with_agreed None slots = slots
with_agreed (Some a) slots = with_agreement a slots

-- ---- what it stands for

-- it's of this transfer of an address, and hasn't come to its end
abbrev pub stands_for : ℕ → Ip4 → Transfer → Agreement → Bool
stands_for now ip x a =
    nat_lt now a.until.0
    && ((a.ip.0 == ip.0)
    && (is_same_mac x.modem a.modem
    && ((x.subscriber == a.subscriber) && bytes_eq x.name a.name)))

-- it's remembered that the tables agree with a transfer of an address
abbrev pub is_remembered : ℕ → Ip4 → Slots → Transfer → Bool
is_remembered now ip slots x = passes (stands_for now ip x) (in_slot ip slots)

-- what there is for an address agrees with a transfer of it at a moment
abbrev pub agrees_now : View → ℕ → Ip4 → Transfer → Bool
agrees_now v now ip x = agrees v now ip x.name (file_owner x.modem x.subscriber)

-- ---- when it's right

-- what there is for its address agrees at each moment before its end
abbrev pub AgreesBy : View → Agreement → Type 0
AgreesBy v a =
    (now : ℕ) → now < a.until.0 → agrees v now a.ip a.name (file_owner a.modem a.subscriber) ≡ true

pub record IsAgreementOf (v : View) (ip : Ip4) (a : Agreement) : Type 0 where
  pub here : a.ip ≡ ip
  pub agrees : AgreesBy v a

-- what is remembered of an address, if anything is, agrees by what there is for it
abbrev pub RemembersRight : View → Ip4 → Slots → Type 0
RemembersRight v ip slots = IfSome (in_slot ip slots) (λ a. a.ip ≡ ip → AgreesBy v a)

-- what stands in a slot is of an address that has it, and the tables agree
pub record StandsRight (tables : Tables) (slot : ℕ) (a : Agreement) : Type 0 where
  pub place : slot_of a.ip ≡ slot
  pub agrees : AgreesBy (view tables a.ip) a

abbrev pub AllAgreed : Tables → Slots → Type 0
AllAgreed tables slots =
    (slot : ℕ) (a : Agreement) → slice_index_or slots slot None ≡ Some a
    → StandsRight tables slot a

-- ---- what writes end

-- a row of this key may say of any address whose it is, or what the name is
abbrev pub touches_all : Key → Bool
touches_all (Modem mac) = true
touches_all (Pool number) = true
touches_all (Hub number) = true
touches_all (PoolHub pool) = true
touches_all Site = false
touches_all (Subscriber number) = false
touches_all (AddOn subscriber number) = false
touches_all (Class number) = false
touches_all (Lease address) = false
touches_all (Held mac) = false
touches_all (Batch number) = false
touches_all (DevicePool number) = false
touches_all (Device address) = false

abbrev pub touch_all : List Write → Bool
touch_all writes = list_any (λ write. touches_all (key_written write)) writes

-- a lease ends what stands in the slot of its address
abbrev pub without_row : Key → Slots → Slots
without_row (Lease address) slots = slice_set slots (slot_of address) None
without_row other slots = slots

abbrev pub without_rows : List Write → Slots → Slots
without_rows [] slots = slots
without_rows (write ∷ writes) slots = without_rows writes (without_row (key_written write) slots)

abbrev pub without_touched : List Write → Slots → Slots
without_touched writes slots =
    if touch_all writes then none_remembered else without_rows writes slots

-- the code of slots, by which a proof tells two such lists apart
abbrev agreement_code : Coded Agreement
agreement_code =
    code_by ((ℕ × List ℕ) × (List ℕ × (ℕ × ℕ)))
    (coded× (coded× coded_ℕ (coded_list coded_ℕ))
    (coded× (coded_list coded_ℕ) (coded× coded_ℕ coded_ℕ)))
    (λ a. ((a.ip.0, a.name), (a.modem.0, (a.subscriber, a.until.0))))
    (λ p. record {
      ip = record { 0 = p.0.0 };
      name = p.0.1;
      modem = record { 0 = p.1.0 };
      subscriber = p.1.1.0;
      until = record { 0 = p.1.1.1 };
    })
    (λ _. refl)

abbrev pub slots_code : Coded Slots
slots_code = coded_list (coded_option agreement_code)
