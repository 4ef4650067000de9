-- The text of what a fault names, for private clauses.
use Rattle.std.specs.Prelude.{ℕ, List, decimal}
use Rattle.off_base.specs.AddressText.{ip_text_of}
use Rattle.off_clerk.specs.declared.details.Detail.{Detail}
use Rattle.off_clerk.specs.declared.details.Detail.TheVariants.{Field, Number, Address, Import}
use Rattle.off_clerk_rules.specs.Names.{name_text}

abbrev pub detail_text : Detail → List ℕ
detail_text (Field name) = name_text name
detail_text (Number number) = decimal number
detail_text (Address address) = ip_text_of address.0
detail_text (Import place) = place.items
