-- What is read of a body is in the ranges of its kind: a subscriber's count of devices, a pool's prefix and relay, a site's secret.
use Rattle.std.proofs.Common.{◌≡◌, ℕ, ◌≤◌, Bool, true, false, cond, not, ◌==◌, List, length, Option, Some, None, option_and_then, IfSome, Result, Ok, Err, IfOk, nat_le, refl, arith}
use Rattle.std.proofs.lemmas.Bool.Decides.{nat_tests}
use Rattle.std.proofs.lemmas.Bool.{and_from}
use Rattle.std.specs.Prelude.{ℤ, ok_or}
use Rattle.std.specs.Int.{is_in_range}
use Rattle.std.specs.Result.{result_ok}
use Rattle.hex.specs.Hex.{decode_of}
use Rattle.hex.specs.declared.error.FromHexError.{FromHexError}
use Rattle.hex.proofs.HexLemmas.{decode_of-ok}
use Rattle.serde_json.specs.Data.{Data}
use Rattle.serde_json.specs.Find.{get, as_bool, as_str, as_number, as_u64}
use Rattle.off_base.specs.Choices.{when}
use Rattle.off_base.specs.declared.addresses.Ip4.{Ip4}
use Rattle.off_defs.specs.declared.tables.Site.{Site}
use Rattle.off_defs.specs.declared.tables.Subscriber.{Subscriber}
use Rattle.off_defs.specs.declared.tables.Pool.{Pool}
use Rattle.off_orders.specs.Sound.{is_sound_pool}
use Rattle.off_account_rules.specs.Rows.{subscriber_fits}
use Rattle.off_clerk_rules.specs.declared.faults.ClerkErr.{ClerkErr}
use Rattle.off_clerk_rules.specs.declared.faults.ClerkErr.TheVariants.{Field}
use Rattle.off_clerk_rules.specs.declared.names.Name.{Name}
use Rattle.off_clerk_rules.specs.declared.names.Name.TheVariants as field
use Rattle.off_clerk_rules.specs.Commands.{◌>>=◌, site_in, subscriber_in, pool_in}
use Rattle.off_clerk_rules.specs.Fields.{member_in, field_in, number_in, offset_in, text_in, address_in, relay_in, hex_of, hex_in}
use Rattle.off_clerk_rules.specs.Names.{name_text}
use Rattle.off_clerk_rules.specs.Paths.{last_number}

-- a field has what each value that is read for it has
read_ok : {A : Type 0} (P : A → Type 0) (which : Name) (read : Option A) (err : ClerkErr) → IfSome read P → IfOk (ok_or read err) P
read_ok P which (Some x) err h = h
read_ok P which None err h = tt

member_ok : {A : Type 0} (P : A → Type 0) (which : Name) (read : Data → Option A) (held : Option Data) → ((d : Data) → IfSome (read d) P)
    → IfOk (member_in (Err (Field which)) which read held) P
member_ok P which read (Some d) all = read_ok P which (read d) _ (all d)
member_ok P which read None all = tt

field_ok : {A : Type 0} (P : A → Type 0) (which : Name) (read : Data → Option A) (body : Data) → ((d : Data) → IfSome (read d) P)
    → IfOk (field_in which read body) P
field_ok P which read body all = member_ok P which read (get (name_text which) body) all

-- a number within bounds, an address that isn't 0.0.0.0, a secret of at most so many bytes
ranged_if : (least most n : ℕ) (b : Bool) → is_in_range least most n ≡ b → IfSome (when b n) (λ (m : ℕ). is_in_range least most m ≡ true)
ranged_if least most n true e = e
ranged_if least most n false e = tt

ranged_of : (least most : ℕ) (read : Option ℕ)
    → IfSome (option_and_then (λ n. when (is_in_range least most n) n) read) (λ (m : ℕ). is_in_range least most m ≡ true)
ranged_of least most (Some n) = ranged_if least most n _ refl
ranged_of least most None = tt

ranged : (least most : ℕ) (d : Data) → IfSome (number_in least most d) (λ (n : ℕ). is_in_range least most n ≡ true)
ranged least most d = ranged_of least most (option_and_then as_u64 (as_number d))

relay_if : (address : Ip4) (b : Bool) → not (address.0 == 0) ≡ b → IfSome (when b address) (λ (a : Ip4). not (a.0 == 0) ≡ true)
relay_if address true e = e
relay_if address false e = tt

relay_of : (read : Option Ip4) → IfSome (option_and_then (λ (address : Ip4). when (not (address.0 == 0)) address) read) (λ (a : Ip4). not (a.0 == 0) ≡ true)
relay_of (Some address) = relay_if address _ refl
relay_of None = tt

decoded_short : (text : List ℕ) (r : Result (List ℕ) FromHexError) → decode_of text ≡ r → length text ≤ 128
    → IfSome (result_ok r) (λ (bytes : List ℕ). nat_le (length bytes) 64 ≡ true)
decoded_short text (Ok bytes) e few = let twice = (decode_of-ok text bytes e).2 in let short : length bytes ≤ 64 = omega (arith, twice, few) in grind (arith, nat_tests)
decoded_short text (Err err) e few = tt

hex_if : (text : List ℕ) (b : Bool) → nat_le (length text) 128 ≡ b → IfSome (cond b (result_ok (decode_of text)) None) (λ (bytes : List ℕ). nat_le (length bytes) 64 ≡ true)
hex_if text true e = let few : length text ≤ 128 = grind (arith, nat_tests) in decoded_short text _ refl few
hex_if text false e = tt

secret_of : (read : Option (List ℕ)) → IfSome (option_and_then (hex_of 64) read) (λ (bytes : List ℕ). nat_le (length bytes) 64 ≡ true)
secret_of (Some text) = hex_if text _ refl
secret_of None = tt

-- the rows that are made of fields
subscriber_with : (active : Result Bool ClerkErr) (cpes : Result ℕ ClerkErr) (text : Result (List ℕ) ClerkErr) → IfOk cpes (λ (n : ℕ). is_in_range 1 254 n ≡ true)
    → IfOk (active >>= (λ a. cpes >>= (λ c. text >>= (λ t. Ok (record { active = a; cpes = c; name = t }))))) (λ (s : Subscriber). subscriber_fits s ≡ true)
subscriber_with (Ok a) (Ok c) (Ok t) h = h
subscriber_with (Ok a) (Ok c) (Err e) h = tt
subscriber_with (Ok a) (Err e) text h = tt
subscriber_with (Err e) cpes text h = tt

pool_with : (first last : Result Ip4 ClerkErr) (prefix : Result ℕ ClerkErr) (router relay : Result Ip4 ClerkErr)
    → IfOk prefix (λ (n : ℕ). is_in_range 8 30 n ≡ true) → IfOk relay (λ (a : Ip4). not (a.0 == 0) ≡ true)
    → IfOk (first >>= (λ f. last >>= (λ l. prefix >>= (λ p. router >>= (λ o. relay >>= (λ r. Ok (record { first = f; last = l; prefix = p; router = o; relay = r }))))))) (λ (p : Pool). is_sound_pool p ≡ true)
pool_with (Ok f) (Ok l) (Ok p) (Ok o) (Ok r) inside there = and_from _ _ inside there
pool_with (Ok f) (Ok l) (Ok p) (Ok o) (Err e) inside there = tt
pool_with (Ok f) (Ok l) (Ok p) (Err e) relay inside there = tt
pool_with (Ok f) (Ok l) (Err e) router relay inside there = tt
pool_with (Ok f) (Err e) prefix router relay inside there = tt
pool_with (Err e) last prefix router relay inside there = tt

site_with : (server : Result Ip4 ClerkErr) (secret : Result (List ℕ) ClerkErr) (offset : Result ℤ ClerkErr) (lease : Result ℕ ClerkErr) (log : Result Ip4 ClerkErr)
    → IfOk secret (λ (bytes : List ℕ). nat_le (length bytes) 64 ≡ true)
    → IfOk (server >>= (λ v. secret >>= (λ k. offset >>= (λ o. lease >>= (λ l. log >>= (λ g. Ok (record { server = v; secret = k; offset = o; lease = l; log = g })))))))
    (λ (site : Site). nat_le (length site.secret) 64 ≡ true)
site_with (Ok v) (Ok k) (Ok o) (Ok l) (Ok g) short = short
site_with (Ok v) (Ok k) (Ok o) (Ok l) (Err e) short = tt
site_with (Ok v) (Ok k) (Ok o) (Err e) log short = tt
site_with (Ok v) (Ok k) (Err e) lease log short = tt
site_with (Ok v) (Err e) offset lease log short = tt
site_with (Err e) secret offset lease log short = tt

pub subscriber_sound : (body : Data) → IfOk (subscriber_in body) (λ (s : Subscriber). subscriber_fits s ≡ true)
subscriber_sound body =
    subscriber_with (field_in field.Active as_bool body) (field_in field.Cpes (number_in 1 254) body) (field_in field.Name text_in body)
    (field_ok (λ (n : ℕ). is_in_range 1 254 n ≡ true) field.Cpes (number_in 1 254) body (ranged 1 254))

pub pool_sound : (body : Data) → IfOk (pool_in body) (λ (p : Pool). is_sound_pool p ≡ true)
pool_sound body =
    pool_with (field_in field.First address_in body) (field_in field.Last address_in body) (field_in field.Prefix (number_in 8 30) body)
    (field_in field.Router address_in body) (field_in field.Relay relay_in body)
    (field_ok (λ (n : ℕ). is_in_range 8 30 n ≡ true) field.Prefix (number_in 8 30) body (ranged 8 30))
    (field_ok (λ (a : Ip4). not (a.0 == 0) ≡ true) field.Relay relay_in body (λ d. relay_of (address_in d)))

pub site_fits : (body : Data) → IfOk (site_in body) (λ (site : Site). nat_le (length site.secret) 64 ≡ true)
site_fits body =
    site_with (field_in field.Server address_in body) (field_in field.Secret (hex_in 64) body) (field_in field.Offset offset_in body)
    (field_in field.Lease (number_in 0 last_number) body) (field_in field.Log address_in body)
    (field_ok (λ (bytes : List ℕ). nat_le (length bytes) 64 ≡ true) field.Secret (hex_in 64) body (λ d. secret_of (as_str d)))
