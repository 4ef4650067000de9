-- The command that a request means is sound, and its site's secret fits.
use Rattle.std.proofs.Common.{◌≡◌, ℕ, Bool, true, false, cond, ◌&&◌, List, codes, Option, Some, None, Result, Ok, Err, IfOk, refl}
use Rattle.std.specs.Prelude.{bytes_eq}
use Rattle.serde_json.specs.Data.{Data}
use Rattle.off_defs.specs.declared.keys.Key.{Key}
use Rattle.off_defs.specs.declared.keys.Key.TheVariants as key
use Rattle.off_defs.specs.declared.tables.Pool.{Pool}
use Rattle.off_defs.specs.declared.tables.ImportKind.{ImportKind}
use Rattle.off_orders.specs.declared.orders.Command.{Command}
use Rattle.off_orders.specs.declared.orders.Command.TheVariants.{PutHub, PutSubscriber, PutAddOn, PutModem, PutClass, PutPool, PutDevicePool, Remove, Show}
use Rattle.off_orders.specs.Sound.{is_sound, is_sound_pool, is_shown, is_removable}
use Rattle.off_import_rules.specs.Reading.{import_in}
use Rattle.off_import_rules.specs.declared.faults.ImportFault.{ImportFault}
use Rattle.off_clerk_rules.specs.declared.faults.ClerkErr.{ClerkErr}
use Rattle.off_clerk_rules.specs.declared.faults.ClerkErr.TheVariants.{NoMethod}
use Rattle.off_clerk_rules.specs.Commands.{◌>>=◌, site_in, subscriber_in, add_on_in, modem_in, class_in, pool_in, hub_of_pool_in, object_in, put_read, as_import, asked_at, command_read}
use Rattle.off_clerk_rules.specs.Paths.{path_of, place_at}
use Rattle.off_clerk_rules.specs.declared.places.Place.{Place}
use Rattle.off_clerk_rules.specs.declared.places.Place.TheVariants as at
use Rattle.off_clerk_rules.proofs.PathLemmas.{NamesOne}
use Rattle.off_order_laws.specs.Laws.{secret_fits}
use Rattle.off_laws.proofs.Paths.{path_named}
use Rattle.off_laws.proofs.Bodies.{subscriber_sound, pool_sound, site_fits}
use Rattle.off_laws.proofs.Imports.{import_sound}

abbrev pub MayBe : Command → Type 0
MayBe command = (is_sound command ≡ true) × (secret_fits command ≡ true)

-- a command that is made of what a body gives
made : {A : Type 0} (read : Result A ClerkErr) (P : A → Type 0) (make : A → Command) → IfOk read P → ((x : A) → P x → MayBe (make x))
    → IfOk (read >>= (λ x. Ok (make x))) MayBe
made (Ok x) P make h may = may x h
made (Err e) P make h may = tt

put_made : {A : Type 0} (object : Result Data ClerkErr) (read : Data → Result A ClerkErr) (P : A → Type 0) (make : A → Command)
    → ((d : Data) → IfOk (read d) P) → ((x : A) → P x → MayBe (make x)) → IfOk (object >>= (λ d. read d >>= (λ x. Ok (make x)))) MayBe
put_made (Ok d) read P make all may = made (read d) P make (all d) may
put_made (Err e) read P make all may = tt

anything : {A : Type 0} (r : Result A ClerkErr) → IfOk r (λ _. Unit {0})
anything (Ok x) = tt
anything (Err e) = tt

-- a pool's hub is read behind the pool, and may be any
with_hub : (n : ℕ) (read : Result Pool ClerkErr) (hub : Result ℕ ClerkErr) → IfOk read (λ pool. is_sound_pool pool ≡ true)
    → IfOk (read >>= (λ pool. hub >>= (λ number. Ok (PutPool n pool number)))) MayBe
with_hub n (Ok pool) (Ok number) sound = (sound, refl)
with_hub n (Ok pool) (Err e) sound = tt
with_hub n (Err e) hub sound = tt

pool_may : (n : ℕ) (object : Result Data ClerkErr) → IfOk (object >>= (λ d. pool_in d >>= (λ pool. hub_of_pool_in d >>= (λ number. Ok (PutPool n pool number))))) MayBe
pool_may n (Ok d) = with_hub n (pool_in d) (hub_of_pool_in d) (pool_sound d)
pool_may n (Err e) = tt

put_may : (row : Key) (body : List ℕ) → is_shown row ≡ true → IfOk (put_read row body) MayBe
put_may (key.Hub n) body shown = put_made (object_in body) site_in _ (PutHub n) site_fits (λ site fits. (refl, fits))
put_may (key.Subscriber n) body shown = put_made (object_in body) subscriber_in _ (PutSubscriber n) subscriber_sound (λ subscriber sound. (sound, refl))
put_may (key.AddOn n number) body shown =
    put_made (object_in body) add_on_in (λ _. Unit {0}) (PutAddOn n number) (λ d. anything (add_on_in d)) (λ settings _. (shown, refl))
put_may (key.Modem mac) body shown = put_made (object_in body) modem_in (λ _. Unit {0}) (PutModem mac) (λ d. anything (modem_in d)) (λ modem _. (refl, refl))
put_may (key.Class n) body shown = put_made (object_in body) class_in (λ _. Unit {0}) (PutClass n) (λ d. anything (class_in d)) (λ class _. (refl, refl))
put_may (key.Pool n) body shown = pool_may n (object_in body)
put_may (key.DevicePool n) body shown = put_made (object_in body) pool_in _ (PutDevicePool n) pool_sound (λ pool sound. (sound, refl))
put_may key.Site body shown = tt
put_may (key.Lease address) body shown = tt
put_may (key.Held mac) body shown = tt
put_may (key.Batch n) body shown = tt
put_may (key.PoolHub n) body shown = tt
put_may (key.Device address) body shown = tt

delete_may : (row : Key) (deletes named : Bool) → (deletes ≡ true → is_removable row ≡ true)
    → IfOk (cond (named && deletes) (Ok (Remove row)) (Err NoMethod)) MayBe
delete_may row true true may = (may refl, refl)
delete_may row false true may = tt
delete_may row deletes false may = tt

by_method : (row : Key) (deletes : Bool) (body : List ℕ) (get put delete : Bool) → is_shown row ≡ true → (deletes ≡ true → is_removable row ≡ true)
    → IfOk (cond get (Ok (Show row)) (cond put (put_read row body) (cond (delete && deletes) (Ok (Remove row)) (Err NoMethod)))) MayBe
by_method row deletes body true put delete shown removable = (shown, refl)
by_method row deletes body false true delete shown removable = put_may row body shown
by_method row deletes body false false delete shown removable = delete_may row deletes delete removable

import_may : (read : Result Command ImportFault) → IfOk read MayBe → IfOk (as_import read) MayBe
import_may (Ok command) may = may
import_may (Err e) may = tt

by_put : (kind : ImportKind) (batch : ℕ) (body : List ℕ) (put : Bool) → IfOk (cond put (as_import (import_in kind batch body)) (Err NoMethod)) MayBe
by_put kind batch body true = import_may (import_in kind batch body) (import_sound kind batch body)
by_put kind batch body false = tt

at_place : (found : Option Place) (method body : List ℕ) → NamesOne found → IfOk (asked_at found method body) MayBe
at_place (Some (at.Row row puts deletes)) method body may =
    by_method row deletes body (bytes_eq method (codes "GET")) (bytes_eq method (codes "PUT") && puts) (bytes_eq method (codes "DELETE")) may.0 may.1
at_place (Some (at.Import kind batch)) method body may = by_put kind batch body (bytes_eq method (codes "PUT"))
at_place None method body may = tt

pub request_may : (method target body : List ℕ) → IfOk (command_read method target body) MayBe
request_may method target body = at_place (place_at (path_of target)) method body (path_named (path_of target))
