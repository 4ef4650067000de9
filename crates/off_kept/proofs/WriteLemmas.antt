-- Writes that change no row of a file leave all that is kept.
use Rattle.std.proofs.Common.{◌≡◌, Bool, false, cond, not, ◌||◌, List, [], ◌∷◌, refl, ap, ◌∙◌}
use Rattle.std.proofs.lemmas.Bool.{or_parts}
use Rattle.off_defs.specs.declared.keys.Key.{Key}
use Rattle.off_defs.specs.declared.keys.Key.TheVariants.{Site, Subscriber, AddOn, Modem, Class, Pool, Lease, Held, Batch, Hub, PoolHub, DevicePool, Device}
use Rattle.off_defs.specs.declared.writes.Write.{Write}
use Rattle.off_kept.specs.Entries.{Entry, Entries, stands_in, is_of_files, changes_files, is_written, without_written}
use Rattle.off_defs.specs.Tables.{key_written}

in_none : (k : Key) (e : Entry) → is_of_files k ≡ false → stands_in k e ≡ false
in_none (Modem mac) e none = cc
in_none (Subscriber number) e none = cc
in_none (AddOn subscriber number) e none = cc
in_none (Class number) e none = cc
in_none Site e none = refl
in_none (Pool number) e none = refl
in_none (Lease address) e none = refl
in_none (Held mac) e none = refl
in_none (Batch number) e none = refl
in_none (Hub number) e none = refl
in_none (PoolHub pool) e none = refl
in_none (DevicePool number) e none = refl
in_none (Device address) e none = refl

none_written : (writes : List Write) (e : Entry) → changes_files writes ≡ false → is_written writes e ≡ false
none_written [] e none = refl
none_written (write ∷ writes) e none =
    let both = or_parts (is_of_files (key_written write)) (changes_files writes) none in
    ap (λ (b : Bool). b || is_written writes e) (in_none (key_written write) e both.0) ∙ none_written writes e both.1

pub all_stay : (writes : List Write) (es : Entries) → changes_files writes ≡ false → without_written writes es ≡ es
all_stay writes [] none = refl
all_stay writes (e ∷ es) none =
    ap (λ (b : Bool). cond (not b) (e ∷ without_written writes es) (without_written writes es)) (none_written writes e none)
    ∙ ap (λ (rest : Entries). e ∷ rest) (all_stay writes es none)
