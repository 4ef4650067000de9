-- Which rows and writes have a spelling.
use Rattle.std.proofs.Common.{◌≡◌, ℕ, zero, suc, ◌+◌, ◌++◌, ◌∷◌, [], List, take, refl, sym, subst, arith, Some}
use Rattle.std.specs.List.{slice_get}
use Rattle.off_base.proofs.TreeLemmas.{taken}
use Rattle.off_base.specs.Tree.{Tree, AllFit}
use Rattle.off_tlv.specs.Grammar.{Level, AllShaped, AllStand}
use Rattle.off_defs.specs.declared.keys.Key.{Key}
use Rattle.off_defs.specs.declared.keys.Key.TheVariants as key
use Rattle.off_defs.specs.declared.tables.Row.{Row}
use Rattle.off_defs.specs.declared.tables.Row.TheVariants.{Site, Subscriber, AddOn, Modem, Class, Pool, Lease, Held, Batch, PoolHub, Device}
use Rattle.off_defs.specs.declared.writes.Write.{Write}
use Rattle.off_rows.specs.RowBytes.{IsOfKind}
use Rattle.off_spelled.specs.RowKinds.{kind_at, row_kind}
use Rattle.off_spelled.specs.Storable.{IsSpelled, AllSpelled}

pub all_stand : (level : Level) (trees : List Tree) → AllShaped level trees → AllFit trees → AllStand level trees
all_stand level [] shaped fits = tt
all_stand level (t ∷ trees) shaped fits = (record { shaped = shaped.0; fits = fits.0 }, all_stand level trees shaped.1 fits.1)

pub all_shaped : (level : Level) (trees : List Tree) → AllStand level trees → AllShaped level trees
all_shaped level [] stand = tt
all_shaped level (t ∷ trees) stand = (stand.0.shaped, all_shaped level trees stand.1)

pub all_fit : (level : Level) (trees : List Tree) → AllStand level trees → AllFit trees
all_fit level [] stand = tt
all_fit level (t ∷ trees) stand = (stand.0.fits, all_fit level trees stand.1)

pub ruleset stand_rules = (all_stand, all_shaped, all_fit)

-- rows are of a key's kind exactly where the kinds have one number
pub of_kind : (k : Key) (row : Row) → kind_at k ≡ row_kind row → IsOfKind k row
of_kind key.Site (Site x) e = tt
of_kind (key.Subscriber n) (Subscriber x) e = tt
of_kind (key.AddOn n i) (AddOn x) e = tt
of_kind (key.Modem m) (Modem x) e = tt
of_kind (key.Class n) (Class x) e = tt
of_kind (key.Pool n) (Pool x) e = tt
of_kind (key.Lease a) (Lease x) e = tt
of_kind (key.Held m) (Held x) e = tt
of_kind (key.Batch n) (Batch x) e = tt
of_kind (key.Hub n) (Site x) e = tt
of_kind (key.PoolHub n) (PoolHub x) e = tt
of_kind (key.DevicePool n) (Pool x) e = tt
of_kind (key.Device a) (Device x) e = tt
of_kind _ _ e = absurd (omega (arith, e))

pub kind_is : (k : Key) (row : Row) → IsOfKind k row → kind_at k ≡ row_kind row
kind_is key.Site (Site x) e = refl
kind_is (key.Subscriber n) (Subscriber x) e = refl
kind_is (key.AddOn n i) (AddOn x) e = refl
kind_is (key.Modem m) (Modem x) e = refl
kind_is (key.Class n) (Class x) e = refl
kind_is (key.Pool n) (Pool x) e = refl
kind_is (key.Lease a) (Lease x) e = refl
kind_is (key.Held m) (Held x) e = refl
kind_is (key.Batch n) (Batch x) e = refl
kind_is (key.Hub n) (Site x) e = refl
kind_is (key.PoolHub n) (PoolHub x) e = refl
kind_is (key.DevicePool n) (Pool x) e = refl
kind_is (key.Device a) (Device x) e = refl
kind_is _ _ e = absurd e

-- writes one behind another
pub spelled_push : (xs : List Write) (x : Write) → AllSpelled xs → IsSpelled x → AllSpelled (xs ++ x ∷ [])
spelled_push [] x all one = (one, tt)
spelled_push (y ∷ xs) x all one = (all.0, spelled_push xs x all.1 one)

pub spelled_at : (xs : List Write) (i : ℕ) (x : Write) → slice_get xs i ≡ Some x → AllSpelled xs → IsSpelled x
spelled_at [] i x at all = cc
spelled_at (y ∷ xs) zero x at all = let same : y ≡ x = cc in subst (λ (w : Write). IsSpelled w) same all.0
spelled_at (y ∷ xs) (suc i) x at all = spelled_at xs i x at all.1

pub spelled_more : (xs : List Write) (i : ℕ) (x : Write) → slice_get xs i ≡ Some x → AllSpelled (take i xs) → IsSpelled x → AllSpelled (take (i + 1) xs)
spelled_more xs i x at all one = subst (λ (w : List Write). AllSpelled w) (sym (taken xs i x at)) (spelled_push (take i xs) x all one)
