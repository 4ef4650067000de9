-- Agreement with the tables, in rows; and the file that is built of what is read for an address.
use Rattle.std.proofs.Common.{◌≡◌, ℕ, ◌<◌, Bool, true, false, cond, ◌&&◌, nat_le, is_some, List, Option, Some, None, option_map, option_and_then, if◌then◌else◌, refl, sym, ap, subst, ◌∙◌}
use Rattle.std.proofs.lemmas.Bool.{leb-false, lt-leb, eqb-true, eq-eqb, and_parts, and_from}
use Rattle.std.proofs.lemmas.Slice.Eq.{bytes_eq-Decides}
use Rattle.off_defs.specs.declared.keys.Key.TheVariants as key
use Rattle.off_table_laws.proofs.TableLaws.{modems_stand}
use Rattle.off_transfer_rules.specs.Requests.{file_owner}
use Rattle.off_transfer_rules.specs.Steps.{has_file}
use Rattle.off_base.specs.Tree.{Tree}
use Rattle.off_base.specs.declared.addresses.Ip4.{Ip4}
use Rattle.off_base.specs.declared.macs.Mac.{Mac}
use Rattle.off_defs.specs.declared.tables.Site.{Site}
use Rattle.off_defs.specs.declared.tables.Class.{Class}
use Rattle.off_defs.specs.declared.tables.Subscriber.{Subscriber}
use Rattle.off_defs.specs.declared.tables.Modem.{Modem}
use Rattle.off_defs.specs.declared.tables.Hold.{Hold}
use Rattle.off_defs.specs.declared.tables.Hold.TheVariants.{Offered, Bound, Declined}
use Rattle.off_defs.specs.declared.tables.Lease.{Lease}
use Rattle.off_defs.specs.State.{Tables}
use Rattle.off_mic.specs.Mic.{Sealed}
use Rattle.off_mic.proofs.SealLemmas.{sealed_is_one}
use Rattle.off_account_rules.specs.Rows.{passes, site_of, modem_in, lease_in, subscriber_in, class_in}
use Rattle.off_account_rules.specs.Good.{owner_of, is_mac, Good}
use Rattle.off_file_rules.specs.Name.{name_of}
use Rattle.off_file_rules.specs.Profile.{profile_of, add_ons_in, profile_at, profile_in}
use Rattle.off_file_rules.specs.File.{with_stamps, IsFile}
use Rattle.off_file_laws.proofs.LawLemmas.{file_is_there}
use Rattle.off_lease_rules.specs.Free.{has_ended}
use Rattle.off_transfer_rules.specs.View.{View, owner_by, view, bound_to, holder, agrees, is_own_name, is_of_subscriber, IsBuiltBy}
use Rattle.off_transfer_laws.specs.Agreement.{Agreement}
use Rattle.off_account_rules.proofs.OwnerLemmas.{mac_same, mac_own}

-- what is built of one view is one file
pub built_is_one : (v : View) (now : ℕ) (ip : Ip4) (file other : List ℕ) → IsBuiltBy v now ip file → IsBuiltBy v now ip other → file ≡ other
built_is_one v now ip file other a b =
    let sites : Some b.site ≡ Some a.site = sym b.site_is ∙ a.site_is in
    let profiles : Some b.profile ≡ Some a.profile = sym b.profile_is ∙ a.profile_is in
    let site : b.site ≡ a.site = cc in
    let profile : b.profile ≡ a.profile = cc in
    let sealed : Sealed other (with_stamps a.profile now ip) a.site.secret =
    subst (λ (s : Site). Sealed other (with_stamps a.profile now ip) s.secret) site (subst (λ (p : List Tree). Sealed other (with_stamps p now ip) b.site.secret) profile b.built) in
    sealed_is_one file other a.site.secret (with_stamps a.profile now ip) a.built sealed

-- ---- the holder of a view: the lease is there, is bound to it, and hasn't ended

pub record LiveLease (now : ℕ) (lease : Option Lease) (mac : Mac) : Type 0 where
  pub row : Lease
  pub row_is : lease ≡ Some row
  pub bound : row.hold ≡ Bound mac
  pub live : now < row.expiry.0

bound_is : (hold : Hold) (mac : Mac) → bound_to hold ≡ Some mac → hold ≡ Bound mac
bound_is (Offered other) mac e = cc
bound_is (Bound other) mac e = let same : other ≡ mac = cc in ap Bound same
bound_is Declined mac e = cc

not_ended : (expiry now : ℕ) → nat_le expiry now ≡ false → now < expiry
not_ended expiry now e = leb-false expiry now e

held_by : (now : ℕ) (row : Lease) (mac : Mac) (ended : Bool) → nat_le row.expiry.0 now ≡ ended → cond ended None (bound_to row.hold) ≡ Some mac → LiveLease now (Some row) mac
held_by now row mac true t e = cc
held_by now row mac false t e = record { row = row; row_is = refl; bound = bound_is row.hold mac e; live = not_ended row.expiry.0 now t }

held_at_lease : (now : ℕ) (lease : Option Lease) (mac : Mac) → (if has_ended now lease then None else option_and_then (λ (l : Lease). bound_to l.hold) lease) ≡ Some mac → LiveLease now lease mac
held_at_lease now None mac e = cc
held_at_lease now (Some row) mac e = held_by now row mac (nat_le row.expiry.0 now) refl e

pub held_of : (v : View) (now : ℕ) (mac : Mac) → holder now v ≡ Some mac → LiveLease now v.lease mac
held_of v now mac e = held_at_lease now v.lease mac e

-- ---- a view's rows are those of the tables

pub passes_some : {X : Type 0} (test : X → Bool) (o : Option X) → passes test o ≡ true → (x : X) × (o ≡ Some x) × (test x ≡ true)
passes_some test None e = cc
passes_some test (Some x) e = (x, refl, e)

pub owner_is : (lease : Option Lease) (mac : Mac) (row : Lease) → lease ≡ Some row → row.hold ≡ Bound mac → owner_by lease ≡ Some mac
owner_is lease mac row is bound = ap owner_by is ∙ ap owner_of bound

pub owner_held : (now : ℕ) (lease : Option Lease) (mac : Mac) → LiveLease now lease mac → owner_by lease ≡ Some mac
owner_held now lease mac held = owner_is lease mac held.row held.row_is held.bound

pub owner_agreed : (t : Tables) (now : ℕ) (ip : Ip4) (name : List ℕ) (mac : Mac) (owner : ℕ) → Agreement t now ip name (file_owner mac owner) → owner_by (lease_in t ip) ≡ Some mac
owner_agreed t now ip name mac owner a = owner_is (lease_in t ip) mac a.lease a.lease_is a.bound

-- what stands in the view for the modem is what stands in the tables
pub modem_seen : (t : Tables) (ip : Ip4) (mac : Mac) → owner_by (lease_in t ip) ≡ Some mac → (view t ip).modem ≡ modem_in t mac
unfolding view
modem_seen t ip mac owner = ap (option_and_then (modem_in t)) owner

pub profile_seen : (t : Tables) (ip : Ip4) (mac : Mac) → owner_by (lease_in t ip) ≡ Some mac → (view t ip).profile ≡ profile_in t mac
unfolding view
profile_seen t ip mac owner = ap (option_and_then (profile_in t)) owner

pub site_seen : (t : Tables) (ip : Ip4) → (view t ip).site ≡ site_of t ip
unfolding view
site_seen t ip = refl

pub lease_seen : (t : Tables) (ip : Ip4) → (view t ip).lease ≡ lease_in t ip
unfolding view
lease_seen t ip = refl

-- ---- agreement

holder_of_lease : (now : ℕ) (lease : Option Lease) (mac : Mac) → LiveLease now lease mac
    → (if has_ended now lease then None else option_and_then (λ (l : Lease). bound_to l.hold) lease) ≡ Some mac
holder_of_lease now lease mac held =
    ap (λ (o : Option Lease). if has_ended now o then None else option_and_then (λ (l : Lease). bound_to l.hold) o) held.row_is
    ∙ ap (λ b. cond b None (bound_to held.row.hold)) (lt-leb held.row.expiry.0 now held.live) ∙ ap bound_to held.bound

pub holder_is : (v : View) (now : ℕ) (mac : Mac) → LiveLease now v.lease mac → holder now v ≡ Some mac
holder_is v now mac held = holder_of_lease now v.lease mac held

pub live_in : (t : Tables) (now : ℕ) (ip : Ip4) (mac : Mac) → LiveLease now (view t ip).lease mac → LiveLease now (lease_in t ip) mac
live_in t now ip mac held = subst (λ (o : Option Lease). LiveLease now o mac) (lease_seen t ip) held

pub live_seen : (t : Tables) (now : ℕ) (ip : Ip4) (mac : Mac) → LiveLease now (lease_in t ip) mac → LiveLease now (view t ip).lease mac
live_seen t now ip mac held = subst (λ (o : Option Lease). LiveLease now o mac) (sym (lease_seen t ip)) held

-- the parts of an agreement, from what the view has
pub agreement_from : (t : Tables) (now : ℕ) (ip : Ip4) (name : List ℕ) (mac : Mac) (owner : ℕ) → holder now (view t ip) ≡ Some mac
    → passes (is_of_subscriber owner) (view t ip).modem ≡ true → passes (is_own_name name mac ip) (view t ip).site ≡ true → Agreement t now ip name (file_owner mac owner)
agreement_from t now ip name mac owner held modem site =
    let live = live_in t now ip mac (held_of (view t ip) now mac held) in
    let owned = owner_held now (lease_in t ip) mac live in
    let m = passes_some (is_of_subscriber owner) (view t ip).modem modem in
    let s = passes_some (is_own_name name mac ip) (view t ip).site site in
    record {
      lease = live.row;
      modem = m.0;
      site = s.0;
      lease_is = live.row_is;
      bound = live.bound;
      live = live.live;
      modem_is = sym (modem_seen t ip mac owned) ∙ m.1;
      owned = eqb-true m.0.subscriber owner m.2;
      site_is = sym (site_seen t ip) ∙ s.1;
      named = (bytes_eq-Decides name (name_of s.0.secret mac ip)).0 s.2;
    }

agrees_by : (t : Tables) (now : ℕ) (ip : Ip4) (name : List ℕ) (mac other : Mac) (owner : ℕ) → holder now (view t ip) ≡ Some other → is_mac mac other ≡ true
    → passes (is_of_subscriber owner) (view t ip).modem ≡ true → passes (is_own_name name mac ip) (view t ip).site ≡ true → Agreement t now ip name (file_owner mac owner)
agrees_by t now ip name mac other owner held same modem site = agreement_from t now ip name mac owner (held ∙ ap Some (sym (mac_same mac other same))) modem site

pub agreement_of : (t : Tables) (now : ℕ) (ip : Ip4) (name : List ℕ) (mac : Mac) (owner : ℕ) → agrees (view t ip) now ip name (file_owner mac owner) ≡ true → Agreement t now ip name (file_owner mac owner)
agreement_of t now ip name mac owner e =
    let first = and_parts (passes (is_mac mac) (holder now (view t ip))) (passes (is_of_subscriber owner) (view t ip).modem && passes (is_own_name name mac ip) (view t ip).site) e in
    let more = and_parts (passes (is_of_subscriber owner) (view t ip).modem) (passes (is_own_name name mac ip) (view t ip).site) first.1 in
    let held = passes_some (is_mac mac) (holder now (view t ip)) first.0 in
    agrees_by t now ip name mac held.0 owner held.1 held.2 more.0 more.1

pub live_agreed : (t : Tables) (now : ℕ) (ip : Ip4) (name : List ℕ) (mac : Mac) (owner : ℕ) → Agreement t now ip name (file_owner mac owner) → LiveLease now (lease_in t ip) mac
live_agreed t now ip name mac owner a = record { row = a.lease; row_is = a.lease_is; bound = a.bound; live = a.live }

own_name : (t : Tables) (now : ℕ) (ip : Ip4) (name : List ℕ) (mac : Mac) (owner : ℕ) → Agreement t now ip name (file_owner mac owner) → passes (is_own_name name mac ip) (view t ip).site ≡ true
own_name t now ip name mac owner a = ap (passes (is_own_name name mac ip)) (site_seen t ip ∙ a.site_is) ∙ (bytes_eq-Decides name (name_of a.site.secret mac ip)).1 a.named

pub agrees_from : (t : Tables) (now : ℕ) (ip : Ip4) (name : List ℕ) (mac : Mac) (owner : ℕ) → Agreement t now ip name (file_owner mac owner) → agrees (view t ip) now ip name (file_owner mac owner) ≡ true
agrees_from t now ip name mac owner a =
    let held : passes (is_mac mac) (holder now (view t ip)) ≡ true =
    ap (passes (is_mac mac)) (holder_is (view t ip) now mac (live_seen t now ip mac (live_agreed t now ip name mac owner a))) ∙ mac_own mac in
    let modem : passes (is_of_subscriber owner) (view t ip).modem ≡ true =
    ap (passes (is_of_subscriber owner)) (modem_seen t ip mac (owner_agreed t now ip name mac owner a) ∙ a.modem_is) ∙ eq-eqb a.modem.subscriber owner a.owned in
    and_from (passes (is_mac mac) (holder now (view t ip))) (passes (is_of_subscriber owner) (view t ip).modem && passes (is_own_name name mac ip) (view t ip).site) held
    (and_from (passes (is_of_subscriber owner) (view t ip).modem) (passes (is_own_name name mac ip) (view t ip).site) modem (own_name t now ip name mac owner a))

-- ---- files

pub file_of_built : (t : Tables) (now : ℕ) (ip : Ip4) (mac : Mac) (file : List ℕ) → owner_by (lease_in t ip) ≡ Some mac → IsBuiltBy (view t ip) now ip file → IsFile t mac now ip file
file_of_built t now ip mac file owner b = record {
  site = b.site;
  profile = b.profile;
  site_is = sym (site_seen t ip) ∙ b.site_is;
  profile_is = sym (profile_seen t ip mac owner) ∙ b.profile_is;
  built = b.built;
}

pub built_of_file : (t : Tables) (now : ℕ) (ip : Ip4) (mac : Mac) (file : List ℕ) → owner_by (lease_in t ip) ≡ Some mac → IsFile t mac now ip file → IsBuiltBy (view t ip) now ip file
built_of_file t now ip mac file owner f = record {
  site = f.site;
  profile = f.profile;
  site_is = site_seen t ip ∙ f.site_is;
  profile_is = profile_seen t ip mac owner ∙ f.profile_is;
  built = f.built;
}

-- a profile stands on three rows
then_some : {A B : Type 0} (f : A → Option B) (o : Option A) (P : Type 0) → is_some (option_and_then f o) ≡ true → ((a : A) → o ≡ Some a → is_some (f a) ≡ true → P) → P
then_some f None P e more = cc
then_some f (Some a) P e more = more a refl e

map_some : {A B : Type 0} (f : A → B) (o : Option A) (P : Type 0) → is_some (option_map f o) ≡ true → ((a : A) → o ≡ Some a → P) → P
map_some f None P e more = cc
map_some f (Some a) P e more = more a refl

some_is : {A : Type 0} (o : Option A) (P : Type 0) → is_some o ≡ true → ((a : A) → o ≡ Some a → P) → P
some_is None P e more = cc
some_is (Some a) P e more = more a refl

file_there : (t : Tables) (mac : Mac) (now : ℕ) (ip : Ip4) (site : Site) → site_of t ip ≡ Some site → is_some (profile_in t mac) ≡ true → (file : List ℕ) × IsFile t mac now ip file
unfolding profile_in
file_there t mac now ip site site_is e =
    then_some (λ (modem : Modem). profile_at t modem.subscriber modem.class) (modem_in t mac) ((file : List ℕ) × IsFile t mac now ip file) e
    (λ modem modem_is at.
    then_some (λ (who : Subscriber). option_map (λ (c : Class). profile_of who.active who.cpes c.settings (add_ons_in t modem.subscriber)) (class_in t modem.class))
    (subscriber_in t modem.subscriber) ((file : List ℕ) × IsFile t mac now ip file) at
    (λ who who_is by.
    map_some (λ (c : Class). profile_of who.active who.cpes c.settings (add_ons_in t modem.subscriber)) (class_in t modem.class) ((file : List ℕ) × IsFile t mac now ip file) by
    (λ class class_is. file_is_there t mac now ip site modem who class site_is modem_is who_is class_is)))

pub built_there : (t : Tables) (now : ℕ) (ip : Ip4) (mac : Mac) → owner_by (lease_in t ip) ≡ Some mac → is_some (view t ip).site ≡ true → is_some (view t ip).profile ≡ true
    → (file : List ℕ) × IsBuiltBy (view t ip) now ip file
built_there t now ip mac owner site profile =
    some_is (view t ip).site ((file : List ℕ) × IsBuiltBy (view t ip) now ip file) site
    (λ s is.
    let found = file_there t mac now ip s (sym (site_seen t ip) ∙ is) (ap is_some (sym (profile_seen t ip mac owner)) ∙ profile) in
    (found.0, built_of_file t now ip mac found.0 owner found.1))

-- in good tables a modem has its profile
and_then_is : {A B : Type 0} (f : A → Option B) (o : Option A) (a : A) → o ≡ Some a → is_some (f a) ≡ true → is_some (option_and_then f o) ≡ true
and_then_is f o a is e = ap (λ x. is_some (option_and_then f x)) is ∙ e

map_is : {A B : Type 0} (f : A → B) (o : Option A) → is_some o ≡ true → is_some (option_map f o) ≡ true
map_is f None e = e
map_is f (Some a) e = refl

pub profile_there : (t : Tables) (mac : Mac) (modem : Modem) → Good t → modem_in t mac ≡ Some modem → is_some (profile_in t mac) ≡ true
unfolding profile_in
profile_there t mac modem good is =
    let rows = modems_stand t good mac modem is in
    and_then_is (λ (m : Modem). profile_at t m.subscriber m.class) (modem_in t mac) modem is
    (some_is (subscriber_in t modem.subscriber) (is_some (profile_at t modem.subscriber modem.class) ≡ true) rows.0
    (λ who who_is.
    and_then_is (λ (w : Subscriber). option_map (λ (c : Class). profile_of w.active w.cpes c.settings (add_ons_in t modem.subscriber)) (class_in t modem.class))
    (subscriber_in t modem.subscriber) who who_is
    (map_is (λ (c : Class). profile_of who.active who.cpes c.settings (add_ons_in t modem.subscriber)) (class_in t modem.class) rows.1)))

pub good_has_file : (t : Tables) (now : ℕ) (ip : Ip4) (name : List ℕ) (mac : Mac) (owner : ℕ) → Good t → Agreement t now ip name (file_owner mac owner) → has_file (view t ip) ip name mac ≡ true
good_has_file t now ip name mac owner good a =
    and_from (passes (is_own_name name mac ip) (view t ip).site) (is_some (view t ip).profile) (own_name t now ip name mac owner a)
    (ap is_some (profile_seen t ip mac (owner_agreed t now ip name mac owner a)) ∙ profile_there t mac a.modem good a.modem_is)
