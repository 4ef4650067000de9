-- The laws, from rows as they are read.
use Rattle.std.proofs.Common.{◌≡◌, ℕ, ◌+◌, ◌-◌, ◌%◌, ◌<◌, ◌≤◌, Bool, true, false, cond, List, [], ◌∷◌, ◌++◌, length, take, refl, sym, ap, subst, ◌∙◌, arith, lit≤, Option, Some, None, Ok}
use Rattle.std.proofs.lemmas.Bool.{and_parts}
use Rattle.std.specs.Prelude.{◌&&◌, is_none, nat_le, option_map, option_and_then}
use Rattle.std.specs.List.{filter_map, cons_option, AllByRecursion}
use Rattle.off_base.specs.Tree.{Tree, spelling, trees_length}
use Rattle.off_base.specs.declared.addresses.Ip4.{Ip4}
use Rattle.off_base.specs.declared.macs.Mac.{Mac}
use Rattle.off_tlv.specs.Grammar.{in_file, AllStand}
use Rattle.off_tlv.proofs.GrammarLemmas.{one_reading}
use Rattle.off_tree.specs.declared.tables.Kind.TheVariants as kind
use Rattle.off_tree.specs.declared.paths.TreeFault.{TreeFault}
use Rattle.off_tree.specs.Fault.{first_fault}
use Rattle.off_tree.specs.Good.{GoodSettings}
use Rattle.off_tree.proofs.GoodLemmas.{no_fault_good}
use Rattle.off_mic.specs.Mic.{without_mics, of_code, with_both, Sealed}
use Rattle.off_mic.proofs.SealLemmas.{neither_join, end_pushed, sealed_is, sealed_is_one, sealed_verifies}
use Rattle.off_defs.specs.declared.keys.Key.TheVariants as key
use Rattle.off_defs.specs.declared.tables.Row.{Row}
use Rattle.off_defs.specs.declared.tables.Row.TheVariants as row
use Rattle.off_defs.specs.declared.tables.Class.{Class}
use Rattle.off_defs.specs.declared.tables.Modem.{Modem}
use Rattle.off_defs.specs.declared.tables.Site.{Site}
use Rattle.off_defs.specs.declared.tables.Subscriber.{Subscriber}
use Rattle.off_defs.specs.State.{Tables}
use Rattle.off_defs.specs.Tables.{row_at}
use Rattle.off_account_rules.specs.Rows.{class_is_good, add_on_is_good, possible, as_class, as_add_on, subscriber_in, modem_in, class_in, add_on_in}
use Rattle.off_defs.specs.Bounds.{add_on_numbers}
use Rattle.off_file_rules.specs.Profile.{profile_of, numbered_add_on, add_ons_in, profile_at, profile_in}
use Rattle.off_file_rules.specs.File.{stamps, with_stamps, most_file_bytes, IsBuilt}
use Rattle.off_file_laws.specs.Laws.{Agree, own_codes, ProfilesAgree, ProfilesSpell, SpellsProfile, OwnSettingsOnce, FileIsOne, FileIsThere, FilesAreShort, FilesBoot}
use Rattle.off_file_laws.proofs.AgreeLemmas.{AllGood, profile_agrees}
use Rattle.off_file_laws.proofs.ShapeLemmas.{profile_spells}
use Rattle.off_file_laws.proofs.OwnLemmas.{once_each}
use Rattle.off_file_laws.proofs.SizeLemmas.{profile_short, file_short}

-- ---- rows that are read are good

no_fault : (o : Option TreeFault) → is_none o ≡ true → o ≡ None
no_fault None e = refl
no_fault (Some fault) e = cc

class_good : (trees : List Tree) → class_is_good trees ≡ true → GoodSettings kind.Class trees
unfolding class_is_good
class_good trees e = no_fault_good kind.Class trees (no_fault (first_fault kind.Class trees) e)

add_on_good : (trees : List Tree) → add_on_is_good trees ≡ true → GoodSettings kind.AddOn trees
unfolding add_on_is_good
add_on_good trees e = no_fault_good kind.AddOn trees (no_fault (first_fault kind.AddOn trees) e)

class_by : (class c : Class) (b : Bool) → class_is_good class.settings ≡ b → option_and_then as_class (cond b (Some (row.Class class)) None) ≡ Some c → class_is_good c.settings ≡ true
class_by class c true is e = let same : class ≡ c = cc in ap (λ (x : Class). class_is_good x.settings) (sym same) ∙ is
class_by class c false is e = cc

class_row : (n : ℕ) (o : Option Row) (c : Class) → option_and_then as_class (possible (key.Class n) o) ≡ Some c → class_is_good c.settings ≡ true
class_row n None c e = cc
class_row n (Some (row.Class class)) c e = class_by class c (class_is_good class.settings) refl e
class_row n (Some other) c e = cc

add_on_by : (settings found : List Tree) (b : Bool) → (b ≡ true → add_on_is_good settings ≡ true) → option_and_then as_add_on (cond b (Some (row.AddOn settings)) None) ≡ Some found
    → add_on_is_good found ≡ true
add_on_by settings found true good e = let same : settings ≡ found = cc in ap add_on_is_good (sym same) ∙ good refl
add_on_by settings found false good e = cc

add_on_row : (n k : ℕ) (o : Option Row) (found : List Tree) → option_and_then as_add_on (possible (key.AddOn n k) o) ≡ Some found → add_on_is_good found ≡ true
add_on_row n k None found e = cc
add_on_row n k (Some (row.AddOn settings)) found e =
    add_on_by settings found (nat_le k 7 && add_on_is_good settings) (λ both. (and_parts (nat_le k 7) (add_on_is_good settings) both).1) e
add_on_row n k (Some other) found e = cc

-- ---- a subscriber's add-ons

lower_good : (least lower : ℕ) (adds : List (ℕ × List Tree)) → lower ≤ least → AllGood least adds → AllGood lower adds
lower_good least lower [] le good = tt
lower_good least lower (a ∷ adds) le good = (omega (arith, good.0), good.1, good.2, good.3)

abbrev Climbs : ℕ → List ℕ → Type 0
Climbs least [] = Unit {0}
Climbs least (k ∷ ks) = (least ≤ k) × (k < 8) × Climbs (k + 1) ks

add_on_first : (least k : ℕ) (o : Option (List Tree)) (rest : List (ℕ × List Tree)) → least ≤ k → k < 8 → ((ts : List Tree) → o ≡ Some ts → GoodSettings kind.AddOn ts) → AllGood (k + 1) rest
    → AllGood least (cons_option (option_map (λ (settings : List Tree). (k, settings)) o) rest)
add_on_first least k None rest le small good more = lower_good (k + 1) least rest (omega arith) more
add_on_first least k (Some ts) rest le small good more = (le, small, good ts refl, more)

numbered_good : (tables : Tables) (subscriber least : ℕ) (ks : List ℕ) → Climbs least ks → AllGood least (filter_map (numbered_add_on tables subscriber) ks)
numbered_good tables subscriber least [] climbs = tt
numbered_good tables subscriber least (k ∷ ks) climbs =
    add_on_first least k (add_on_in tables subscriber k) (filter_map (numbered_add_on tables subscriber) ks) climbs.0 climbs.1
    (λ ts e. add_on_good ts (add_on_row subscriber k (row_at tables (key.AddOn subscriber k)) ts e)) (numbered_good tables subscriber (k + 1) ks climbs.2)

pub add_ons_good : (tables : Tables) (subscriber : ℕ) → AllGood 0 (add_ons_in tables subscriber)
add_ons_good tables subscriber =
    let climbs : Climbs 0 add_on_numbers =
    (omega arith, omega arith, (omega arith, omega arith, (omega arith, omega arith, (omega arith, omega arith, (omega arith, omega arith, (omega arith, omega arith, (omega arith, omega arith, (omega arith, omega arith, tt)))))))) in
    numbered_good tables subscriber 0 add_on_numbers climbs

-- ---- a profile in the tables is one of good rows

then_some : {A B : Type 0} (f : A → Option B) (o : Option A) (b : B) (P : Type 0) → option_and_then f o ≡ Some b → ((a : A) → o ≡ Some a → f a ≡ Some b → P) → P
then_some f None b P e more = cc
then_some f (Some a) b P e more = more a refl e

map_some : {A B : Type 0} (f : A → B) (o : Option A) (b : B) (P : Type 0) → option_map f o ≡ Some b → ((a : A) → o ≡ Some a → f a ≡ b → P) → P
map_some f None b P e more = cc
map_some f (Some a) b P e more = let same : f a ≡ b = cc in more a refl same

pub by_rows : (tables : Tables) (mac : Mac) (profile : List Tree) (P : List Tree → Type 0)
    → ((active : Bool) (cpes : ℕ) (class : List Tree) (adds : List (ℕ × List Tree)) → GoodSettings kind.Class class → AllGood 0 adds → P (profile_of active cpes class adds))
    → profile_in tables mac ≡ Some profile → P profile
unfolding profile_in
by_rows tables mac profile P each e =
    then_some (λ (modem : Modem). profile_at tables modem.subscriber modem.class) (modem_in tables mac) profile (P profile) e
    (λ modem modem_is at.
    then_some (λ (who : Subscriber). option_map (λ (c : Class). profile_of who.active who.cpes c.settings (add_ons_in tables modem.subscriber)) (class_in tables modem.class))
    (subscriber_in tables modem.subscriber) profile (P profile) at
    (λ who who_is by.
    map_some (λ (c : Class). profile_of who.active who.cpes c.settings (add_ons_in tables modem.subscriber)) (class_in tables modem.class) profile (P profile) by
    (λ c c_is is.
    subst P is
    (each who.active who.cpes c.settings (add_ons_in tables modem.subscriber)
    (class_good c.settings (class_row modem.class (row_at tables (key.Class modem.class)) c c_is)) (add_ons_good tables modem.subscriber)))))

pub profiles_agree : ProfilesAgree
profiles_agree tables mac profile e = by_rows tables mac profile Agree profile_agrees e

pub profiles_spell : ProfilesSpell
profiles_spell tables mac profile e = by_rows tables mac profile SpellsProfile profile_spells e

pub own_settings_once : OwnSettingsOnce
own_settings_once tables mac now ip secret profile e =
    by_rows tables mac profile (λ (p : List Tree). AllByRecursion (λ code. length (of_code code (with_both secret (with_stamps p now ip))) ≡ 1) own_codes)
    (λ active cpes class adds good all. once_each active cpes class adds now ip secret good all) e

-- ---- files

stand_join : (ts us : List Tree) → AllStand in_file ts → AllStand in_file us → AllStand in_file (ts ++ us)
stand_join [] us a b = b
stand_join (t ∷ ts) us a b = (a.0, stand_join ts us a.1 b)

stamps_stand : (now : ℕ) (ip : Ip4) → AllStand in_file (stamps now ip)
stamps_stand now ip = (record { shaped = (refl, refl); fits = lit≤ tt }, (record { shaped = (refl, refl); fits = lit≤ tt }, tt))

-- settings without the two checks have a sealed file
seals : (secret : List ℕ) (ts : List Tree) → without_mics ts ≡ ts → (file : List ℕ) × Sealed file ts secret
seals secret ts none =
    let marked : List ℕ = spelling (with_both secret ts) ++ 255 ∷ [] in
    let pads : ℕ = (4 - length (spelling (with_both secret ts) ++ 255 ∷ []) % 4) % 4 in
    let file : List ℕ = (spelling (with_both secret ts) ++ 255 ∷ []) ++ take ((4 - length (spelling (with_both secret ts) ++ 255 ∷ []) % 4) % 4) (0 ∷ 0 ∷ 0 ∷ []) in (
      (spelling (with_both secret ts) ++ 255 ∷ []) ++ take ((4 - length (spelling (with_both secret ts) ++ 255 ∷ []) % 4) % 4) (0 ∷ 0 ∷ 0 ∷ []),
      sealed_is secret ts (spelling (with_both secret ts))
          ((spelling (with_both secret ts) ++ 255 ∷ []) ++ take ((4 - length (spelling (with_both secret ts) ++ 255 ∷ []) % 4) % 4) (0 ∷ 0 ∷ 0 ∷ [])) none refl
          (end_pushed (spelling (with_both secret ts)) (spelling (with_both secret ts) ++ 255 ∷ [])
          ((spelling (with_both secret ts) ++ 255 ∷ []) ++ take ((4 - length (spelling (with_both secret ts) ++ 255 ∷ []) % 4) % 4) (0 ∷ 0 ∷ 0 ∷ []))
          ((4 - length (spelling (with_both secret ts) ++ 255 ∷ []) % 4) % 4) refl refl refl),
    )

pub file_is_one : FileIsOne
file_is_one tables mac now ip file other a b =
    let sites : Some b.site ≡ Some a.site = sym b.site_is ∙ a.site_is in
    let profiles : Some b.profile ≡ Some a.profile = sym b.profile_is ∙ a.profile_is in
    let site : b.site ≡ a.site = cc in
    let profile : b.profile ≡ a.profile = cc in
    let sealed : Sealed other (with_stamps a.profile now ip) a.site.secret =
    subst (λ (s : Site). Sealed other (with_stamps a.profile now ip) s.secret) site (subst (λ (p : List Tree). Sealed other (with_stamps p now ip) b.site.secret) profile b.built) in
    sealed_is_one file other a.site.secret (with_stamps a.profile now ip) a.built sealed

profile_there : (tables : Tables) (mac : Mac) (modem : Modem) (who : Subscriber) (class : Class) → modem_in tables mac ≡ Some modem → subscriber_in tables modem.subscriber ≡ Some who
    → class_in tables modem.class ≡ Some class → profile_in tables mac ≡ Some (profile_of who.active who.cpes class.settings (add_ons_in tables modem.subscriber))
unfolding profile_in
profile_there tables mac modem who class a b c =
    ap (option_and_then (λ (m : Modem). profile_at tables m.subscriber m.class)) a
    ∙ ap (option_and_then (λ (w : Subscriber). option_map (λ (x : Class). profile_of w.active w.cpes x.settings (add_ons_in tables modem.subscriber)) (class_in tables modem.class))) b
    ∙ ap (option_map (λ (x : Class). profile_of who.active who.cpes x.settings (add_ons_in tables modem.subscriber))) c

pub file_is_there : FileIsThere
file_is_there tables mac now ip site modem who class s m w c =
    let profile : List Tree = profile_of who.active who.cpes class.settings (add_ons_in tables modem.subscriber) in
    let is : profile_in tables mac ≡ Some (profile_of who.active who.cpes class.settings (add_ons_in tables modem.subscriber)) = profile_there tables mac modem who class m w c in
    let spells : SpellsProfile (profile_of who.active who.cpes class.settings (add_ons_in tables modem.subscriber)) =
    profiles_spell tables mac (profile_of who.active who.cpes class.settings (add_ons_in tables modem.subscriber)) is in
    let sealed = seals site.secret (with_stamps (profile_of who.active who.cpes class.settings (add_ons_in tables modem.subscriber)) now ip)
    (neither_join (profile_of who.active who.cpes class.settings (add_ons_in tables modem.subscriber)) (stamps now ip) spells.neither refl) in (
      sealed.0,
      record {
        site = site;
        profile = profile_of who.active who.cpes class.settings (add_ons_in tables modem.subscriber);
        site_is = s;
        profile_is = is;
        built = sealed.1;
      },
    )

-- under any secret
pub built_short : (tables : Tables) (mac : Mac) (now : ℕ) (ip : Ip4) (secret : List ℕ) (profile : List Tree) (file : List ℕ) → profile_in tables mac ≡ Some profile
    → IsBuilt secret profile now ip file → length file ≤ most_file_bytes
built_short tables mac now ip secret profile file is built =
    file_short file secret profile now ip (by_rows tables mac profile (λ (p : List Tree). trees_length p ≤ 6150) profile_short is) built

pub files_are_short : FilesAreShort
files_are_short tables mac now ip file is = built_short tables mac now ip is.site.secret is.profile file is.profile_is is.built

pub files_boot : FilesBoot
files_boot tables mac now ip file is =
    let spells : SpellsProfile is.profile = profiles_spell tables mac is.profile is.profile_is in
    let both = sealed_verifies file is.site.secret (with_stamps is.profile now ip) (stand_join is.profile (stamps now ip) spells.stands (stamps_stand now ip)) is.built in
    record {
      reads = both.0;
      alone = λ other spelled.
          let same : Ok other ≡ Ok (with_both is.site.secret (with_stamps is.profile now ip)) = one_reading file (Ok other) (Ok (with_both is.site.secret (with_stamps is.profile now ip))) spelled both.0 in
          cc;
      verifies = both.1;
    }
