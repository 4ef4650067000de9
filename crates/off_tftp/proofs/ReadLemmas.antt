-- Reads of the keeper, one after another.
use Rattle.std.proofs.Common.{◌≡◌, cond, true, false, ℕ, ◌+◌, ◌<◌, ◌≤◌, ◌==◌, Bool, List, [], ◌∷◌, ◌++◌, zero, suc, take, Option, Some, None, option_map, option_and_then, Result, Ok, Err, MatchResult, refl, sym, ap, ◌∙◌, subst, arith}
use Rattle.std.specs.List.{filter_map, cons_option}
use Rattle.std.proofs.lemmas.List.{append-nil}
use Rattle.std.proofs.lemmas.List.Elements.{filter_map-append}
use Rattle.off_base.specs.Tree.{Tree}
use Rattle.off_base.specs.declared.addresses.Ip4.{Ip4}
use Rattle.off_base.specs.declared.macs.Mac.{Mac}
use Rattle.off_defs.specs.Bounds.{add_on_numbers}
use Rattle.off_defs.specs.declared.tables.Site.{Site}
use Rattle.off_defs.specs.declared.tables.Modem.{Modem}
use Rattle.off_defs.specs.declared.tables.Lease.{Lease}
use Rattle.off_account_rules.specs.Rows.{hub_in, modem_in, lease_in, add_on_in}
use Rattle.off_file_rules.specs.Profile.{numbered_add_on, profile_in}
use Rattle.off_transfer_rules.specs.View.{View, owner_by}
use Rattle.off_tftp.specs.Listed.{with_add_on}
use Rattle.off_tftp.specs.declared.gathering.Seen.{Seen}
use Rattle.off_tftp.specs.Keeping.{is_kept, entry_for, FewWhereKept}
use Rattle.off_transfer_rules.specs.Transfers.{is_at_last}
use Rattle.off_tftp.specs.Calls.{acknowledgement_calls}
use Rattle.off_tftp.specs.Seen.{view_at, view_of, without_profile, names_file, seen_for, Shows}
use Rattle.off_kept.specs.declared.bodies.KeptBody.{KeptBody}
use Rattle.off_kept.specs.Entries.{Entries}
use Rattle.off_defs.specs.State.{Tables, Transfer}
use Rattle.off_outside.specs.KeeperSeen.{KeeperSeen}
use Rattle.off_outside.specs.KeeperCalls.{Looks, Reads, NotDone, Spent}
use Rattle.off_outside.specs.declared.keeper.KeepErr.{KeepErr}
use Rattle.off_outside.specs.declared.keeper.KeepErr.TheVariants.{Memory}
use Rattle.off_outside.proofs.KeeperLemmas.{reads_then, reads_as, reads_none, reads_forgotten, failed_then, spent_none, spent_one, spent_then, spent_within}

-- what is made behind a reading takes memory alone
pub looks_made : {X : Type 0} {P : Tables → Type 0} {a b : KeeperSeen} (result : Result X KeepErr) (made : X) (Q : X → Tables → Type 0)
    → MatchResult result (λ x. x ≡ made) (λ err. err ≡ Memory) → Reads P a b → ((t : Tables) → P t → Q made t) → Looks result a b Q
looks_made {X} {P} {a} {b} (Ok x) made Q is reads join = reads_as reads (λ t p. subst (λ y. Q y t) (sym is) (join t p))
looks_made {X} {P} {a} {b} (Err err) made Q is reads join = subst (λ (e : KeepErr). NotDone e a b) (sym is) (reads_forgotten reads)

pub ruleset readings = (reads_then, reads_as, reads_none, reads_forgotten, failed_then, spent_none, spent_one, spent_then, spent_within)

-- ---- add-ons, one after another

numbers_more : (k : ℕ) → k < 8 → take (suc k) add_on_numbers ≡ take k add_on_numbers ++ k ∷ []
numbers_more zero small = refl
numbers_more (suc zero) small = refl
numbers_more (suc (suc zero)) small = refl
numbers_more (suc (suc (suc zero))) small = refl
numbers_more (suc (suc (suc (suc zero)))) small = refl
numbers_more (suc (suc (suc (suc (suc zero))))) small = refl
numbers_more (suc (suc (suc (suc (suc (suc zero)))))) small = refl
numbers_more (suc (suc (suc (suc (suc (suc (suc zero))))))) small = refl
numbers_more (suc (suc (suc (suc (suc (suc (suc (suc k)))))))) small = absurd (omega (arith, small))

one_number : (tables : Tables) (subscriber k : ℕ) (add_ons : List (ℕ × List Tree)) (settings : Option (List Tree)) → settings ≡ add_on_in tables subscriber k
    → with_add_on add_ons k settings ≡ add_ons ++ filter_map (numbered_add_on tables subscriber) (k ∷ [])
one_number tables subscriber k add_ons None is =
    sym (append-nil add_ons) ∙ ap (λ (o : Option (List Tree)). add_ons ++ cons_option (option_map (λ (s : List Tree). (k, s)) o) []) is
one_number tables subscriber k add_ons (Some settings) is =
    ap (λ (o : Option (List Tree)). add_ons ++ cons_option (option_map (λ (s : List Tree). (k, s)) o) []) is

pub add_one : (tables : Tables) (subscriber k : ℕ) (add_ons new : List (ℕ × List Tree)) (settings : Option (List Tree)) → k < 8
    → add_ons ≡ filter_map (numbered_add_on tables subscriber) (take k add_on_numbers) → settings ≡ add_on_in tables subscriber k → new ≡ with_add_on add_ons k settings
    → new ≡ filter_map (numbered_add_on tables subscriber) (take (k + 1) add_on_numbers)
add_one tables subscriber k add_ons new settings small so_far is made =
    let next : suc k ≡ k + 1 = omega arith in
    made ∙ one_number tables subscriber k add_ons settings is
    ∙ ap (λ (l : List (ℕ × List Tree)). l ++ filter_map (numbered_add_on tables subscriber) (k ∷ [])) so_far
    ∙ sym (filter_map-append (numbered_add_on tables subscriber) (take k add_on_numbers) (k ∷ []))
    ∙ ap (filter_map (numbered_add_on tables subscriber)) (sym (numbers_more k small) ∙ ap (λ n. take n add_on_numbers) next)

-- ---- what is seen

no_entry : (modem : Option Modem) → None ≡ entry_for modem None
no_entry None = refl
no_entry (Some modem) = refl

abbrev seen_by : Option Site → Option Lease → Option Modem → Option (List Tree) → View
seen_by site lease modem profile = record { site = site; lease = lease; modem = modem; profile = profile }

pub look_is : (t : Tables) (hub : Option ℕ) (ip : Ip4) (site : Option Site) (lease : Option Lease) (owner : Option Mac) (modem : Option Modem) → site ≡ option_and_then (hub_in t) hub
    → lease ≡ lease_in t ip → owner ≡ owner_by lease → modem ≡ option_and_then (modem_in t) owner → seen_by site lease modem None ≡ without_profile (view_at t hub ip)
unfolding view_at
look_is t hub ip site lease owner modem s l o m =
    ap (λ (x : Option Site). seen_by x lease modem None) s
    ∙ ap (λ (x : Option Modem). seen_by (option_and_then (hub_in t) hub) lease x None) (m ∙ ap (option_and_then (modem_in t)) o)
    ∙ ap (λ (x : Option Lease). seen_by (option_and_then (hub_in t) hub) x (option_and_then (modem_in t) (owner_by x)) None) l

-- a name that is right by what was seen is right by the tables
pub is_named : {P : Type 0} (seen : Seen) (v : View) (now : ℕ) (ip : Ip4) (name : List ℕ) → view_of seen ≡ without_profile v
    → names_file now ip name (view_of seen) ≡ true → names_file now ip name v ≡ false → P
is_named seen v now ip name is right wrong =
    let both : true ≡ false = sym right ∙ ap (names_file now ip name) is ∙ wrong in cc

pub few_none : (k : KeeperSeen) → Spent 3 k k
few_none k = spent_within (spent_none k) (omega arith)

-- an acknowledgement asks three calls at most
few_by : (b : Bool) {a k : KeeperSeen} (n m : ℕ) → n ≤ 3 → m ≤ 3 → Spent (cond b n m) a k → Spent 3 a k
few_by true n m p q spent = spent_within spent p
few_by false n m p q spent = spent_within spent q

if_few : (b : Bool) (n m : ℕ) → n ≤ 3 → m ≤ 3 → cond b n m ≤ 3
if_few true n m p q = p
if_few false n m p q = q

pub acknowledgement_few : (number : ℕ) (live : Option Transfer) {a k : KeeperSeen} → Spent (acknowledgement_calls number live) a k → Spent 3 a k
acknowledgement_few number None spent = spent_within spent (omega arith)
acknowledgement_few number (Some x) spent =
    few_by (number == x.sent) _ 0 (if_few (is_at_last x) 0 3 (omega arith) (omega arith)) (omega arith) spent

-- what a request for a file needs of it, by whether the name is right
pub shows_unnamed : (seen : Seen) (v : View) (now : ℕ) (ip : Ip4) (name : List ℕ) → seen.body ≡ None → view_of seen ≡ without_profile v → names_file now ip name (view_of seen) ≡ false
    → Shows seen (seen_for now ip name v)
shows_unnamed seen v now ip name bare is wrong =
    let without : without_profile v ≡ seen_for now ip name v = sym (ap (λ b. cond b v (without_profile v)) (ap (names_file now ip name) (sym is) ∙ wrong)) in
    subst (Shows seen) without (record { rest = is; entry = bare ∙ no_entry v.modem })

shows_named : (seen : Seen) (v : View) (now : ℕ) (ip : Ip4) (name : List ℕ) → view_of seen ≡ without_profile v → names_file now ip name (view_of seen) ≡ true
    → seen.body ≡ entry_for v.modem v.profile → Shows seen (seen_for now ip name v)
shows_named seen v now ip name is right entry =
    let whole : v ≡ seen_for now ip name v = sym (ap (λ b. cond b v (without_profile v)) (ap (names_file now ip name) (sym is) ∙ right)) in
    subst (Shows seen) whole (record { rest = is; entry = entry })

-- the same seen with a body
abbrev pub seen_with : Seen → Option KeptBody → Seen
seen_with seen body = record seen { body = body }

pub shows_body : (t : Tables) (hub : Option ℕ) (ip : Ip4) (seen : Seen) (owner : Option Mac) (body : Option KeptBody) (now : ℕ) (name : List ℕ) → owner ≡ owner_by seen.lease
    → view_of seen ≡ without_profile (view_at t hub ip) → names_file now ip name (view_of seen) ≡ true
    → (seen.modem ≡ option_and_then (modem_in t) owner → body ≡ entry_for seen.modem (option_and_then (profile_in t) owner))
    → Shows (seen_with seen body) (seen_for now ip name (view_at t hub ip))
unfolding view_at
shows_body t hub ip seen owner body now name owned is right made =
    let lease : seen.lease ≡ lease_in t ip = ap (λ (v : View). v.lease) is in
    let modem : seen.modem ≡ option_and_then (modem_in t) (owner_by (lease_in t ip)) = ap (λ (v : View). v.modem) is in
    let owns : owner ≡ owner_by (lease_in t ip) = owned ∙ ap (λ (l : Option Lease). owner_by l) lease in
    shows_named (seen_with seen body) (view_at t hub ip) now ip name is right
    (made (modem ∙ ap (option_and_then (modem_in t)) (sym owns))
    ∙ (ap (λ (o : Option Mac). entry_for seen.modem (option_and_then (profile_in t) o)) owns
    ∙ ap (λ (m : Option Modem). entry_for m (option_and_then (profile_in t) (owner_by (lease_in t ip)))) modem))

-- ---- few calls, where the body is kept

pub few_always : {a b : KeeperSeen} (ip : Ip4) (entries : Entries) → Spent 3 a b → FewWhereKept ip entries a b
few_always ip entries spent = λ t told is. spent

pub few_behind : {a b c : KeeperSeen} (hub : Option ℕ) (ip : Ip4) (entries : Entries) (seen : Seen) (owner : Option Mac) → owner ≡ owner_by seen.lease
    → Reads (λ t. view_of seen ≡ without_profile (view_at t hub ip)) a b → Spent 3 a b → (is_kept owner entries ≡ true → Spent 0 b c) → FewWhereKept ip entries a c
unfolding view_at
few_behind hub ip entries seen owner owned reads spent more = λ t told is.
    let lease : seen.lease ≡ lease_in t ip = ap (λ (v : View). v.lease) (reads.tables t told).1 in
    spent_then spent (more (ap (λ (o : Option Mac). is_kept o entries) (owned ∙ ap (λ (l : Option Lease). owner_by l) lease) ∙ is))

pub few_seen_behind : {a b c : KeeperSeen} (entries : Entries) (seen : Seen) (owner : Option Mac) → owner ≡ owner_by seen.lease
    → Spent 3 a b → (is_kept owner entries ≡ true → Spent 0 b c) → is_kept (owner_by seen.lease) entries ≡ true → Spent 3 a c
few_seen_behind entries seen owner owned spent more is = spent_then spent (more (ap (λ (o : Option Mac). is_kept o entries) owned ∙ is))
