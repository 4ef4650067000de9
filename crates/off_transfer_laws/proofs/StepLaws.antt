-- The laws of datagrams.
use Rattle.std.proofs.Common.{if◌then◌else◌, ◌≡◌, ◌≢◌, ℕ, suc, ◌+◌, ◌-◌, ◌≤◌, Bool, true, false, cond, nat_le, List, [], is_some, refl, sym, ap, subst, ◌∙◌, inl, inr, arith}
use Rattle.std.proofs.lemmas.Bool.{leb-false, and_parts, eq-eqb}
use Rattle.std.specs.FinMap as map
use Rattle.off_base.specs.declared.addresses.Ip4.{Ip4}
use Rattle.off_base.specs.declared.addresses.Peer.{Peer}
use Rattle.off_base.specs.declared.macs.Mac.{Mac}
use Rattle.off_defs.specs.State.{Tables, Transfer}
use Rattle.off_account_rules.specs.Rows.{passes, lease_in}
use Rattle.off_packets.specs.Packets.{has_option}
use Rattle.off_transfer_rules.specs.Requests.{datagram_at, file_owner}
use Rattle.off_transfer_rules.specs.View.{View, view, is_of_subscriber, is_own_name, IsBuiltBy}
use Rattle.off_transfer_rules.specs.Transfers.{Transfers, has_no_room, first_word, new_transfer, gone_on, asked_again}
use Rattle.off_transfer_rules.specs.Steps.{Way, Denies, Repeats, Accepts, Ignores, Finishes, BreaksOff, GoesOn, Leaves, way, Given, gives, error_to, last_to, GivesBy, TftpStep, no_longer_agreed}
use Rattle.off_transfer_rules.specs.declared.words.TftpWord.TheVariants as word
use Rattle.off_transfer_rules.proofs.PeerLemmas.{peer_total, inserted_apart, removed_apart}
use Rattle.off_transfer_laws.specs.Agreement.{Agreement}
use Rattle.off_transfer_laws.specs.Laws.{TransferStepIsOne, TransferStepIsThere, OthersStay, FewStay, IsAnswerTo, AnswersGoBack, is_refusal, RefusalsLeave, ViewsDecide, AgreementStands, AcceptedAgree, FilesAreOwn, GoodHaveFiles}
use Rattle.off_transfer_laws.proofs.ViewLemmas.{built_is_one, held_of, live_in, owner_held, owner_agreed, passes_some, agreement_from, agreement_of, agrees_from, file_of_built, built_of_file, built_there, good_has_file}
use Rattle.off_transfer_laws.proofs.WayLemmas.{Accepting, Standing, standing_way}

-- ---- one result

given_is_one : (v : View) (now : ℕ) (xs : Transfers) (from : Peer) (bytes : List ℕ) (w : Way) (one other : Given)
    → GivesBy v xs (datagram_at now from bytes) w one → GivesBy v xs (datagram_at now from bytes) w other → one ≡ other
given_is_one v now xs from bytes (Denies denial) one other p q = p ∙ sym q
given_is_one v now xs from bytes (Repeats x) one other p q = p ∙ sym q
given_is_one v now xs from bytes (Accepts request owner) one other p q =
    let file : p.0 ≡ q.0 = built_is_one v now from.ip p.0 q.0 p.1.0 q.1.0 in
    p.1.1
    ∙ ap (λ (f : List ℕ). gives (map.insert xs from (new_transfer (datagram_at now from bytes) request owner f)) (last_to from (new_transfer (datagram_at now from bytes) request owner f)) (first_word request.options)) file
    ∙ sym q.1.1
given_is_one v now xs from bytes Ignores one other p q = p ∙ sym q
given_is_one v now xs from bytes Finishes one other p q = p ∙ sym q
given_is_one v now xs from bytes BreaksOff one other p q = p ∙ sym q
given_is_one v now xs from bytes (GoesOn x) one other p q = p ∙ sym q
given_is_one v now xs from bytes Leaves one other p q = p ∙ sym q

pub step_is_one : TransferStepIsOne
unfolding TftpStep
step_is_one t xs d one other p q = given_is_one (view t d.from.ip) d.at xs d.from d.bytes (way (view t d.from.ip) xs d) one other p q

-- what is accepted has a file
accepted_file : (t : Tables) (now : ℕ) (ip : Ip4) (mac : Mac) (owner : ℕ) (name : List ℕ) → Accepting (view t ip) now ip mac owner name
    → (file : List ℕ) × IsBuiltBy (view t ip) now ip file
accepted_file t now ip mac owner name a =
    let both = and_parts (passes (is_own_name name mac ip) (view t ip).site) (is_some (view t ip).profile) a.served in
    let site = passes_some (is_own_name name mac ip) (view t ip).site both.0 in
    built_there t now ip mac (owner_held now (lease_in t ip) mac (live_in t now ip mac (held_of (view t ip) now mac a.held))) (ap is_some site.1) both.1

given_there : (t : Tables) (now : ℕ) (xs : Transfers) (from : Peer) (bytes : List ℕ) (w : Way) → Standing (view t from.ip) now from.ip (has_no_room xs) (map.get xs from) w
    → (given : Given) × GivesBy (view t from.ip) xs (datagram_at now from bytes) w given
given_there t now xs from bytes (Denies denial) s = (gives xs (error_to from denial) denial.word, refl)
given_there t now xs from bytes (Repeats x) s = (gives (map.insert xs from (asked_again now x)) (last_to from x) word.Again, refl)
given_there t now xs from bytes (Accepts request owner) s =
    let f = accepted_file t now from.ip owner.modem owner.subscriber request.name s.0 in (
      gives (map.insert xs from (new_transfer (datagram_at now from bytes) request owner f.0)) (last_to from (new_transfer (datagram_at now from bytes) request owner f.0)) (first_word request.options),
      (f.0, (f.1, refl)),
    )
given_there t now xs from bytes Ignores s = (gives xs [] word.StaleAck, refl)
given_there t now xs from bytes Finishes s = (gives (map.remove xs from) [] word.Done, refl)
given_there t now xs from bytes BreaksOff s = (gives (map.remove xs from) (error_to from no_longer_agreed) word.Agreement, refl)
given_there t now xs from bytes (GoesOn x) s = (gives (map.insert xs from (gone_on now x)) (last_to from (gone_on now x)) (word.Block (suc x.sent)), refl)
given_there t now xs from bytes Leaves s = (gives (map.remove xs from) [] word.PeerError, refl)

pub step_is_there : TransferStepIsThere
unfolding TftpStep
step_is_there t xs d =
    given_there t d.at xs d.from d.bytes (way (view t d.from.ip) xs d) (standing_way (view t d.from.ip) d.at xs d.from d.bytes)

-- ---- what is left

others_by : (v : View) (now : ℕ) (xs : Transfers) (from : Peer) (bytes : List ℕ) (w : Way) (given : Given) → GivesBy v xs (datagram_at now from bytes) w given
    → (peer : Peer) → peer ≢ from → map.get given.transfers peer ≡ map.get xs peer
others_by v now xs from bytes (Denies denial) given e peer apart = ap (λ (g : Given). map.get g.transfers peer) e
others_by v now xs from bytes (Repeats x) given e peer apart = ap (λ (g : Given). map.get g.transfers peer) e ∙ inserted_apart xs from (asked_again now x) peer apart
others_by v now xs from bytes (Accepts request owner) given e peer apart =
    ap (λ (g : Given). map.get g.transfers peer) e.1.1 ∙ inserted_apart xs from (new_transfer (datagram_at now from bytes) request owner e.0) peer apart
others_by v now xs from bytes Ignores given e peer apart = ap (λ (g : Given). map.get g.transfers peer) e
others_by v now xs from bytes Finishes given e peer apart = ap (λ (g : Given). map.get g.transfers peer) e ∙ removed_apart xs from peer apart
others_by v now xs from bytes BreaksOff given e peer apart = ap (λ (g : Given). map.get g.transfers peer) e ∙ removed_apart xs from peer apart
others_by v now xs from bytes (GoesOn x) given e peer apart = ap (λ (g : Given). map.get g.transfers peer) e ∙ inserted_apart xs from (gone_on now x) peer apart
others_by v now xs from bytes Leaves given e peer apart = ap (λ (g : Given). map.get g.transfers peer) e ∙ removed_apart xs from peer apart

pub others_stay : OthersStay
unfolding TftpStep
others_stay t xs d given step = others_by (view t d.from.ip) d.at xs d.from d.bytes (way (view t d.from.ip) xs d) given step

few_more : (there : Bool) (n : ℕ) (full : Bool) → nat_le 256 n ≡ full → (full ≡ true → there ≡ true) → n ≤ 256 → cond there n (n + 1) ≤ 256
few_more true n full e room few = few
few_more false n true e room few = let never : false ≡ true = room refl in cc
few_more false n false e room few = omega (arith, leb-false 256 n e)

few_less : (there : Bool) (n : ℕ) → n ≤ 256 → cond there (n - 1) n ≤ 256
few_less true n few = omega (arith, few)
few_less false n few = few

few_inserted : (xs : Transfers) (from : Peer) (x : Transfer) → (has_no_room xs ≡ true → is_some (map.get xs from) ≡ true) → map.len xs ≤ 256 → map.len (map.insert xs from x) ≤ 256
few_inserted xs from x room few =
    subst (λ n. n ≤ 256) (sym (map.len-insert peer_total xs from x)) (few_more (is_some (map.get xs from)) (map.len xs) (nat_le 256 (map.len xs)) refl room few)

few_removed : (xs : Transfers) (from : Peer) → map.len xs ≤ 256 → map.len (map.remove xs from) ≤ 256
few_removed xs from few = subst (λ n. n ≤ 256) (sym (map.len-remove peer_total xs from)) (few_less (is_some (map.get xs from)) (map.len xs) few)

few_by : (v : View) (now : ℕ) (xs : Transfers) (from : Peer) (bytes : List ℕ) (w : Way) (given : Given) → Standing v now from.ip (has_no_room xs) (map.get xs from) w
    → GivesBy v xs (datagram_at now from bytes) w given → map.len xs ≤ 256 → map.len given.transfers ≤ 256
few_by v now xs from bytes (Denies denial) given s e few = subst (λ (g : Given). map.len g.transfers ≤ 256) (sym e) few
few_by v now xs from bytes (Repeats x) given s e few =
    subst (λ (g : Given). map.len g.transfers ≤ 256) (sym e) (few_inserted xs from (asked_again now x) (λ full. ap is_some s) few)
few_by v now xs from bytes (Accepts request owner) given s e few =
    subst (λ (g : Given). map.len g.transfers ≤ 256) (sym e.1.1) (few_inserted xs from (new_transfer (datagram_at now from bytes) request owner e.0) s.1 few)
few_by v now xs from bytes Ignores given s e few = subst (λ (g : Given). map.len g.transfers ≤ 256) (sym e) few
few_by v now xs from bytes Finishes given s e few = subst (λ (g : Given). map.len g.transfers ≤ 256) (sym e) (few_removed xs from few)
few_by v now xs from bytes BreaksOff given s e few = subst (λ (g : Given). map.len g.transfers ≤ 256) (sym e) (few_removed xs from few)
few_by v now xs from bytes (GoesOn x) given s e few =
    subst (λ (g : Given). map.len g.transfers ≤ 256) (sym e) (few_inserted xs from (gone_on now x) (λ full. ap is_some s.0) few)
few_by v now xs from bytes Leaves given s e few = subst (λ (g : Given). map.len g.transfers ≤ 256) (sym e) (few_removed xs from few)

pub few_stay : FewStay
unfolding TftpStep
few_stay t xs d given step few =
    few_by (view t d.from.ip) d.at xs d.from d.bytes (way (view t d.from.ip) xs d) given (standing_way (view t d.from.ip) d.at xs d.from d.bytes) step few

-- ---- what is sent

answer_by : (v : View) (now : ℕ) (xs : Transfers) (from : Peer) (bytes : List ℕ) (w : Way) (given : Given) → GivesBy v xs (datagram_at now from bytes) w given → IsAnswerTo from given.items
answer_by v now xs from bytes (Denies denial) given e = inr (_, ap (λ (g : Given). g.items) e)
answer_by v now xs from bytes (Repeats x) given e = inr (_, ap (λ (g : Given). g.items) e)
answer_by v now xs from bytes (Accepts request owner) given e = inr (_, ap (λ (g : Given). g.items) e.1.1)
answer_by v now xs from bytes Ignores given e = inl (ap (λ (g : Given). g.items) e)
answer_by v now xs from bytes Finishes given e = inl (ap (λ (g : Given). g.items) e)
answer_by v now xs from bytes BreaksOff given e = inr (_, ap (λ (g : Given). g.items) e)
answer_by v now xs from bytes (GoesOn x) given e = inr (_, ap (λ (g : Given). g.items) e)
answer_by v now xs from bytes Leaves given e = inl (ap (λ (g : Given). g.items) e)

pub answers_go_back : AnswersGoBack
unfolding TftpStep
answers_go_back t xs d given step = answer_by (view t d.from.ip) d.at xs d.from d.bytes (way (view t d.from.ip) xs d) given step

first_acts : (any : Bool) → is_refusal (if any then word.Oack else word.Block 1) ≡ false
first_acts true = refl
first_acts false = refl

acts_not : (given : Given) (P : Type 0) → is_refusal given.word ≡ false → is_refusal given.word ≡ true → P
acts_not given P acts refuses = cc

refusal_by : (v : View) (now : ℕ) (xs : Transfers) (from : Peer) (bytes : List ℕ) (w : Way) (given : Given) → GivesBy v xs (datagram_at now from bytes) w given
    → is_refusal given.word ≡ true → given.transfers ≡ xs
refusal_by v now xs from bytes (Denies denial) given e h = ap (λ (g : Given). g.transfers) e
refusal_by v now xs from bytes (Repeats x) given e h = acts_not given _ (ap (λ (g : Given). is_refusal g.word) e) h
refusal_by v now xs from bytes (Accepts request owner) given e h = acts_not given _ (ap (λ (g : Given). is_refusal g.word) e.1.1 ∙ first_acts (has_option request.options)) h
refusal_by v now xs from bytes Ignores given e h = ap (λ (g : Given). g.transfers) e
refusal_by v now xs from bytes Finishes given e h = acts_not given _ (ap (λ (g : Given). is_refusal g.word) e) h
refusal_by v now xs from bytes BreaksOff given e h = acts_not given _ (ap (λ (g : Given). is_refusal g.word) e) h
refusal_by v now xs from bytes (GoesOn x) given e h = acts_not given _ (ap (λ (g : Given). is_refusal g.word) e) h
refusal_by v now xs from bytes Leaves given e h = acts_not given _ (ap (λ (g : Given). is_refusal g.word) e) h

pub refusals_leave : RefusalsLeave
unfolding TftpStep
refusals_leave t xs d given step h = refusal_by (view t d.from.ip) d.at xs d.from d.bytes (way (view t d.from.ip) xs d) given step h

-- ---- what is read

pub views_decide : ViewsDecide
unfolding TftpStep
views_decide t u xs d given same step = subst (λ (v : View). GivesBy v xs d (way v xs d) given) same step

pub agreement_stands : AgreementStands
agreement_stands t now ip name owner = (agreement_of t now ip name owner.modem owner.subscriber, agrees_from t now ip name owner.modem owner.subscriber)

pub accepting_agrees : (t : Tables) (now : ℕ) (ip : Ip4) (mac : Mac) (owner : ℕ) (name : List ℕ) → Accepting (view t ip) now ip mac owner name → Agreement t now ip name (file_owner mac owner)
accepting_agrees t now ip mac owner name a =
    agreement_from t now ip name mac owner a.held (ap (passes (is_of_subscriber owner)) a.modem_is ∙ eq-eqb a.modem.subscriber owner a.owned)
    (and_parts (passes (is_own_name name mac ip) (view t ip).site) (is_some (view t ip).profile) a.served).0

pub accepted_agree : AcceptedAgree
accepted_agree t xs d request owner e =
    accepting_agrees t d.at d.from.ip owner.modem owner.subscriber request.name
    (subst (Standing (view t d.from.ip) d.at d.from.ip (has_no_room xs) (map.get xs d.from)) e (standing_way (view t d.from.ip) d.at xs d.from d.bytes)).0

pub files_are_own : FilesAreOwn
files_are_own t now ip name owner file a =
    let agreed = owner_agreed t now ip name owner.modem owner.subscriber a in
    (file_of_built t now ip owner.modem file agreed, built_of_file t now ip owner.modem file agreed)

pub good_have_files : GoodHaveFiles
good_have_files t now ip name owner good a = good_has_file t now ip name owner.modem owner.subscriber good a
