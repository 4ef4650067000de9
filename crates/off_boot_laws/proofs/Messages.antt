-- A known modem's DISCOVER is answered by an offer, and its REQUEST by an acknowledgement.
use Rattle.std.proofs.Common.{◌≡◌, ℕ, ◌≤◌, Bool, true, false, true≢false, cond, not, ◌&&◌, ◌||◌, length, ◌==◌, List, [], ◌∷◌, Option, Some, None, option_and_then, MatchOption, ◌⊎◌, inl, inr, refl, sym, ap, subst, ◌∙◌}
use Rattle.std.proofs.lemmas.Bool.{and_from, and_parts, eq-eqb, eqb-true, le-leb}
use Rattle.std.specs.Option.{option_or}
use Rattle.off_base.specs.declared.addresses.Ip4.{Ip4}
use Rattle.off_base.specs.declared.macs.Mac.{Mac}
use Rattle.off_base.specs.Parts.{bytes_of}
use Rattle.off_docsis.specs.Cable.{begins_as_modem}
use Rattle.std.specs.Str.{bytes_eq}
use Rattle.std.proofs.lemmas.Slice.Eq.{bytes_eq-Decides}
use Rattle.off_defs.specs.declared.events.Service.TheVariants.{Dhcp}
use Rattle.off_defs.specs.declared.events.What.{What}
use Rattle.off_defs.specs.declared.events.What.TheVariants.{Datagram}
use Rattle.off_defs.specs.declared.results.Outcome.{Outcome}
use Rattle.off_defs.specs.declared.results.Outcome.TheVariants.{Did}
use Rattle.off_defs.specs.declared.tables.Site.{Site}
use Rattle.off_defs.specs.declared.tables.Pool.{Pool}
use Rattle.off_defs.specs.declared.tables.Modem.{Modem}
use Rattle.off_defs.specs.declared.tables.Lease.{Lease}
use Rattle.off_defs.specs.declared.tables.Hold.TheVariants.{Offered}
use Rattle.off_defs.specs.declared.writes.Write.{Write}
use Rattle.off_defs.specs.Clock.{later_by}
use Rattle.off_defs.specs.State.{Tables, State, Effect, at_moment}
use Rattle.off_defs.specs.Tables.{write_all}
use Rattle.off_dhcp.specs.Datagram.{Received, mac_of_client, option_in}
use Rattle.off_account_rules.specs.Rows.{passes, modem_in, lease_in, held_in, has_address}
use Rattle.off_account_rules.specs.Good.{Good, owner_of, is_address, is_live_bound}
use Rattle.off_table_laws.specs.Laws.{owner_in}
use Rattle.off_asking.specs.Asking.{is_discover, is_request, asks, client, claimed, named_server, serial_number, remote_identifier, form_of, named_address, at_address, asked_by, is_formless, is_selecting}
use Rattle.off_asking.specs.declared.forms.Named.TheVariants.{Absent, At}
use Rattle.off_asking.specs.declared.forms.Form.{Form}
use Rattle.off_asking.specs.declared.forms.Form.TheVariants.{Selecting, InitReboot, Renewing, NoForm}
use Rattle.off_asking.specs.Choice.{provided}
use Rattle.off_lease_rules.specs.Free.{pool_for, site_for, case_of, has_ended, is_free, choice, chosen_in, least_free}
use Rattle.off_asking.specs.Claims.{is_another, names_another_server, claims_own, claims_wrongly, refused_by}
use Rattle.off_lease_rules.specs.Rules.{has_cut_part, relays_another, is_no_modem, has_other_serial, is_for_a_server, rules_for}
use Rattle.off_lease_rules.specs.Steps.{offer_to, accepts, unless_refused, lease_step_for, lease_step_in, lease_step}
use Rattle.off_lease_rules.specs.declared.cases.Case.{Case}
use Rattle.off_lease_rules.specs.declared.results.LeaseStep.{LeaseStep}
use Rattle.off_lease_rules.specs.declared.words.DhcpWord.TheVariants as word
use Rattle.off_lease_rules.specs.Words.{acts}
use Rattle.off_lease_laws.specs.Outcomes.{WasOffered, Outcome as LeaseOutcome, refusal, offering, binding, declining, releasing}
use Rattle.off_lease_laws.specs.Effects.{lease_until, bound_until, IsLiveBound, IsBoundBy}
use Rattle.off_lease_laws.specs.Moves.{HoldersAgree}
use Rattle.off_lease_laws.proofs.ChoiceLemmas.{chosen_fits}
use Rattle.off_lease_laws.proofs.ChangeLemmas.{offered_writes, offer_lease_here}
use Rattle.off_lease_laws.proofs.EffectLemmas.{acks_bind, live_bound, live_not_ended}
use Rattle.off_lease_laws.proofs.FreeLemmas.{choice_fits}
use Rattle.off_lease_laws.proofs.OutcomeLemmas.{outcome}
use Rattle.off_lease_laws.proofs.LawLemmas.{messages_do}
use Rattle.off_lease_laws.proofs.GoodLemmas.{good_agree}
use Rattle.off_book.specs.Dhcp.{replies_of, dhcp_line, dhcp_effect}
use Rattle.off_laws.proofs.Messages.{message_did}
use Rattle.off_book.specs.Step.{Step, Does}
use Rattle.off_book.specs.Run.{Turn, effect_of}
use Rattle.off_laws.specs.Leases.{TakesMessage, moment_of}
use Rattle.off_boot_laws.proofs.Pooling.{pool_is_found, site_is_found}
use Rattle.off_boot_laws.specs.Known.{IsOwn, NamesNoOther, SaysModem, IsOfModem}
use Rattle.off_boot_laws.specs.Stages.{IsFree, DiscoversAreOffered, RequestsAreAcknowledged}
use Rattle.off_boot_laws.proofs.Own.{discover_own, request_own}
use Rattle.off_cpe_rules.specs.Behind.{modem_behind}
use Rattle.off_asking.proofs.ClaimLemmas.{none_broken}

-- the message as one of its kind
abbrev pub of_kind : ℕ → Received → Received
of_kind kind m = record m { kind = kind }

pub kind_is : (m : Received) (kind : ℕ) → m.kind ≡ kind → of_kind kind m ≡ m
kind_is m kind e = λ j. record m { kind = sym e j }

abbrev case_with : Site → Pool → Modem → Option Ip4 → Case
case_with site pool modem held = record { site = Some site; pool = Some pool; modem = Some modem; held = held }

-- ---- what the message says breaks no rule

pub record Known (t : Tables) (m : Received) : Type 0 where
  pub site : Site
  pub pool : Pool
  pub modem : Modem
  pub site_is : site_for t m ≡ Some site
  pub pool_is : pool_for t m ≡ Some pool
  pub modem_is : modem_in t (client m) ≡ Some modem
  pub whole : has_cut_part m ≡ false
  pub relayed : relays_another m ≡ false
  pub said : is_no_modem m ≡ false
  pub serial : has_other_serial m modem ≡ false

pub and_false : (b c : Bool) → c ≡ false → (b && c) ≡ false
and_false true c e = e
and_false false c e = refl

both_false : (b c : Bool) → ((b && false) || (c && false)) ≡ false
both_false true c = and_false c false refl
both_false false c = and_false c false refl

not_cut : (b : Bool) → ((b && false) || false) ≡ false
not_cut true = refl
not_cut false = refl

not_other : (value own : List ℕ) → value ≡ own → not (bytes_eq value own) ≡ false
not_other value own e = ap not ((bytes_eq-Decides value own).1 e)

own_remote : (own : List ℕ) (o : Option (List ℕ)) → NamesNoOther own o → passes (λ remote. (length remote == 6) && not (bytes_eq remote own)) o ≡ false
own_remote own None is = refl
own_remote own (Some value) is =
    elim (length value == 6) as (λ b. (length value == 6) ≡ b → (b && not (bytes_eq value own)) ≡ false) [
      | true ↦ λ six. not_other value own (is (eqb-true (length value) 6 six))
      | false ↦ λ other. refl
    ] refl

own_serial : (own : List ℕ) (o : Option (List ℕ)) → IsOwn own o → passes (λ serial. not (bytes_eq serial own)) o ≡ false
own_serial own None is = refl
own_serial own (Some value) is = not_other value own is

right_serial : (own : List ℕ) (o : Option (List ℕ)) → (own ≡ []) ⊎ IsOwn own o → (not (length own == 0) && passes (λ serial. not (bytes_eq serial own)) o) ≡ false
right_serial own o (inl none) = ap (λ s. not (length s == 0) && passes (λ serial. not (bytes_eq serial s)) o) none
right_serial own o (inr is) = and_false (not (length own == 0)) (passes (λ serial. not (bytes_eq serial own)) o) (own_serial own o is)

says_modem : (d r : Bool) (o : Option (List ℕ)) → SaysModem o → (o ≡ None → d ≡ false)
    → ((d && not (begins_as_modem (bytes_of o))) || (r && passes (λ class. not (begins_as_modem class)) o)) ≡ false
says_modem d r None says told = ap (λ b. (b && not (begins_as_modem (bytes_of None))) || (r && false)) (told refl) ∙ and_false r false refl
says_modem d r (Some class) says told = ap (λ b. (d && not b) || (r && not b)) says ∙ both_false d r

known_of : (t : Tables) (m : Received) → Good t → (k : IsOfModem t m) → asks m ≡ true → (option_in 60 m.options ≡ None → is_discover m ≡ false) → Known t m
known_of t m good k asking told = record {
  site = k.site;
  pool = k.pool;
  modem = k.modem;
  site_is = site_is_found t m k.number k.pool k.site good k.pool_is k.pooled asking k.site_is;
  pool_is = pool_is_found t m k.number k.pool good k.pool_is k.pooled;
  modem_is = k.modem_is;
  whole = (λ j. (asks m && k.vendor j) || k.relay j) ∙ not_cut (asks m);
  relayed = own_remote (mac_of_client m) (remote_identifier m) k.remote;
  said = says_modem (is_discover m) (is_request m) (option_in 60 m.options) k.class told;
  serial = right_serial k.modem.serial (serial_number m) k.serial;
}

pub right_server : (m : Received) (site : Site) → (named_server m ≡ Absent) ⊎ (named_server m ≡ At site.server) → names_another_server m site ≡ false
right_server m site (inl none) = ap (λ n. passes (is_another site) (at_address n)) none
right_server m site (inr own) = ap (λ n. passes (is_another site) (at_address n)) own ∙ ap not (eq-eqb site.server.0 site.server.0 refl)

-- ---- the rows and the chosen address decide

module _ (t : Tables) (now : ℕ) (m : Received) (k : Known t m) where
  abbrev known_case : Case
  known_case = case_with k.site k.pool k.modem (held_in t (client m))

  case_known : case_of t m ≡ known_case
  unfolding case_of
  case_known = λ j. record { site = k.site_is j; pool = k.pool_is j; modem = k.modem_is j; held = held_in t (client m) }

  -- the rows and the chosen address decide
  by_case : (a : Ip4) → chosen_in t now m known_case ≡ Some a → lease_step t now m ≡ lease_step_for now m known_case (Some a) (lease_in t a)
  unfolding lease_step
  by_case a chosen = ap (λ (x : Case). lease_step_in t now m x (chosen_in t now m x)) case_known ∙ ap (lease_step_in t now m known_case) chosen

  accepted : (a : Ip4) → chosen_in t now m known_case ≡ Some a → refused_by (rules_for m known_case (Some a)) ≡ None
      → lease_step t now m ≡ accepts now m known_case (Some a) (lease_in t a)
  unfolding lease_step_for
  accepted a chosen none =
      by_case a chosen ∙ ap (unless_refused m known_case (accepts now m known_case (Some a) (lease_in t a))) none

-- ---- a DISCOVER

-- an address of the pool that is the client's own or free is enough for the choice
module _ (t : Tables) (now : ℕ) (pool : Pool) (held asked : Option Ip4) (address : Ip4) (within : has_address pool address ≡ true)
    (opens : (held ≡ Some address) ⊎ (has_ended now (lease_in t address) ≡ true)) where
  free_here : has_ended now (lease_in t address) ≡ true → is_free t now pool address ≡ true
  free_here e = and_from (has_address pool address) (has_ended now (lease_in t address)) within e

  not_none : (held ≡ Some address → ⊥) → is_free t now pool address ≡ false → ⊥
  not_none held_not none =
      elim opens as (λ s. ⊥) [
        | inl own ↦ held_not own
        | inr ended ↦ true≢false (sym (free_here ended) ∙ none)
      ]

  chosen_by : (o : Option Ip4) → choice t now pool held asked ≡ o
      → MatchOption o ((a : Ip4) → has_address pool a ≡ true → (held ≡ Some a → ⊥) × (is_free t now pool a ≡ false))
      (λ chosen. (has_address pool chosen ≡ true) × ((held ≡ Some chosen) ⊎ (is_free t now pool chosen ≡ true)))
      → (a : Ip4) × (choice t now pool held asked ≡ Some a)
  chosen_by None e fits = absurd (let none = fits address within in not_none none.0 none.1)
  chosen_by (Some a) e fits = (a, e)

  chosen_there : (a : Ip4) × (choice t now pool held asked ≡ Some a)
  chosen_there = chosen_by (choice t now pool held asked) refl (choice_fits t now pool held asked)

module _ (t : Tables) (now : ℕ) (m : Received) where
  discover_rules : (k : Known t (of_kind 1 m)) (held : Option Ip4) (a : Ip4) → refused_by (rules_for (of_kind 1 m) (case_with k.site k.pool k.modem held) (Some a)) ≡ None
  discover_rules k held a =
      none_broken (rules_for (of_kind 1 m) (case_with k.site k.pool k.modem held) (Some a))
      (refl, (refl, (k.whole, (k.relayed, (k.said, (refl, (refl, (refl, (k.serial, (refl, (refl, (refl, (refl, tt)))))))))))))

  discover_word_of : (k : Known t (of_kind 1 m)) (address : Ip4) → has_address k.pool address ≡ true
      → ((held_in t (client m) ≡ Some address) ⊎ (has_ended now (lease_in t address) ≡ true)) → (lease_step t now (of_kind 1 m)).word ≡ word.Offer
  discover_word_of k address within opens =
      let chosen = chosen_there t now k.pool (held_in t (client m)) (at_address (named_address m)) address within opens in
      ap (λ (s : LeaseStep). s.word) (accepted t now (of_kind 1 m) k chosen.0 chosen.1 (discover_rules k (held_in t (client m)) chosen.0))

  discover_word : m.kind ≡ 1 → (k : Known t m) (address : Ip4) → has_address k.pool address ≡ true
      → ((held_in t (client m) ≡ Some address) ⊎ (has_ended now (lease_in t address) ≡ true)) → (lease_step t now m).word ≡ word.Offer
  discover_word kind =
      subst (λ (n : Received). (k : Known t n) (address : Ip4) → has_address k.pool address ≡ true
      → ((held_in t (client n) ≡ Some address) ⊎ (has_ended now (lease_in t address) ≡ true)) → (lease_step t now n).word ≡ word.Offer) (kind_is m 1 kind)
      discover_word_of

-- ---- a REQUEST

pub formed : (f : Form) (a : Ip4) → asked_by f ≡ Some a → is_formless f ≡ false
formed (Selecting b) a e = refl
formed (InitReboot b) a e = refl
formed (Renewing b) a e = refl
formed NoForm a e = cc

pub no_lack : (b c : Bool) → ((true && not b && false) || (false && not c)) ≡ false
no_lack true c = refl
no_lack false c = refl

module _ (t : Tables) (now : ℕ) (m : Received) where
  own_claim : (pool : Pool) (a : Ip4) → claimed (of_kind 3 m) ≡ Some a → has_address pool a ≡ true → (c : Case) → c.held ≡ Some a → c.pool ≡ Some pool
      → claims_wrongly (of_kind 3 m) c.held c.pool ≡ false
  own_claim pool a claim within c held pool_is =
      (λ j. not (passes (λ (b : Ip4). passes (is_address b) (held j)) (claim j) && passes (λ (b : Ip4). passes (λ (p : Pool). has_address p b) (pool_is j)) (claim j)))
      ∙ ap not (and_from (is_address a a) (has_address pool a) (eq-eqb a.0 a.0 refl) within)

  request_rules : (k : Known t (of_kind 3 m)) (a : Ip4) → names_another_server m k.site ≡ false → claimed (of_kind 3 m) ≡ Some a → has_address k.pool a ≡ true
      → refused_by (rules_for (of_kind 3 m) (case_with k.site k.pool k.modem (Some a)) (Some a)) ≡ None
  request_rules k a server claim within =
      none_broken (rules_for (of_kind 3 m) (case_with k.site k.pool k.modem (Some a)) (Some a)) (
        refl,
        (
          formed (form_of m) a claim,
          (
            k.whole,
            (
              k.relayed,
              (
                k.said,
                (
                  refl,
                  (
                    refl,
                    (
                      refl,
                      (
                        k.serial,
                        (and_false (is_for_a_server (of_kind 3 m)) (names_another_server m k.site) server, (refl, (no_lack (is_selecting (form_of m)) (claims_own (of_kind 3 m) (Some a)), (own_claim k.pool a claim within (case_with k.site k.pool k.modem (Some a)) refl refl, tt)))),
                      ),
                    ),
                  ),
                ),
              ),
            ),
          ),
        ),
      )

  request_word_of : (k : Known t (of_kind 3 m)) (a : Ip4) → names_another_server m k.site ≡ false → claimed (of_kind 3 m) ≡ Some a → has_address k.pool a ≡ true
      → held_in t (client m) ≡ Some a → (lease_step t now (of_kind 3 m)).word ≡ word.Ack
  request_word_of k a server claim within held =
      ap (λ (s : LeaseStep). s.word)
      (accepted t now (of_kind 3 m) k a claim
      (ap (λ (o : Option Ip4). refused_by (rules_for (of_kind 3 m) (case_with k.site k.pool k.modem o) (Some a))) held ∙ request_rules k a server claim within))

  request_word : m.kind ≡ 3 → (k : Known t m) (a : Ip4) → names_another_server m k.site ≡ false → claimed m ≡ Some a → has_address k.pool a ≡ true
      → held_in t (client m) ≡ Some a → (lease_step t now m).word ≡ word.Ack
  request_word kind =
      subst (λ (n : Received). (k : Known t n) (a : Ip4) → names_another_server n k.site ≡ false → claimed n ≡ Some a → has_address k.pool a ≡ true
      → held_in t (client n) ≡ Some a → (lease_step t now n).word ≡ word.Ack) (kind_is m 3 kind)
      request_word_of

-- ---- what the words say

-- the offered address is the one that was chosen in the pool
pub record OffersOne (t : Tables) (now : ℕ) (m : Received) (step : LeaseStep) : Type 0 where
  pub site : Site
  pub pool : Pool
  pub address : Ip4
  pub lease : Lease
  pub site_is : site_for t m ≡ Some site
  pub pool_is : pool_for t m ≡ Some pool
  pub within : has_address pool address ≡ true
  pub own : (held : Ip4) → held_in t (client m) ≡ Some held → has_address pool held ≡ true → address ≡ held
  pub reply : step.reply ≡ Some (offer_to 2 m site pool address)
  pub lease_is : lease_in (write_all t step.writes) address ≡ Some lease
  pub owned : owner_of lease.hold ≡ Some (client m)
  pub lasts : (lease ≡ lease_until (Offered (client m)) (later_by 120 now)) ⊎ IsLiveBound now (client m) (Some lease)

-- a lease that is live and bound is bound to its owner
module _ (t : Tables) (now : ℕ) (m : Received) (agree : HoldersAgree t) (step : LeaseStep) (was : WasOffered t now m step) where
  fits : (has_address was.pool was.address ≡ true) × ((held_in t (client m) ≡ Some was.address) ⊎ (is_free t now was.pool was.address ≡ true))
  fits = chosen_fits t now was.pool (held_in t (client m)) (at_address (named_address m)) was.address was.chosen

  pub own_chosen : (held : Ip4) → held_in t (client m) ≡ Some held → has_address was.pool held ≡ true → was.address ≡ held
  own_chosen held holds within =
      let first : provided (has_address was.pool) (held_in t (client m)) ≡ Some held = ap (provided (has_address was.pool)) holds ∙ ap (λ b. cond b (Some held) None) within in
      let both : ◌≡◌ {A = Option Ip4} (Some was.address) (Some held) =
      sym was.chosen
      ∙ ap (λ o. option_or o (option_or (provided (is_free t now was.pool) (at_address (named_address m))) (least_free t now was.pool))) first in
      cc

  given : Lease
  given = lease_until (Offered (client m)) (later_by 120 now)

  already : passes (is_live_bound now) (lease_in t was.address) ≡ true → held_in t (client m) ≡ Some was.address
  already live =
      elim fits.1 as (λ s. held_in t (client m) ≡ Some was.address) [
        | inl held ↦ held
        | inr free ↦ absurd (live_not_ended now (lease_in t was.address) live (and_parts (has_address was.pool was.address) (has_ended now (lease_in t was.address)) free).1)
      ]

  -- where the lease is bound and lives, nothing is written
  pub bound_stays : passes (is_live_bound now) (lease_in t was.address) ≡ true → step.writes ≡ []
  unfolding given
  bound_stays live = was.writes ∙ ap (λ b. cond b [] (offered_writes t (client m) was.address given refl)) live

  offer_by : (writes : List Write) (lease : Lease) → step.writes ≡ writes → lease_in (write_all t writes) was.address ≡ Some lease → owner_of lease.hold ≡ Some (client m)
      → ((lease ≡ lease_until (Offered (client m)) (later_by 120 now)) ⊎ IsLiveBound now (client m) (Some lease)) → OffersOne t now m step
  offer_by writes lease e there owned lasts = record {
    site = was.site;
    pool = was.pool;
    address = was.address;
    lease = lease;
    site_is = was.site_is;
    pool_is = was.pool_is;
    within = fits.0;
    own = own_chosen;
    reply = was.reply;
    lease_is = ap (λ (w : List Write). lease_in (write_all t w) was.address) e ∙ there;
    owned = owned;
    lasts = lasts;
  }

  pub offers_one : OffersOne t now m step
  unfolding given
  offers_one =
      elim (passes (is_live_bound now) (lease_in t was.address)) as (λ b. passes (is_live_bound now) (lease_in t was.address) ≡ b
      → step.writes ≡ cond b [] (offered_writes t (client m) was.address given refl) → OffersOne t now m step) [
        | true ↦ λ live e.
            let bound = live_bound now (client m) (lease_in t was.address) live ((agree (client m) was.address).1 (already live)) in
            offer_by [] (bound_until (client m) bound.expiry) e bound.bound refl (inr (record { expiry = bound.expiry; bound = refl; live = bound.live }))
        | false ↦ λ no e.
            offer_by (offered_writes t (client m) was.address given refl) given e (offer_lease_here t (client m) was.address given refl) refl (inl refl)
      ] refl was.writes

pub offering_of : (t : Tables) (now : ℕ) (m : Received) (step : LeaseStep) → LeaseOutcome t now m step → step.word ≡ word.Offer → WasOffered t now m step
offering_of t now m step (offering was) e = was
offering_of t now m step (refusal was) e = let quiet : acts word.Offer ≡ false = ap acts (sym e) ∙ was.said in cc
offering_of t now m step (binding was) e = let said = was.said in cc
offering_of t now m step (declining was) e = let said = was.said in cc
offering_of t now m step (releasing was) e = let said = was.said in cc

-- ---- a turn that takes a message and acts on it does what the message asks
message_acts : (s after : State) (turn : Turn) (m : Received) → Step s turn.event turn.outcome (effect_of turn after) → TakesMessage m turn → turn.outcome ≡ Did → (m.kind == 10) ≡ false → modem_behind s.tables m ≡ None
    → effect_of turn after ≡ dhcp_effect (at_moment s turn.event.at.0) (lease_step s.tables (moment_of s turn) m)
unfolding Step
message_acts s after turn m step takes did other own =
    message_did (at_moment s turn.event.at.0) takes.bytes (effect_of turn after) m takes.read other own
    (subst (λ (o : Outcome). Does (at_moment s turn.event.at.0) (Datagram Dhcp takes.from takes.bytes) o (effect_of turn after)) did
    (subst (λ (what : What). Does (at_moment s turn.event.at.0) what turn.outcome (effect_of turn after)) takes.came step))
    ∙ ap (dhcp_effect (at_moment s turn.event.at.0)) (messages_do s.tables (moment_of s turn) takes.bytes m takes.read)

-- an address without a lease, or with one that has ended, is free
ended_of : (now : ℕ) (o : Option Lease) → ((lease : Lease) → o ≡ Some lease → lease.expiry.0 ≤ now) → has_ended now o ≡ true
ended_of now None free = refl
ended_of now (Some lease) free = le-leb lease.expiry.0 now (free lease refl)

opened_of : (t : Tables) (now : ℕ) (mac : Mac) (address : Ip4) → (held_in t mac ≡ Some address) ⊎ IsFree t now address
    → (held_in t mac ≡ Some address) ⊎ (has_ended now (lease_in t address) ≡ true)
opened_of t now mac address (inl own) = inl own
opened_of t now mac address (inr free) = inr (ended_of now (lease_in t address) free)

pub discovers_are_offered : DiscoversAreOffered
unfolding known_of
discovers_are_offered s after turn m good step well d =
    let is = message_acts s after turn m step d.takes well.did (ap (λ k. k == 10) d.kind) (discover_own s turn m d) in
    let now = moment_of s turn in
    let said : (lease_step s.tables now m).word ≡ word.Offer = discover_word s.tables now m d.kind (known_of s.tables m good d.known (ap (λ k. (k == 1) || (k == 3)) d.kind) (λ none. absurd (d.told none))) d.address d.within (opened_of s.tables now (client m) d.address d.opens) in
    let one = offers_one s.tables now m (good_agree s.tables good) (lease_step s.tables now m) (offering_of s.tables now m (lease_step s.tables now m) (outcome s.tables now m) said) in
    record {
      site = one.site;
      pool = one.pool;
      address = one.address;
      lease = one.lease;
      site_is = one.site_is;
      pool_is = one.pool_is;
      within = one.within;
      own = one.own;
      line = ap (λ (e : Effect). e.said.line) is ∙ ap dhcp_line said;
      sent = well.sent ∙ ap (λ (e : Effect). e.said.items) is ∙ ap replies_of one.reply;
      owned = ap (λ (e : Effect). owner_in e.after.tables one.address) is ∙ ap (option_and_then (λ (l : Lease). owner_of l.hold)) one.lease_is ∙ one.owned;
      lease_is = ap (λ (e : Effect). lease_in e.after.tables one.address) is ∙ one.lease_is;
      lasts = one.lasts;
    }

pub same_address : (a b : Ip4) (o : Option Ip4) → o ≡ Some a → o ≡ Some b → a ≡ b
same_address a b o e f = let both : ◌≡◌ {A = Option Ip4} (Some a) (Some b) = sym e ∙ f in cc

pub requests_are_acknowledged : RequestsAreAcknowledged
unfolding known_of
requests_are_acknowledged s after turn m address good step well r held =
    let is = message_acts s after turn m step r.takes well.did (ap (λ k. k == 10) r.kind) (request_own s turn m address good r) in
    let now = moment_of s turn in
    let said : (lease_step s.tables now m).word ≡ word.Ack = request_word s.tables now m r.kind (known_of s.tables m good r.known (ap (λ k. (k == 1) || (k == 3)) r.kind) (λ none. ap (λ k. k == 1) r.kind)) address (right_server m r.known.site r.server) r.claim r.within held in
    let acked : IsBoundBy s.tables now m (lease_step s.tables now m) = acks_bind s.tables now m said in
    let same : acked.address ≡ address = same_address acked.address address (claimed m) acked.claim r.claim in
    record {
      site = acked.site;
      pool = acked.pool;
      site_is = acked.site_is;
      line = ap (λ (e : Effect). e.said.line) is ∙ ap dhcp_line said;
      sent = well.sent ∙ ap (λ (e : Effect). e.said.items) is ∙ ap replies_of acked.reply ∙ ap (λ (a : Ip4). offer_to 5 m acked.site acked.pool a ∷ []) same;
      bound = subst (λ (a : Ip4). lease_in after.tables a ≡ Some (bound_until (client m) (later_by acked.site.lease now))) same
          (ap (λ (e : Effect). lease_in e.after.tables acked.address) is ∙ acked.lease);
    }
