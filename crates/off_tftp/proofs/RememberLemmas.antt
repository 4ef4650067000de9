-- What is remembered behind a change of a peer's transfer.
use Rattle.std.proofs.Common.{◌≡◌, ℕ, ◌==◌, not, true, false, cond, List, Option, Some, None, option_map, IfSome, refl, sym, ap, ◌∙◌, subst}
use Rattle.std.specs.FinMap as map
use Rattle.std.proofs.lemmas.Bool.{eq-eqb}
use Rattle.off_base.specs.declared.addresses.Peer.{Peer}
use Rattle.off_defs.specs.State.{Transfer}
use Rattle.off_account_rules.specs.Rows.{passes}
use Rattle.off_transfer_rules.specs.Transfers.{Transfers, asked_again, gone_on}
use Rattle.off_transfer_rules.proofs.PeerLemmas.{peer_total, own_peer}
use Rattle.off_tftp.specs.declared.deciding.Change.{Change}
use Rattle.off_tftp.specs.declared.deciding.Change.TheVariants as change
use Rattle.off_tftp.specs.declared.deciding.Decision.{Decision}
use Rattle.off_tftp.specs.declared.agreements.Agreement.{Agreement}
use Rattle.off_tftp.specs.Agreements.{Slots, in_slot, with_agreed, stands_for, is_remembered}
use Rattle.off_tftp.specs.Calls.{has_gone_on, RememberedWhereGoneOn, RememberedWhereBegun}
use Rattle.off_tftp.specs.Deciding.{Remembers, SeesBegun, goes_on, new_transfer_by, after_change}
use Rattle.off_tftp.specs.Kept.{changed_by}
use Rattle.off_tftp.specs.Stages.{repeats}
use Rattle.off_tftp.proofs.AgreementLemmas.{standing_remembered}

-- a change leaves this of a peer's transfer
abbrev left_of : Change → ℕ → Option Transfer → Option Transfer
left_of change.Stays now live = live
left_of (change.AsksAgain place) now live = option_map (asked_again now) live
left_of (change.GoesOn place) now live = option_map (gone_on now) live
left_of (change.Ends place) now live = None
left_of (change.Begins place x entry) now live = Some x

module _ (old : Transfers) (from : Peer) where
  put_there : (x : Transfer) → map.get (map.insert old from x) from ≡ Some x
  put_there x = map.get-insert peer_total old from x from ∙ ap (λ b. cond b (Some x) (map.get old from)) (own_peer from)

  changed_there : (f : Transfer → Transfer) (live : Option Transfer) → map.get old from ≡ live → map.get (changed_by live old from f) from ≡ option_map f live
  changed_there f None is = is
  changed_there f (Some x) is = put_there (f x)

  left_is : (now : ℕ) (change : Change) → map.get (after_change change now old from) from ≡ left_of change now (map.get old from)
  left_is now change.Stays = refl
  left_is now (change.AsksAgain place) = changed_there (asked_again now) (map.get old from) refl
  left_is now (change.GoesOn place) = changed_there (gone_on now) (map.get old from) refl
  left_is now (change.Ends place) = map.get-remove peer_total old from from ∙ ap (λ b. cond b None (map.get old from)) (own_peer from)
  left_is now (change.Begins place x entry) = put_there x

module _ (now : ℕ) (from : Peer) (slots : Slots) where
  abbrev Known : Option Transfer → Type 0
  Known live = passes (is_remembered now from.ip slots) live ≡ true

  abbrev OnKnown : Change → Option Transfer → Type 0
  OnKnown change live = goes_on change ≡ true → IfSome live (λ x. is_remembered now from.ip slots x ≡ true)

  abbrev BegunKnown : Change → Type 0
  BegunKnown change = IfSome (new_transfer_by change) (λ x. is_remembered now from.ip slots x ≡ true)

  -- its last packet is the same one
  same_last : (x : Transfer) (n : ℕ) → n ≡ x.sent → not (x.sent == n) ≡ true → Known (Some x)
  same_last x n is other = let no : false ≡ true = sym (ap not (eq-eqb x.sent n (sym is))) ∙ other in cc

  on_left : (change : Change) (live : Option Transfer) → OnKnown change live → BegunKnown change → has_gone_on live (left_of change now live) ≡ true → Known (left_of change now live)
  on_left change.Stays None on begins other = absurd (let no : false ≡ true = other in cc)
  on_left change.Stays (Some x) on begins other = same_last x x.sent refl other
  on_left (change.AsksAgain place) None on begins other = absurd (let no : false ≡ true = other in cc)
  on_left (change.AsksAgain place) (Some x) on begins other = same_last x x.sent refl other
  on_left (change.GoesOn place) None on begins other = absurd (let no : false ≡ true = other in cc)
  on_left (change.GoesOn place) (Some x) on begins other = on refl
  on_left (change.Ends place) None on begins other = absurd (let no : false ≡ true = other in cc)
  on_left (change.Ends place) (Some x) on begins other = absurd (let no : false ≡ true = other in cc)
  on_left (change.Begins place y entry) live on begins other = begins

  begun_left : (bytes : List ℕ) (change : Change) (live : Option Transfer) → BegunKnown change → repeats bytes live ≡ false → repeats bytes (left_of change now live) ≡ true → Known (left_of change now live)
  begun_left bytes change.Stays live begins new again = absurd (let no : false ≡ true = sym new ∙ again in cc)
  begun_left bytes (change.AsksAgain place) None begins new again = absurd (let no : false ≡ true = again in cc)
  begun_left bytes (change.AsksAgain place) (Some x) begins new again = absurd (let no : false ≡ true = sym new ∙ again in cc)
  begun_left bytes (change.GoesOn place) None begins new again = absurd (let no : false ≡ true = again in cc)
  begun_left bytes (change.GoesOn place) (Some x) begins new again = absurd (let no : false ≡ true = again in cc)
  begun_left bytes (change.Ends place) live begins new again = absurd (let no : false ≡ true = again in cc)
  begun_left bytes (change.Begins place y entry) live begins new again = begins

  module _ (old : Transfers) (change : Change) where
    on_behind : OnKnown change (map.get old from) → BegunKnown change → RememberedWhereGoneOn now from old (after_change change now old from) slots
    on_behind on begins =
        subst (λ (live : Option Transfer). has_gone_on (map.get old from) live ≡ true → Known live) (sym (left_is old from now change))
        (on_left change (map.get old from) on begins)

    begun_behind : (bytes : List ℕ) → BegunKnown change → RememberedWhereBegun now from bytes old (after_change change now old from) slots
    begun_behind bytes begins = λ new.
        subst (λ (live : Option Transfer). repeats bytes live ≡ true → Known live) (sym (left_is old from now change))
        (begun_left bytes change (map.get old from) begins new)

  -- behind no change
  pub on_unchanged : (old : Transfers) → RememberedWhereGoneOn now from old old slots
  on_unchanged old = on_behind old change.Stays (λ on. let no : false ≡ true = on in cc) tt

  pub begun_unchanged : (bytes : List ℕ) (old : Transfers) → RememberedWhereBegun now from bytes old old slots
  begun_unchanged bytes old = begun_behind old change.Stays bytes tt

-- what was seen of agreement is put, and so it's remembered
begun_known : (now : ℕ) (from : Peer) (slots : Slots) (seen : Option Agreement) → IfSome seen (λ a. in_slot a.ip slots ≡ seen)
    → (live : Option Transfer) → IfSome live (λ x. passes (stands_for now from.ip x) seen ≡ true) → IfSome live (λ x. is_remembered now from.ip slots x ≡ true)
begun_known now from slots seen there None stands = tt
begun_known now from slots seen there (Some x) stands = standing_remembered now from.ip x slots seen there stands

module _ (now : ℕ) (from : Peer) (old : Transfers) (slots behind : Slots) (d : Decision) (is : behind ≡ with_agreed d.agreed slots) (there : IfSome d.agreed (λ a. in_slot a.ip behind ≡ d.agreed)) where
  pub gone_on_remembered : Remembers now from (map.get old from) slots d → SeesBegun now from d → RememberedWhereGoneOn now from old (after_change d.change now old from) behind
  gone_on_remembered remembers sees =
      on_behind now from behind old d.change
      (subst (λ (s : Slots). goes_on d.change ≡ true → IfSome (map.get old from) (λ x. is_remembered now from.ip s x ≡ true)) (sym is) remembers)
      (begun_known now from behind d.agreed there (new_transfer_by d.change) sees)

  pub begun_remembered : (bytes : List ℕ) → SeesBegun now from d → RememberedWhereBegun now from bytes old (after_change d.change now old from) behind
  begun_remembered bytes sees = begun_behind now from behind old d.change bytes (begun_known now from behind d.agreed there (new_transfer_by d.change) sees)
