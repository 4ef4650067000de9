-- The files of a drill's modems: their profiles, and how long they are.
use Rattle.std.proofs.Common.{◌≡◌, ℕ, zero, suc, ◌+◌, ◌-◌, ◌*◌, ◌%◌, ◌≤◌, min, Bool, true, false, nat_lt, eqb, List, [], ◌∷◌, length, drop, replicate, Option, Some, None, option_map, option_and_then, refl, ap, ◌∙◌, arith, length-append, length-drop}
use Rattle.std.proofs.lemmas.List.{length-take, length-replicate}
use Rattle.off_base.specs.Tree.{Tree, spelling, trees_length}
use Rattle.off_base.specs.declared.addresses.Ip4.{Ip4}
use Rattle.off_base.proofs.TreeLemmas.{length-spelling}
use Rattle.off_mic.proofs.SealLemmas.{length_both}
use Rattle.off_mic.specs.Mic.{with_both, Sealed}
use Rattle.off_defs.specs.Bounds.{add_on_numbers}
use Rattle.off_defs.specs.declared.tables.Modem.{Modem}
use Rattle.off_defs.specs.declared.tables.Subscriber.{Subscriber}
use Rattle.off_defs.specs.declared.tables.Class.{Class}
use Rattle.off_defs.specs.State.{Tables}
use Rattle.off_account_rules.specs.Rows.{class_in}
use Rattle.off_table_laws.proofs.ListLemmas.{made_same}
use Rattle.off_file_rules.specs.Block.{block}
use Rattle.off_file_rules.specs.File.{with_stamps}
use Rattle.off_file_rules.specs.Profile.{profile_of, numbered_add_on, add_ons_in, profile_at, profile_in}
use Rattle.off_transfer_rules.specs.Transfers.{is_last_number}
use Rattle.off_drill_rules.specs.Rows.{class, mac, is_active}
use Rattle.off_drill_rules.specs.Events.{blocks_of}
use Rattle.off_drill_laws.specs.Stages.{file_size}
use Rattle.off_drill_laws.proofs.RowLemmas.{HasRows, modem_read, subscriber_read, add_on_read, class_read}

-- ---- the profile

abbrev pub profile : Bool → List Tree
profile active = profile_of active 2 class.settings []

module _ (t : Tables) (i : ℕ) (h : HasRows t i) where
  no_add_ons : add_ons_in t i ≡ []
  no_add_ons =
      made_same (numbered_add_on t i) (λ (k : ℕ). None) add_on_numbers (λ k inside. ap (option_map (λ (settings : List Tree). (k, settings))) (add_on_read t i h k))

  profile_there : profile_at t i 1 ≡ Some (profile (is_active i))
  profile_there =
      ap (λ (o : Option Subscriber). option_and_then (λ (who : Subscriber). option_map (λ (row : Class). profile_of who.active who.cpes row.settings (add_ons_in t i)) (class_in t 1)) o)
      (subscriber_read t i h)
      ∙ ap (option_map (λ (row : Class). profile_of (is_active i) 2 row.settings (add_ons_in t i))) (class_read t i h)
      ∙ ap (λ (adds : List (ℕ × List Tree)). Some (profile_of (is_active i) 2 class.settings adds)) no_add_ons

  pub profile_is : profile_in t (mac i) ≡ Some (profile (is_active i))
  unfolding profile_in
  profile_is = ap (option_and_then (λ (m : Modem). profile_at t m.subscriber m.class)) (modem_read t i h) ∙ profile_there

-- ---- how long a file is

own_length : (active : Bool) (now : ℕ) (ip : Ip4) → trees_length (with_stamps (profile active) now ip) ≡ (file_size active - 40)
own_length true now ip = refl
own_length false now ip = refl

padded : (n body pads : ℕ) (active : Bool) → n ≡ body + suc pads → body ≡ (file_size active - 40) + 36 → pads ≤ 3 → n % 4 ≡ 0 → n ≡ file_size active
padded n body pads true is all few even = omega (arith, is, all, few, even)
padded n body pads false is all few even = omega (arith, is, all, few, even)

pub size_is : (file secret : List ℕ) (active : Bool) (now : ℕ) (ip : Ip4) → Sealed file (with_stamps (profile active) now ip) secret → length file ≡ file_size active
size_is file secret active now ip s =
    let ts = with_stamps (profile active) now ip in
    let long : length file ≡ length (spelling (with_both secret ts)) + suc s.pads =
    ap length s.whole ∙ length-append (spelling (with_both secret ts)) (255 ∷ replicate s.pads 0)
    ∙ ap (λ (n : ℕ). length (spelling (with_both secret ts)) + suc n) (length-replicate s.pads 0) in
    let body : length (spelling (with_both secret ts)) ≡ (file_size active - 40) + 36 =
    length-spelling (with_both secret ts) ∙ length_both secret ts ∙ ap (λ (n : ℕ). n + 36) (own_length active now ip) in
    padded (length file) (length (spelling (with_both secret ts))) s.pads active long body s.few s.aligned

-- ---- its blocks

length_block : (file : List ℕ) (number : ℕ) → length (block file 44 (suc number)) ≡ min 44 (length file - number * 44)
length_block file number = length-take 44 (drop (number * 44) file) ∙ ap (min 44) (length-drop (number * 44) file)

-- so many bytes of the file are in the blocks up to a number
pub octets_more : (file : List ℕ) (active : Bool) (number : ℕ) → length file ≡ file_size active
    → length (block file 44 (suc number)) + min (number * 44) (file_size active) ≡ min (suc number * 44) (file_size active)
octets_more file active number size = joined (file_size active) number (length (block file 44 (suc number))) (length_block file number ∙ ap (λ (n : ℕ). min 44 (n - number * 44)) size)
  where
    joined : (s number one : ℕ) → one ≡ min 44 (s - number * 44) → one + min (number * 44) s ≡ min (suc number * 44) s
    joined s number one is = omega (arith, is)

-- the last block is the one with fewer bytes
is_short : (file : List ℕ) (size number : ℕ) → length file ≡ size → nat_lt (length (block file 44 (suc number))) 44 ≡ nat_lt (min 44 (size - number * 44)) 44
is_short file size number is = ap (λ (n : ℕ). nat_lt n 44) (length_block file number ∙ ap (λ (n : ℕ). min 44 (n - number * 44)) is)

pub last_is : (file : List ℕ) (active : Bool) (number : ℕ) → length file ≡ file_size active → number ≤ blocks_of active
    → is_last_number file 44 number ≡ eqb number (blocks_of active)
last_is file true zero size within = refl
last_is file true (suc zero) size within = is_short file 88 0 size
last_is file true (suc (suc zero)) size within = is_short file 88 1 size
last_is file true (suc (suc (suc zero))) size within = is_short file 88 2 size
last_is file true (suc (suc (suc (suc more)))) size within = absurd (omega (arith, within))
last_is file false zero size within = refl
last_is file false (suc zero) size within = is_short file 76 0 size
last_is file false (suc (suc zero)) size within = is_short file 76 1 size
last_is file false (suc (suc (suc more))) size within = absurd (omega (arith, within))
