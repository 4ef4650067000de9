-- Building settings of bytes that some settings spell.
use Rattle.std.proofs.Common.{◌≡◌, ℕ, ◌+◌, ◌≤◌, true, false, List, [], ◌∷◌, ◌++◌, length, get_or, take, drop, replicate, refl, sym, ap, subst, ◌∙◌, arith, append_assoc, length-append, Result, Ok, Err, MatchResult}
use Rattle.std.proofs.lemmas.List.{take_at}
use Rattle.off_base.specs.Tree.{Tree, Row, leaf, group, no_more, followed, row_items, row_of, spelled, spelled_row, spelling, RowFits}
use Rattle.off_tlv.specs.declared.faults.ReadFault.{ReadFault}
use Rattle.off_tlv.specs.declared.faults.FileErr.{FileErr}
use Rattle.off_tlv.specs.declared.faults.FileErr.TheVariants.{Read, Memory}
use Rattle.off_tlv.specs.Grammar.{end_byte, pad_byte, EndsAt, Level, in_file, is_group, is_code, inside_of, RowShaped, Stands, AllStand, FileOf}
use Rattle.off_tlv.specs.Fault.{IsShort, IsFirstFault, HasReading}
use Rattle.off_tlv.specs.Front.{IsSetting, IsSpelled, SpellsSetting}
use Rattle.off_tlv.specs.Told.{WhyNotRead, Gives}
use Rattle.off_tlv.specs.Walk.{TakesAt}
use Rattle.off_tlv.proofs.GrammarLemmas.{row_spelled, true_not_false, whole_not_short, one_reading}
use Rattle.off_base.proofs.ByteLemmas.{same_parts}
use Rattle.off_tlv.proofs.FrontLemmas.{AllStand-push, spelling-push, group_stands, group_spells}

pub not_short_by : (level : Level) (rest : List ℕ) (ts : List Tree) → rest ≡ spelling ts → IsShort rest → ⊥
not_short_by level rest [] e short = subst IsShort e short
not_short_by level rest (leaf c v ∷ ts) e short = whole_not_short rest c v (spelling ts) e short
not_short_by level rest (group c r ∷ ts) e short = whole_not_short rest c (spelled_row r) (spelling ts) e short

pub spelled_not_short : (level : Level) (rest : List ℕ) → IsSpelled level rest → IsShort rest → ⊥
spelled_not_short level rest s short = not_short_by level rest s.trees s.whole short

-- a setting that spells the same code and length as stands in front is in front
pub front_is : (code : ℕ) (value more : List ℕ) (t : Tree) (others : List ℕ) → code ∷ length value ∷ value ++ more ≡ spelled t ++ others
    → (spelled t ≡ code ∷ length value ∷ value) × (more ≡ others)
front_is code value more (leaf c v) others e =
    let codes : c ≡ code = cc in
    let parts : value ++ more ≡ v ++ others = cc in
    let long : length value ≡ length v = cc in
    let both = same_parts value v more others long parts in
    let body : v ≡ value = sym both.0 in
    (cc, both.1)
front_is code value more (group c r) others e =
    let codes : c ≡ code = cc in
    let parts : value ++ more ≡ spelled_row r ++ others = cc in
    let long : length value ≡ length (spelled_row r) = cc in
    let both = same_parts value (spelled_row r) more others long parts in
    let body : spelled_row r ≡ value = sym both.0 in
    (cc, both.1)

first_spelled : (level : Level) (code : ℕ) (value more : List ℕ) (ts : List Tree) → AllStand level ts → code ∷ length value ∷ value ++ more ≡ spelling ts
    → IsSetting level code value × IsSpelled level more
first_spelled level code value more [] stand e = cc
first_spelled level code value more (t ∷ ts) stand e =
    let both = front_is code value more t (spelling ts) e in
    (record { setting = t; stands = stand.0; spells = both.0 }, record { trees = ts; stand = stand.1; whole = both.1 })

pub one_spelled : (level : Level) (bytes value : List ℕ) (place : ℕ) → IsSpelled level (drop place bytes) → TakesAt bytes place value
    → IsSetting level (get_or bytes place 0) value × IsSpelled level (drop (place + 2 + length value) bytes)
one_spelled level bytes value place s takes =
    first_spelled level (get_or bytes place 0) value (drop (place + 2 + length value) bytes) s.trees s.stand (sym takes.spelled ∙ s.whole)

row_stands : (level : Level) (r : Row) → RowShaped level r → RowFits r → AllStand level (row_items r)
row_stands level no_more s f = tt
row_stands level (followed t r) s f = (record { shaped = s.0; fits = f.0 }, row_stands level r s.1 f.1)

inner : (level : Level) (code : ℕ) (value : List ℕ) (t : Tree) → Stands level t → spelled t ≡ code ∷ length value ∷ value → is_group level code ≡ true → IsSpelled (inside_of level code) value
inner level code value (leaf c v) stands e grouped =
    let codes : c ≡ code = cc in
    true_not_false (sym grouped ∙ ap (is_group level) (sym codes) ∙ stands.shaped.1)
inner level code value (group c r) stands e grouped =
    let codes : c ≡ code = cc in
    let body : spelled_row r ≡ value = cc in
    subst (λ (x : ℕ). IsSpelled (inside_of level x) value) codes
    (record { trees = row_items r; stand = row_stands (inside_of level c) r stands.shaped.2 stands.fits.1; whole = sym body ∙ sym (row_spelled r) })

pub inner_spelled : (level : Level) (code : ℕ) (value : List ℕ) → IsSetting level code value → is_group level code ≡ true → IsSpelled (inside_of level code) value
inner_spelled level code value s grouped = inner level code value s.setting s.stands s.spells grouped

single : (level : Level) (code : ℕ) (value : List ℕ) (t : Tree) → Stands level t → spelled t ≡ code ∷ length value ∷ value → is_group level code ≡ false → SpellsSetting level code value (leaf code value)
single level code value (leaf c v) stands e leafy =
    let codes : c ≡ code = cc in
    let body : v ≡ value = cc in
    let same : leaf c v ≡ leaf code value = cc in
    record { stands = subst (Stands level) same stands; spells = refl }
single level code value (group c r) stands e leafy =
    let codes : c ≡ code = cc in
    true_not_false (sym stands.shaped.1 ∙ ap (is_group level) codes ∙ leafy)

pub leaf_spells : (level : Level) (code : ℕ) (value : List ℕ) → IsSetting level code value → is_group level code ≡ false → SpellsSetting level code value (leaf code value)
leaf_spells level code value s leafy = single level code value s.setting s.stands s.spells leafy

-- a setting's code is one of the level, and its value has at most 255 bytes
coded : (level : Level) (code : ℕ) (value : List ℕ) (t : Tree) → Stands level t → spelled t ≡ code ∷ length value ∷ value → (is_code level code ≡ true) × (length value ≤ 255)
coded level code value (leaf c v) stands e =
    let codes : c ≡ code = cc in
    let body : v ≡ value = cc in
    (subst (λ (x : ℕ). is_code level x ≡ true) codes stands.shaped.0, omega (arith, stands.fits, ap length body))
coded level code value (group c r) stands e =
    let codes : c ≡ code = cc in
    let body : spelled_row r ≡ value = cc in
    (subst (λ (x : ℕ). is_code level x ≡ true) codes stands.shaped.0, omega (arith, stands.fits.0, ap length body))

pub group_spelled : (level : Level) (code : ℕ) (value : List ℕ) (parts : List Tree) → IsSetting level code value → is_group level code ≡ true → AllStand (inside_of level code) parts
    → value ≡ spelling parts → SpellsSetting level code value (group code (row_of parts))
group_spelled level code value parts s grouped stand e =
    let c = coded level code value s.setting s.stands s.spells in
    record { stands = group_stands level code value parts c.0 grouped c.1 stand e; spells = group_spells code value parts e }

-- one setting more is built
pub built_more : (level : Level) (bytes value : List ℕ) (place : ℕ) (settings new : List Tree) (t : Tree) → bytes ≡ spelling settings ++ drop place bytes → AllStand level settings
    → TakesAt bytes place value → SpellsSetting level (get_or bytes place 0) value t → new ≡ settings ++ t ∷ []
    → AllStand level new × (bytes ≡ spelling new ++ drop (place + 2 + length value) bytes)
built_more level bytes value place settings new t whole stand takes s e =
    let one : drop place bytes ≡ spelled t ++ drop (place + 2 + length value) bytes = takes.spelled ∙ ap (λ (x : List ℕ). x ++ drop (place + 2 + length value) bytes) (sym s.spells) in (
      subst (AllStand level) (sym e) (AllStand-push level settings t stand s.stands),
      whole ∙ ap (λ (x : List ℕ). spelling settings ++ x) one ∙ sym (append_assoc (spelling settings) (spelled t) (drop (place + 2 + length value) bytes))
          ∙ ap (λ (x : List ℕ). x ++ drop (place + 2 + length value) bytes) (sym (spelling-push settings t) ∙ ap spelling (sym e)),
    )

-- the bytes in front of the end marker are spelled by the settings
pub front_is_spelling : (file : List ℕ) (end : ℕ) (e : EndsAt file end) → take end file ≡ spelling e.trees
front_is_spelling file end e = ap (take end) e.spells.whole ∙ take_at (spelling e.trees) (end_byte ∷ replicate e.spells.pads pad_byte) end (sym e.here)

pub front_spelled : (file : List ℕ) (end : ℕ) → EndsAt file end → IsSpelled in_file (take end file)
front_spelled file end e = record { trees = e.trees; stand = e.spells.stand; whole = front_is_spelling file end e }

pub end_in_range : (file : List ℕ) (end : ℕ) → EndsAt file end → end ≤ length file
end_in_range file end e = omega (arith, e.here, ap length e.spells.whole, length-append (spelling e.trees) (end_byte ∷ replicate e.spells.pads pad_byte))

pub file_of_front : (file : List ℕ) (end : ℕ) (settings : List Tree) → EndsAt file end → AllStand in_file settings → take end file ≡ spelling settings → FileOf file settings
file_of_front file end settings e stand front =
    let same : spelling e.trees ≡ spelling settings = sym (front_is_spelling file end e) ∙ front in
    record { stand = stand; pads = e.spells.pads; whole = e.spells.whole ∙ ap (λ (x : List ℕ). x ++ end_byte ∷ replicate e.spells.pads pad_byte) same }

pub settings_only : (file : List ℕ) (result : Result (List Tree) FileErr) → MatchResult result (FileOf file) (WhyNotRead file) → (trees : List Tree) → FileOf file trees → Gives trees result
settings_only file (Ok given) found trees spells =
    let same : Ok given ≡ Ok trees = one_reading file (Ok given) (Ok trees) found spells in
    cc
settings_only file (Err (Read fault)) found trees spells =
    let clash : Err fault ≡ Ok trees = one_reading file (Err fault) (Ok trees) found spells in
    cc
settings_only file (Err Memory) found trees spells = refl

pub settings_first : (file : List ℕ) (result : Result (List Tree) FileErr) → MatchResult result (FileOf file) (WhyNotRead file) → (fault : ReadFault) → IsFirstFault file fault
    → result ≡ Err (Read fault)
settings_first file (Ok given) found fault is =
    let clash : Ok given ≡ Err fault = one_reading file (Ok given) (Err fault) found is in
    cc
settings_first file (Err (Read other)) found fault is =
    let same : Err other ≡ Err fault = one_reading file (Err other) (Err fault) found is in
    let faults : other ≡ fault = cc in
    ap (λ (x : ReadFault). Err (Read x)) faults
settings_first file (Err Memory) found fault is =
    let clash : Ok found.0 ≡ Err fault = one_reading file (Ok found.0) (Err fault) found.1 is in
    cc

-- what `extent` answers tells that there is a reading or a first fault
pub has_reading : (file : List ℕ) (found : Result ℕ ReadFault) → MatchResult found (EndsAt file) (IsFirstFault file) → HasReading file
has_reading file (Ok place) e = (Ok e.trees, e.spells)
has_reading file (Err fault) e = (Err fault, e)
