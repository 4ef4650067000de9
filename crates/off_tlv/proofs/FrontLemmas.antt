-- A walk over the settings of a level, one setting on, and where it stops.
use Rattle.std.proofs.Common.{◌≡◌, ℕ, ◌+◌, ◌<◌, ◌≤◌, ◌≢◌, true, false, List, [], ◌∷◌, ◌++◌, length, get_or, drop, replicate, refl, sym, ap, subst, ◌∙◌, arith, append-nil, append_assoc, take-append-drop, length-append, Result, Ok, Err, MatchResult}
use Rattle.std.proofs.lemmas.List.{drop_more, drop_all}
use Rattle.std.proofs.lemmas.List.Concat.{flat_map-append}
use Rattle.off_base.specs.Tree.{Tree, leaf, group, row_of, spelled, spelled_row, spelling, AllFit}
use Rattle.off_base.proofs.TreeLemmas.{spelled_row-row_of, RowFits-row_of}
use Rattle.std.proofs.lemmas.Bool.Decides.{nat_tests}
use Rattle.off_tlv.specs.Grammar.{end_byte, pad_byte, EndsAt, Level, in_file, in_group, in_part, is_group, is_code, inside_of, RowShaped, Stands, AllStand, FileOf}
use Rattle.off_tlv.specs.Fault.{Behind, IsShort, HasCode, CutAt, passes, within, IsFirstFault}
use Rattle.off_tlv.specs.declared.faults.ReadFault.{ReadFault}
use Rattle.off_tlv.proofs.GrammarLemmas.{one_reading}
use Rattle.off_tlv.specs.Front.{Front, IsSetting, CutWithin, IsSpelled, FirstOther}
use Rattle.off_tlv.specs.Walk.{TakesAt}

pub AllStand-push : (level : Level) (ts : List Tree) (t : Tree) → AllStand level ts → Stands level t → AllStand level (ts ++ t ∷ [])
AllStand-push level [] t stand one = (one, tt)
AllStand-push level (u ∷ ts) t stand one = (stand.0, AllStand-push level ts t stand.1 one)

pub spelling-push : (ts : List Tree) (t : Tree) → spelling (ts ++ t ∷ []) ≡ spelling ts ++ spelled t
spelling-push ts t = flat_map-append spelled ts (t ∷ []) ∙ ap (λ (x : List ℕ). spelling ts ++ x) (append-nil (spelled t))

-- one whole setting on
pub behind_more : (level : Level) (bytes value : List ℕ) (place : ℕ) → Behind level bytes place (drop place bytes) → TakesAt bytes place value
    → IsSetting level (get_or bytes place 0) value → Behind level bytes (place + 2 + length value) (drop (place + 2 + length value) bytes)
behind_more level bytes value place b takes is =
    let after : List ℕ = drop (place + 2 + length value) bytes in
    let one : drop place bytes ≡ spelled is.setting ++ drop (place + 2 + length value) bytes = takes.spelled ∙ ap (λ (x : List ℕ). x ++ drop (place + 2 + length value) bytes) (sym is.spells) in
    record {
      before = b.before ++ is.setting ∷ [];
      stand = AllStand-push level b.before is.setting b.stand is.stands;
      whole = b.whole ∙ ap (λ (x : List ℕ). spelling b.before ++ x) one ∙ sym (append_assoc (spelling b.before) (spelled is.setting) (drop (place + 2 + length value) bytes)) ∙ ap (λ (x : List ℕ). x ++ drop (place + 2 + length value) bytes) (sym (spelling-push b.before is.setting));
      here = omega (arith, b.here, ap length (spelling-push b.before is.setting), length-append (spelling b.before) (spelled is.setting), ap length is.spells);
    }

-- a setting that is cut off
pub cut_here : (level : Level) (bytes : List ℕ) (place : ℕ) → Behind level bytes place (drop place bytes) → place < length bytes → is_code level (get_or bytes place 0) ≡ true
    → IsShort (drop place bytes) → CutAt level bytes place
cut_here level bytes place b here is short =
    passes (drop place bytes) b (subst (HasCode level) (sym (drop_more bytes place 0 here)) is) short

-- a group that is cut within
pub cut_inside : (level : Level) (bytes value : List ℕ) (place deeper : ℕ) → Behind level bytes place (drop place bytes) → TakesAt bytes place value
    → is_code level (get_or bytes place 0) ≡ true → CutWithin level (get_or bytes place 0) value deeper → CutAt level bytes (place + 2 + deeper)
cut_inside level bytes value place deeper b takes is cut =
    within (get_or bytes place 0) place deeper value (drop (place + 2 + length value) bytes) (subst (Behind level bytes place) takes.spelled b) is cut.grouped cut.cut refl

RowShaped-row_of : (level : Level) (ts : List Tree) → AllStand level ts → RowShaped level (row_of ts)
RowShaped-row_of level [] stand = tt
RowShaped-row_of level (t ∷ ts) stand = (stand.0.shaped, RowShaped-row_of level ts stand.1)

fit_of : (level : Level) (ts : List Tree) → AllStand level ts → AllFit ts
fit_of level [] stand = tt
fit_of level (t ∷ ts) stand = (stand.0.fits, fit_of level ts stand.1)

pub leaf_stands : (level : Level) (code : ℕ) (value : List ℕ) → is_code level code ≡ true → is_group level code ≡ false → length value ≤ 255 → IsSetting level code value
leaf_stands level code value is single small = record { setting = leaf code value; stands = record { shaped = (is, single); fits = small }; spells = refl }

pub group_spells : (code : ℕ) (value : List ℕ) (parts : List Tree) → value ≡ spelling parts → spelled (group code (row_of parts)) ≡ code ∷ length value ∷ value
group_spells code value parts e =
    let row : spelled_row (row_of parts) ≡ value = spelled_row-row_of parts ∙ sym e in
    ap (λ (x : List ℕ). code ∷ length x ∷ x) row

pub group_stands : (level : Level) (code : ℕ) (value : List ℕ) (parts : List Tree) → is_code level code ≡ true → is_group level code ≡ true → length value ≤ 255
    → AllStand (inside_of level code) parts → value ≡ spelling parts → Stands level (group code (row_of parts))
group_stands level code value parts is grouped small stand e =
    let row : spelled_row (row_of parts) ≡ value = spelled_row-row_of parts ∙ sym e in
    record {
      shaped = (is, grouped, RowShaped-row_of (inside_of level code) parts stand);
      fits = (omega (arith, ap length row), RowFits-row_of parts (fit_of (inside_of level code) parts stand));
    }

all_codes : (level : Level) (code other : ℕ) → is_code (inside_of level code) other ≡ true
all_codes in_file code other = refl
all_codes (in_group outer) code other = refl
all_codes in_part code other = refl

-- within a group the settings reach to the end
pub front_whole : (level : Level) (code : ℕ) (value : List ℕ) (end : ℕ) → Front (inside_of level code) value end → IsSpelled (inside_of level code) value
front_whole level code value end f =
    let never : end < length value → ⊥ = λ short. let bad : true ≡ false = sym (all_codes level code (get_or value end 0)) ∙ f.stops short in cc in
    let all : length value ≤ end = omega (arith, never) in
    record {
      trees = f.behind.before;
      stand = f.behind.stand;
      whole = f.behind.whole ∙ ap (λ (x : List ℕ). spelling f.behind.before ++ x) (drop_all end value all) ∙ append-nil (spelling f.behind.before);
    }

-- what stands behind the settings of a file
pub no_end : (file : List ℕ) (end : ℕ) → Front in_file file end → length file ≤ end → (place : ℕ) × Behind in_file file place []
no_end file end f all = (end, subst (Behind in_file file end) (drop_all end file all) f.behind)

pub early_pad : (file : List ℕ) (end : ℕ) → Front in_file file end → end < length file → get_or file end 0 ≡ pad_byte → (more : List ℕ) × Behind in_file file end (pad_byte ∷ more)
early_pad file end f here is =
    (drop (end + 1) file, subst (Behind in_file file end) (drop_more file end 0 here ∙ ap (λ (x : ℕ). x ∷ drop (end + 1) file) is) f.behind)

marker : (code : ℕ) → is_code in_file code ≡ false → code ≢ pad_byte → code ≡ end_byte
marker code is other = grind (arith, nat_tests)

marked : (file : List ℕ) (end : ℕ) → Front in_file file end → end < length file → get_or file end 0 ≢ pad_byte → Behind in_file file end (end_byte ∷ drop (end + 1) file)
marked file end f here other =
    subst (Behind in_file file end) (drop_more file end 0 here ∙ ap (λ (x : ℕ). x ∷ drop (end + 1) file) (marker (get_or file end 0) (f.stops here) other)) f.behind

pub ends_at : (file : List ℕ) (end : ℕ) → Front in_file file end → end < length file → get_or file end 0 ≢ pad_byte → drop (end + 1) file ≡ replicate (length (drop (end + 1) file)) pad_byte
    → EndsAt file end
ends_at file end f here other zeros =
    let b = marked file end f here other in
    record {
      trees = b.before;
      spells = record { stand = b.stand; pads = length (drop (end + 1) file); whole = b.whole ∙ ap (λ (x : List ℕ). spelling b.before ++ end_byte ∷ x) zeros };
      here = b.here;
    }

pub after_end : (file : List ℕ) (end pads : ℕ) → Front in_file file end → end < length file → get_or file end 0 ≢ pad_byte → FirstOther (drop (end + 1) file) pads
    → (at n byte : ℕ) × (more : List ℕ) × Behind in_file file at (end_byte ∷ replicate n pad_byte ++ byte ∷ more) × (byte ≢ pad_byte) × (end + 1 + pads ≡ at + 1 + n)
after_end file end pads f here other first =
    let rest : List ℕ = drop (end + 1) file in
    let split : drop (end + 1) file ≡ replicate pads pad_byte ++ get_or (drop (end + 1) file) pads 0 ∷ drop (pads + 1) (drop (end + 1) file) =
    sym (take-append-drop pads (drop (end + 1) file)) ∙ ap (λ (x : List ℕ). x ++ drop pads (drop (end + 1) file)) first.zeros
    ∙ ap (λ (x : List ℕ). replicate pads pad_byte ++ x) (drop_more (drop (end + 1) file) pads 0 first.in_range) in (
      end,
      pads,
      get_or (drop (end + 1) file) pads 0,
      drop (pads + 1) (drop (end + 1) file),
      subst (λ (x : List ℕ). Behind in_file file end (end_byte ∷ x)) split (marked file end f here other),
      first.other,
      refl,
    )

-- a cut stands within the bytes
pub cut_in_range : {level : Level} {bytes : List ℕ} {place : ℕ} → CutAt level bytes place → place ≤ length bytes
cut_in_range (passes rest b has short) = omega (arith, b.here, ap length b.whole, length-append (spelling b.before) rest)
cut_in_range (within code at deeper body more b is grouped cut e) =
    omega (arith, b.here, ap length b.whole, length-append (spelling b.before) (code ∷ length body ∷ body ++ more), length-append body more, cut_in_range cut)

pub cut_sum_fits : (level : Level) (bytes value : List ℕ) (code place cut : ℕ) → TakesAt bytes place value → CutWithin level code value cut → place + 2 + cut ≤ length bytes
cut_sum_fits level bytes value code place cut takes c = omega (arith, takes.fits, cut_in_range c.cut)

-- where there is a reading, or a first fault, `extent` gives it
pub extent_only : (file : List ℕ) (result : Result ℕ ReadFault) → MatchResult result (EndsAt file) (IsFirstFault file) → (trees : List Tree) → FileOf file trees → result ≡ Ok (length (spelling trees))
extent_only file (Ok end) found trees spells =
    let same : Ok found.trees ≡ Ok trees = one_reading file (Ok found.trees) (Ok trees) found.spells spells in
    let trees_same : found.trees ≡ trees = cc in
    ap Ok (found.here ∙ ap (λ (x : List Tree). length (spelling x)) trees_same)
extent_only file (Err fault) found trees spells =
    let clash : Err fault ≡ Ok trees = one_reading file (Err fault) (Ok trees) found spells in
    cc

pub extent_first : (file : List ℕ) (result : Result ℕ ReadFault) → MatchResult result (EndsAt file) (IsFirstFault file) → (fault : ReadFault) → IsFirstFault file fault → result ≡ Err fault
extent_first file (Ok end) found fault is =
    let clash : Ok found.trees ≡ Err fault = one_reading file (Ok found.trees) (Err fault) found.spells is in
    cc
extent_first file (Err other) found fault is =
    let same : Err other ≡ Err fault = one_reading file (Err other) (Err fault) found is in
    let faults : other ≡ fault = cc in
    ap Err faults

pub group_setting : (level : Level) (code end : ℕ) (value : List ℕ) → is_code level code ≡ true → is_group level code ≡ true → length value ≤ 255
    → Front (inside_of level code) value end → IsSetting level code value
group_setting level code end value is grouped small f =
    let s = front_whole level code value end f in
    record {
      setting = group code (row_of s.trees);
      stands = group_stands level code value s.trees is grouped small s.stand s.whole;
      spells = group_spells code value s.trees s.whole;
    }
