-- Taking in wanted settings one by one.
use Rattle.std.proofs.Common.{◌≡◌, ℕ, ◌+◌, ◌<◌, ◌≤◌, Bool, true, false, cond, List, [], ◌∷◌, ◌++◌, length, get_or, take, refl, sym, ap, subst, ◌∙◌, append-nil, append_assoc, ◌≢◌, ◌==◌, true≢false, slice_index_or, slice_set}
use Rattle.std.specs.List.{filter}
use Rattle.std.proofs.lemmas.List.Elements.{filter-append}
use Rattle.std.proofs.lemmas.List.Concat.{flat_map-append}
use Rattle.md5.specs.Md5.{Holds}
use Rattle.md5.specs.declared.Md5.{Md5}
use Rattle.off_base.specs.Tree.{Tree, leaf, group, code_of, spelled, spelling}
use Rattle.off_tlv.specs.Grammar.{in_file}
use Rattle.off_tlv.specs.Fault.{IsShort}
use Rattle.off_tlv.specs.Walk.{Walk, TakesSetting}
use Rattle.off_tlv.proofs.ReadingLemmas.{front_is, not_short_by}
use Rattle.std.proofs.lemmas.List.{take_more, take_all, length-set, get_or-set_other}
use Rattle.std.proofs.lemmas.Grind.{get_or-set_at}
use Rattle.std.proofs.lemmas.Bool.{eqb-true, eq-eqb}
use Rattle.off_mic.specs.declared.feeding.Wanted.TheVariants.{OfCode, ButMics}
use Rattle.off_mic.specs.Mic.{of_code, text_of_codes}
use Rattle.off_mic.specs.Feed.{MarksCodes, is_fed, wanted_text}
use Rattle.off_mic.proofs.Walked.{Came, Fed, Copied}
use Rattle.off_mic.specs.declared.feeding.Wanted.{Wanted}

pub wanted_text-append : (wanted : Wanted) (ts us : List Tree) → wanted_text wanted (ts ++ us) ≡ wanted_text wanted ts ++ wanted_text wanted us
wanted_text-append wanted ts us =
    let test : Tree → Bool = λ t. is_fed wanted (code_of t) in
    ap spelling (filter-append (λ t. is_fed wanted (code_of t)) ts us)
    ∙ flat_map-append spelled (filter (λ t. is_fed wanted (code_of t)) ts) (filter (λ t. is_fed wanted (code_of t)) us)

code_first : (t : Tree) (code : ℕ) (more : List ℕ) → spelled t ≡ code ∷ more → code_of t ≡ code
code_first (leaf c v) code more e = cc
code_first (group c r) code more e = cc

one_text : (t : Tree) (b : Bool) → spelling (cond b (t ∷ []) []) ≡ cond b (spelled t) []
one_text t true = append-nil (spelled t)
one_text t false = refl

wanted_one : (wanted : Wanted) (t : Tree) (code : ℕ) (text : List ℕ) → code_of t ≡ code → spelled t ≡ text → wanted_text wanted (t ∷ []) ≡ cond (is_fed wanted code) text []
wanted_one wanted t code text codes e =
    one_text t (is_fed wanted (code_of t)) ∙ ap (λ (x : ℕ). cond (is_fed wanted x) (spelled t) []) codes ∙ ap (λ (x : List ℕ). cond (is_fed wanted code) x []) e

nothing_behind : (us : List Tree) → spelling us ≡ [] → us ≡ []
nothing_behind [] e = refl
nothing_behind (leaf c v ∷ us) e = cc
nothing_behind (group c r ∷ us) e = cc

-- at the end of the bytes all are passed
pub came_all : (wanted : Wanted) (trees : List Tree) (rest text : List ℕ) → Came wanted trees rest text → rest ≡ [] → text ≡ wanted_text wanted trees
came_all wanted trees rest text f e =
    let none : f.behind ≡ [] = nothing_behind f.behind (sym f.left ∙ e) in
    let whole : f.before ≡ trees = sym (f.split ∙ ap (λ (x : List Tree). f.before ++ x) none ∙ append-nil f.before) in
    f.passed ∙ ap (wanted_text wanted) whole

-- settings are never short
pub came_short : (wanted : Wanted) (trees : List Tree) (rest text : List ℕ) → Came wanted trees rest text → IsShort rest → ⊥
came_short wanted trees rest text f short = not_short_by in_file rest f.behind f.left short

came_on : (wanted : Wanted) (trees before behind : List Tree) (old new : Walk) (code : ℕ) (value text : List ℕ)
    → trees ≡ before ++ behind → old.rest ≡ spelling behind → text ≡ wanted_text wanted before → TakesSetting old code value new
    → Came wanted trees new.rest (text ++ cond (is_fed wanted code) (code ∷ length value ∷ value) [])
came_on wanted trees before [] old new code value text split left passed takes = let front = takes.spelled in cc
came_on wanted trees before (t ∷ us) old new code value text split left passed takes =
    let both = front_is code value new.rest t (spelling us) (sym takes.spelled ∙ left) in
    let one : wanted_text wanted (t ∷ []) ≡ cond (is_fed wanted code) (code ∷ length value ∷ value) [] =
    wanted_one wanted t code (code ∷ length value ∷ value) (code_first t code (length value ∷ value) both.0) both.0 in
    record {
      before = before ++ t ∷ [];
      behind = us;
      split = split ∙ sym (append_assoc before (t ∷ []) us);
      left = both.1;
      passed = ap (λ (x : List ℕ). x ++ cond (is_fed wanted code) (code ∷ length value ∷ value) []) passed
          ∙ ap (λ (x : List ℕ). wanted_text wanted before ++ x) (sym one) ∙ sym (wanted_text-append wanted before (t ∷ []));
    }

-- one setting on
pub came_more : (wanted : Wanted) (trees : List Tree) (old new : Walk) (code : ℕ) (value text : List ℕ)
    → Came wanted trees old.rest text → TakesSetting old code value new
    → Came wanted trees new.rest (text ++ cond (is_fed wanted code) (code ∷ length value ∷ value) [])
came_more wanted trees old new code value text f takes = came_on wanted trees f.before f.behind old new code value text f.split f.left f.passed takes

pub fed_all : (wanted : Wanted) (message : List ℕ) (trees : List Tree) (rest : List ℕ) (hasher : Md5) → Fed wanted message trees rest hasher → rest ≡ []
    → Holds hasher (message ++ wanted_text wanted trees)
fed_all wanted message trees rest hasher f e = subst (λ (x : List ℕ). Holds hasher (message ++ x)) (came_all wanted trees rest f.text f.came e) f.held

pub fed_more : (wanted : Wanted) (message : List ℕ) (trees : List Tree) (old new : Walk) (code : ℕ) (value : List ℕ) (hasher after : Md5)
    → Fed wanted message trees old.rest hasher → TakesSetting old code value new
    → ((m : List ℕ) → Holds hasher m → Holds after (m ++ cond (is_fed wanted code) (code ∷ length value ∷ value) [])) → Fed wanted message trees new.rest after
fed_more wanted message trees old new code value hasher after f takes step =
    let one : List ℕ = cond (is_fed wanted code) (code ∷ length value ∷ value) [] in
    record {
      text = f.text ++ cond (is_fed wanted code) (code ∷ length value ∷ value) [];
      came = came_more wanted trees old new code value f.text f.came takes;
      held = subst (Holds after) (append_assoc message f.text (cond (is_fed wanted code) (code ∷ length value ∷ value) [])) (step (message ++ f.text) f.held);
    }

pub copied_more : (wanted : Wanted) (trees : List Tree) (old new : Walk) (code : ℕ) (value before out after : List ℕ)
    → Copied wanted trees old.rest before out → TakesSetting old code value new
    → after ≡ out ++ cond (is_fed wanted code) (code ∷ length value ∷ value) [] → Copied wanted trees new.rest before after
copied_more wanted trees old new code value before out after f takes e =
    record {
      text = f.text ++ cond (is_fed wanted code) (code ∷ length value ∷ value) [];
      came = came_more wanted trees old new code value f.text f.came takes;
      appended = e ∙ ap (λ (x : List ℕ). x ++ cond (is_fed wanted code) (code ∷ length value ∷ value) []) f.appended
          ∙ append_assoc before f.text (cond (is_fed wanted code) (code ∷ length value ∷ value) []);
    }

pub copied_all : (wanted : Wanted) (trees : List Tree) (rest before after : List ℕ) → Copied wanted trees rest before after → rest ≡ []
    → after ≡ before ++ wanted_text wanted trees
copied_all wanted trees rest before after f e = f.appended ∙ ap (λ (x : List ℕ). before ++ x) (came_all wanted trees rest f.text f.came e)

-- the settings of one code more
more_codes : (codes : List ℕ) (i : ℕ) (front back : List Tree) → i < length codes
    → text_of_codes (take i codes) (front ++ back) ++ wanted_text (OfCode (get_or codes i 0)) front ++ wanted_text (OfCode (get_or codes i 0)) back
    ≡ text_of_codes (take (i + 1) codes) (front ++ back)
more_codes codes i front back at =
    let text : ℕ → List ℕ = λ code. spelling (of_code code (front ++ back)) in
    let last : text_of_codes (take (i + 1) codes) (front ++ back) ≡ text_of_codes (take i codes) (front ++ back) ++ wanted_text (OfCode (get_or codes i 0)) (front ++ back) =
    ap (λ (x : List ℕ). text_of_codes x (front ++ back)) (take_more codes i 0 at)
    ∙ flat_map-append (λ (code : ℕ). spelling (of_code code (front ++ back))) (take i codes) (get_or codes i 0 ∷ [])
    ∙ ap (λ (x : List ℕ). text_of_codes (take i codes) (front ++ back) ++ x) (append-nil (wanted_text (OfCode (get_or codes i 0)) (front ++ back))) in
    append_assoc (text_of_codes (take i codes) (front ++ back)) (wanted_text (OfCode (get_or codes i 0)) front) (wanted_text (OfCode (get_or codes i 0)) back)
    ∙ ap (λ (x : List ℕ). text_of_codes (take i codes) (front ++ back) ++ x) (sym (wanted_text-append (OfCode (get_or codes i 0)) front back))
    ∙ sym last

-- behind a message that was taken in before
pub more_behind : (message codes : List ℕ) (i : ℕ) (front back : List Tree) → i < length codes
    → message ++ text_of_codes (take i codes) (front ++ back) ++ wanted_text (OfCode (get_or codes i 0)) front ++ wanted_text (OfCode (get_or codes i 0)) back
    ≡ message ++ text_of_codes (take (i + 1) codes) (front ++ back)
more_behind message codes i front back at =
    let had : List ℕ = text_of_codes (take i codes) (front ++ back) in
    let one : List ℕ = wanted_text (OfCode (get_or codes i 0)) front in
    let other : List ℕ = wanted_text (OfCode (get_or codes i 0)) back in
    ap (λ (x : List ℕ). x ++ other) (append_assoc message had one) ∙ append_assoc message (had ++ one) other ∙ ap (λ (x : List ℕ). message ++ x) (more_codes codes i front back at)

pub all_behind : (message codes : List ℕ) (i : ℕ) (trees : List Tree) → length codes ≤ i → message ++ text_of_codes (take i codes) trees ≡ message ++ text_of_codes codes trees
all_behind message codes i trees all = ap (λ (x : List ℕ). message ++ text_of_codes x trees) (take_all i codes all)

-- ---- the codes that settings have

-- a walk over settings has come to the rest of the bytes, and those before it have none of the codes
-- that aren't marked
pub record Marked (trees : List Tree) (rest : List ℕ) (marks : List Bool) : Type 0 where
  pub all : length marks ≡ 256
  pub text : List ℕ
  pub came : Came ButMics trees rest text
  pub none :
      (code : ℕ) → code < 256 → slice_index_or marks code false ≡ false → Came (OfCode code) trees rest []

-- none is passed before the first
pub marked_none : (trees : List Tree) (bytes rest : List ℕ) (marks : List Bool) → bytes ≡ spelling trees → rest ≡ bytes → length marks ≡ 256 → Marked trees rest marks
marked_none trees bytes rest marks e same all = record {
  all = all;
  text = [];
  came = record { before = []; behind = trees; split = refl; left = same ∙ e; passed = refl };
  none = λ code within unset. record { before = []; behind = trees; split = refl; left = same ∙ e; passed = refl };
}

pub marked_all : (trees : List Tree) (rest : List ℕ) (marks : List Bool) → Marked trees rest marks → rest ≡ [] → MarksCodes marks trees
marked_all trees rest marks f e = λ code within unset. sym (came_all (OfCode code) trees rest [] (f.none code within unset) e)

other_code : (trees : List Tree) (old new : Walk) (code wanted : ℕ) (value : List ℕ) (marks : List Bool) (same : Bool) → (code == wanted) ≡ same → code < length marks
    → slice_index_or (slice_set marks code true) wanted false ≡ false → (slice_index_or marks wanted false ≡ false → Came (OfCode wanted) trees old.rest [])
    → TakesSetting old code value new → Came (OfCode wanted) trees new.rest []
other_code trees old new code wanted value marks true same within unset had takes =
    let is : wanted ≡ code = sym (eqb-true code wanted same) in
    absurd (true≢false (sym (get_or-set_at marks code wanted true false is within) ∙ unset))
other_code trees old new code wanted value marks false same within unset had takes =
    let apart : wanted ≢ code = λ e. true≢false (sym (eq-eqb code wanted (sym e)) ∙ same) in
    subst (λ b. Came (OfCode wanted) trees new.rest (cond b (code ∷ length value ∷ value) [])) same
    (came_more (OfCode wanted) trees old new code value [] (had (sym (get_or-set_other marks code wanted true false apart) ∙ unset)) takes)

pub marked_more : (trees : List Tree) (old new : Walk) (code : ℕ) (value : List ℕ) (marks after : List Bool) → Marked trees old.rest marks → TakesSetting old code value new → code < 256
    → after ≡ slice_set marks code true → Marked trees new.rest after
marked_more trees old new code value marks after f takes within made =
    subst (Marked trees new.rest) (sym made) (record {
      all = length-set marks code true ∙ f.all;
      text = f.text ++ cond (is_fed ButMics code) (code ∷ length value ∷ value) [];
      came = came_more ButMics trees old new code value f.text f.came takes;
      none = λ wanted few unset. other_code trees old new code wanted value marks (code == wanted) refl (subst (λ (n : ℕ). code < n) (sym f.all) within) unset (f.none wanted few) takes;
    })

-- a code without settings is as if it had been taken
pub no_more : (message text : List ℕ) → text ≡ [] → message ≡ message ++ text
no_more message text none = sym (append-nil message) ∙ ap (λ (x : List ℕ). message ++ x) (sym none)
