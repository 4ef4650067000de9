-- A list of bytes begins with at most one list of settings that nothing can follow, so a file has one reading or one first fault.
use Rattle.std.proofs.Common.{◌≡◌, ℕ, zero, suc, ◌+◌, ◌≢◌, true, false, List, [], ◌∷◌, ◌++◌, length, replicate, refl, sym, ap, subst, ◌∙◌, arith, append-nil, append_assoc, length-append, Result, Ok, Err}
use Rattle.std.specs.List.{AllByRecursion}
use Rattle.off_base.specs.Tree.{Tree, Row, leaf, group, no_more, followed, row_items, spelled, spelled_row, spelling}
use Rattle.off_base.proofs.ByteLemmas.{same_parts}
use Rattle.off_tlv.specs.Grammar.{end_byte, pad_byte, Level, in_file, is_group, is_code, inside_of, Shaped, RowShaped, AllStand}
use Rattle.off_tlv.specs.Fault.{Behind, IsShort, HasCode, CutAt, passes, within, Reads, HasOneReading}
use Rattle.off_tlv.specs.declared.faults.ReadFault.{ReadFault}
use Rattle.off_tlv.specs.declared.faults.ReadFault.TheVariants.{Cut, NoEnd, AfterEnd, EarlyPad}

pub true_not_false : {X : Type 0} → true ≡ false → X
true_not_false e = cc

-- no setting of the level begins here
abbrev pub Stops : Level → List ℕ → Type 0
Stops level bytes = (t : Tree) (more : List ℕ) → Shaped level t → bytes ≡ spelled t ++ more → ⊥

pub stops_nil : (level : Level) → Stops level []
stops_nil level (leaf c v) more shaped e = cc
stops_nil level (group c r) more shaped e = cc

mutual
  same_tree : (t u : Tree) (level : Level) (r s : List ℕ) → Shaped level t → Shaped level u → spelled t ++ r ≡ spelled u ++ s → (t ≡ u) × (r ≡ s)
  same_tree (leaf c v) (leaf d w) level r s t u e =
      let code : c ≡ d = cc in
      let parts : v ++ r ≡ w ++ s = cc in
      let long : length v ≡ length w = cc in
      let both = same_parts v w r s long parts in
      let value : v ≡ w = both.0 in
      (cc, both.1)
  same_tree (leaf c v) (group d q) level r s t u e =
      let code : c ≡ d = cc in
      let never : is_group level c ≡ false = t.1 in
      let holds : is_group level d ≡ true = u.1 in
      true_not_false (sym holds ∙ ap (is_group level) (sym code) ∙ never)
  same_tree (group c p) (leaf d w) level r s t u e =
      let code : c ≡ d = cc in
      let holds : is_group level c ≡ true = t.1 in
      let never : is_group level d ≡ false = u.1 in
      true_not_false (sym holds ∙ ap (is_group level) code ∙ never)
  same_tree (group c p) (group d q) level r s t u e =
      let code : c ≡ d = cc in
      let parts : spelled_row p ++ r ≡ spelled_row q ++ s = cc in
      let long : length (spelled_row p) ≡ length (spelled_row q) = cc in
      let both = same_parts (spelled_row p) (spelled_row q) r s long parts in
      let there : RowShaped (inside_of level c) q = subst (λ (x : ℕ). RowShaped (inside_of level x) q) (sym code) u.2 in
      let inner : spelled_row p ++ [] ≡ spelled_row q ++ [] = ap (λ (x : List ℕ). x ++ []) both.0 in
      let rows = same_row p q (inside_of level c) [] [] t.2 there inner (stops_nil (inside_of level c)) (stops_nil (inside_of level c)) in
      let row : p ≡ q = rows.0 in
      (cc, both.1)

  same_row : (p q : Row) (level : Level) (x y : List ℕ) → RowShaped level p → RowShaped level q → spelled_row p ++ x ≡ spelled_row q ++ y → Stops level x → Stops level y → (p ≡ q) × (x ≡ y)
  same_row no_more no_more level x y p q e sx sy = (refl, e)
  same_row no_more (followed u q) level x y p q' e sx sy = absurd (sx u (spelled_row q ++ y) q'.0 (e ∙ append_assoc (spelled u) (spelled_row q) y))
  same_row (followed t p) no_more level x y p' q e sx sy = absurd (sy t (spelled_row p ++ x) p'.0 (sym e ∙ append_assoc (spelled t) (spelled_row p) x))
  same_row (followed t p) (followed u q) level x y p' q' e sx sy =
      let first = same_tree t u level (spelled_row p ++ x) (spelled_row q ++ y) p'.0 q'.0 (sym (append_assoc (spelled t) (spelled_row p) x) ∙ e ∙ append_assoc (spelled u) (spelled_row q) y) in
      let rest = same_row p q level x y p'.1 q'.1 first.1 sx sy in
      let one : t ≡ u = first.0 in
      let more : p ≡ q = rest.0 in
      (cc, rest.1)

-- the same of lists
abbrev pub AllShaped : Level → List Tree → Type 0
AllShaped level trees = AllByRecursion (Shaped level) trees

pub shaped_of : (level : Level) (ts : List Tree) → AllStand level ts → AllShaped level ts
shaped_of level [] stand = tt
shaped_of level (t ∷ ts) stand = (stand.0.shaped, shaped_of level ts stand.1)

pub same_front : (level : Level) (ts us : List Tree) (x y : List ℕ) → AllShaped level ts → AllShaped level us → spelling ts ++ x ≡ spelling us ++ y → Stops level x → Stops level y → (ts ≡ us) × (x ≡ y)
same_front level [] [] x y p q e sx sy = (refl, e)
same_front level [] (u ∷ us) x y p q e sx sy = absurd (sx u (spelling us ++ y) q.0 (e ∙ append_assoc (spelled u) (spelling us) y))
same_front level (t ∷ ts) [] x y p q e sx sy = absurd (sy t (spelling ts ++ x) p.0 (sym e ∙ append_assoc (spelled t) (spelling ts) x))
same_front level (t ∷ ts) (u ∷ us) x y p q e sx sy =
    let first = same_tree t u level (spelling ts ++ x) (spelling us ++ y) p.0 q.0 (sym (append_assoc (spelled t) (spelling ts) x) ∙ e ∙ append_assoc (spelled u) (spelling us) y) in
    let rest = same_front level ts us x y p.1 q.1 first.1 sx sy in
    let one : t ≡ u = first.0 in
    let more : ts ≡ us = rest.0 in
    (cc, rest.1)

-- what stands behind the settings, and where, is one
pub one_behind : (level : Level) (bytes : List ℕ) (p q : ℕ) (x y : List ℕ) → Behind level bytes p x → Behind level bytes q y → Stops level x → Stops level y
    → (p ≡ q) × (x ≡ y)
one_behind level bytes p q x y a b sx sy =
    let both = same_front level a.before b.before x y (shaped_of level a.before a.stand) (shaped_of level b.before b.stand) (sym a.whole ∙ b.whole) sx sy in
    (a.here ∙ ap (λ (ts : List Tree). length (spelling ts)) both.0 ∙ sym b.here, both.1)

pub one_list : (level : Level) (bytes : List ℕ) (x y : List ℕ) (p q : ℕ) (a : Behind level bytes p x) (b : Behind level bytes q y) → Stops level x → Stops level y
    → a.before ≡ b.before
one_list level bytes x y p q a b sx sy =
    (same_front level a.before b.before x y (shaped_of level a.before a.stand) (shaped_of level b.before b.stand) (sym a.whole ∙ b.whole) sx sy).0

-- what no setting begins at: a byte that is no code, less than a whole setting, a group with a cut within
pub stops_no_code : (level : Level) (code : ℕ) (bytes : List ℕ) → is_code level code ≡ false → Stops level (code ∷ bytes)
stops_no_code level code bytes never (leaf c v) more shaped e =
    let same : code ≡ c = cc in
    let holds : is_code level c ≡ true = shaped.0 in
    true_not_false (sym holds ∙ ap (is_code level) (sym same) ∙ never)
stops_no_code level code bytes never (group c r) more shaped e =
    let same : code ≡ c = cc in
    let holds : is_code level c ≡ true = shaped.0 in
    true_not_false (sym holds ∙ ap (is_code level) (sym same) ∙ never)

not_short : (code : ℕ) (body more : List ℕ) → IsShort (code ∷ length body ∷ body ++ more) → ⊥
not_short code body more short = omega (arith, length-append body more)

pub whole_not_short : (rest : List ℕ) (code : ℕ) (body more : List ℕ) → rest ≡ code ∷ length body ∷ body ++ more → IsShort rest → ⊥
whole_not_short rest code body more e short = not_short code body more (subst IsShort e short)

pub stops_short : (level : Level) (rest : List ℕ) → IsShort rest → Stops level rest
stops_short level rest short (leaf c v) more shaped e = whole_not_short rest c v more e short
stops_short level rest short (group c r) more shaped e = whole_not_short rest c (spelled_row r) more e short

-- no settings of the level spell the bytes
abbrev pub Unspelled : Level → List ℕ → Type 0
Unspelled level bytes = (r : Row) → RowShaped level r → bytes ≡ spelled_row r → ⊥

pub stops_group : (level : Level) (code : ℕ) (body more : List ℕ) → is_group level code ≡ true → Unspelled (inside_of level code) body
    → Stops level (code ∷ length body ∷ body ++ more)
stops_group level code body more holds un (leaf c v) rest shaped e =
    let same : code ≡ c = cc in
    let never : is_group level c ≡ false = shaped.1 in
    true_not_false (sym holds ∙ ap (is_group level) same ∙ never)
stops_group level code body more holds un (group c r) rest shaped e =
    let same : code ≡ c = cc in
    let parts : body ++ more ≡ spelled_row r ++ rest = cc in
    let long : length body ≡ length (spelled_row r) = cc in
    let both = same_parts body (spelled_row r) more rest long parts in
    un r (subst (λ (x : ℕ). RowShaped (inside_of level x) r) (sym same) shaped.2) both.0

row_shaped : (level : Level) (r : Row) → RowShaped level r → AllShaped level (row_items r)
row_shaped level no_more s = tt
row_shaped level (followed t r) s = (s.0, row_shaped level r s.1)

pub row_spelled : (r : Row) → spelling (row_items r) ≡ spelled_row r
row_spelled no_more = refl
row_spelled (followed t r) = ap (λ (x : List ℕ). spelled t ++ x) (row_spelled r)

-- behind settings of a level stands something that no setting begins at, and not nothing: then no settings spell the bytes
pub unspelled_behind : (level : Level) (bytes : List ℕ) (place : ℕ) (rest : List ℕ) → Behind level bytes place rest → Stops level rest → (rest ≡ [] → ⊥)
    → Unspelled level bytes
unspelled_behind level bytes place rest b stops some r shaped e =
    let whole : spelling b.before ++ rest ≡ spelling (row_items r) ++ [] = sym b.whole ∙ e ∙ sym (row_spelled r) ∙ sym (append-nil (spelling (row_items r))) in
    some (same_front level b.before (row_items r) rest [] (shaped_of level b.before b.stand) (row_shaped level r shaped) whole stops (stops_nil level)).1

short_some : (rest : List ℕ) → IsShort rest → rest ≡ [] → ⊥
short_some [] short e = short
short_some (x ∷ rest) short e = cc

cons_some : (x : ℕ) (xs : List ℕ) → x ∷ xs ≡ [] → ⊥
cons_some x xs e = cc

pub cut_unspelled : {level : Level} {bytes : List ℕ} {place : ℕ} → CutAt level bytes place → Unspelled level bytes
cut_unspelled {level} {bytes} {place} (passes rest b has short) = unspelled_behind level bytes place rest b (stops_short level rest short) (short_some rest short)
cut_unspelled {level} {bytes} {place} (within code at deeper body more b is holds cut e) =
    unspelled_behind level bytes at (code ∷ length body ∷ body ++ more) b (stops_group level code body more holds (cut_unspelled cut)) (cons_some code (length body ∷ body ++ more))

-- a cut stands at one place
pub cut_once : {level : Level} {bytes : List ℕ} {p q : ℕ} → CutAt level bytes p → CutAt level bytes q → p ≡ q
cut_once {level} {bytes} {p} {q} (passes rest b has short) (passes rest' b' has' short') =
    (one_behind level bytes p q rest rest' b b' (stops_short level rest short) (stops_short level rest' short')).0
cut_once {level} {bytes} {p} {q} (passes rest b has short) (within code at deeper body more b' is grouped cut e) =
    absurd (whole_not_short rest code body more
    (one_behind level bytes p at rest (code ∷ length body ∷ body ++ more) b b' (stops_short level rest short) (stops_group level code body more grouped (cut_unspelled cut))).1
    short)
cut_once {level} {bytes} {p} {q} (within code at deeper body more b' is grouped cut e) (passes rest b has short) =
    absurd (whole_not_short rest code body more
    (one_behind level bytes q at rest (code ∷ length body ∷ body ++ more) b b' (stops_short level rest short) (stops_group level code body more grouped (cut_unspelled cut))).1
    short)
cut_once {level} {bytes} {p} {q} (within code at deeper body more b is grouped cut e) (within code' at' deeper' body' more' b' is' grouped' cut' e') =
    let both = one_behind level bytes at at' (code ∷ length body ∷ body ++ more) (code' ∷ length body' ∷ body' ++ more') b b'
    (stops_group level code body more grouped (cut_unspelled cut)) (stops_group level code' body' more' grouped' (cut_unspelled cut')) in
    let whole : code ∷ length body ∷ body ++ more ≡ code' ∷ length body' ∷ body' ++ more' = both.1 in
    let codes : code' ≡ code = cc in
    let parts : body' ++ more' ≡ body ++ more = cc in
    let long : length body' ≡ length body = cc in
    let bodies : body' ≡ body = (same_parts body' body more' more long parts).0 in
    let there : CutAt (inside_of level code) body deeper' = subst (λ (x : List ℕ). CutAt (inside_of level code) x deeper') bodies (subst (λ (x : ℕ). CutAt (inside_of level x) body' deeper') codes cut') in
    let deep : deeper ≡ deeper' = cut_once cut there in
    let place : at ≡ at' = both.0 in
    omega arith

-- What a reading says of the bytes behind the settings. `rest` stands behind the settings `before`.
abbrev Says : List ℕ → List Tree → List ℕ → Result (List Tree) ReadFault → Type 0
Says file before rest (Ok trees) = (trees ≡ before) × (pads : ℕ) × (rest ≡ end_byte ∷ replicate pads pad_byte)
Says file before rest (Err (Cut place)) = HasCode in_file rest × CutAt in_file file place
Says file before rest (Err NoEnd) = rest ≡ []
Says file before rest (Err (AfterEnd place)) =
    (pads byte : ℕ) × (more : List ℕ) × (rest ≡ end_byte ∷ replicate pads pad_byte ++ byte ∷ more) × (byte ≢ pad_byte) × (place ≡ length (spelling before) + 1 + pads)
Says file before rest (Err (EarlyPad place)) = (more : List ℕ) × (rest ≡ pad_byte ∷ more) × (place ≡ length (spelling before))

record Stopped (file : List ℕ) (reading : Result (List Tree) ReadFault) : Type 0 where
  before : List Tree
  rest : List ℕ
  shaped : AllShaped in_file before
  whole : file ≡ spelling before ++ rest
  stops : Stops in_file rest
  says : Says file before rest reading

stopped_cut : (file : List ℕ) (place : ℕ) → CutAt in_file file place → Stopped file (Err (Cut place))
stopped_cut file place (passes rest b has short) = record {
  before = b.before;
  rest = rest;
  shaped = shaped_of in_file b.before b.stand;
  whole = b.whole;
  stops = stops_short in_file rest short;
  says = (has, passes rest b has short);
}
stopped_cut file place (within code at deeper body more b is grouped cut e) = record {
  before = b.before;
  rest = code ∷ length body ∷ body ++ more;
  shaped = shaped_of in_file b.before b.stand;
  whole = b.whole;
  stops = stops_group in_file code body more grouped (cut_unspelled cut);
  says = (is, within code at deeper body more b is grouped cut e);
}

stopped : (file : List ℕ) (reading : Result (List Tree) ReadFault) → Reads file reading → Stopped file reading
stopped file (Ok trees) r = record {
  before = trees;
  rest = end_byte ∷ replicate r.pads pad_byte;
  shaped = shaped_of in_file trees r.stand;
  whole = r.whole;
  stops = stops_no_code in_file end_byte (replicate r.pads pad_byte) refl;
  says = (refl, r.pads, refl);
}
stopped file (Err (Cut place)) r = stopped_cut file place r
stopped file (Err NoEnd) r = let b = r.1 in record {
  before = b.before;
  rest = [];
  shaped = shaped_of in_file b.before b.stand;
  whole = b.whole;
  stops = stops_nil in_file;
  says = refl;
}
stopped file (Err (AfterEnd place)) (end, pads, byte, more, b, other, is) = record {
  before = b.before;
  rest = end_byte ∷ replicate pads pad_byte ++ byte ∷ more;
  shaped = shaped_of in_file b.before b.stand;
  whole = b.whole;
  stops = stops_no_code in_file end_byte (replicate pads pad_byte ++ byte ∷ more) refl;
  says = (pads, byte, more, refl, other, is ∙ ap (λ (n : ℕ). n + 1 + pads) b.here);
}
stopped file (Err (EarlyPad place)) (more, b) = record {
  before = b.before;
  rest = pad_byte ∷ more;
  shaped = shaped_of in_file b.before b.stand;
  whole = b.whole;
  stops = stops_no_code in_file pad_byte more refl;
  says = (more, refl, b.here);
}

-- the zeros up to another byte are so many, and there is another byte
pads_once : (m n : ℕ) (a b : ℕ) (xs ys : List ℕ) → replicate m pad_byte ++ a ∷ xs ≡ replicate n pad_byte ++ b ∷ ys → a ≢ pad_byte → b ≢ pad_byte → m ≡ n
pads_once zero zero a b xs ys e na nb = refl
pads_once zero (suc n) a b xs ys e na nb = let zero_byte : a ≡ pad_byte = cc in absurd (na zero_byte)
pads_once (suc m) zero a b xs ys e na nb = let zero_byte : b ≡ pad_byte = cc in absurd (nb zero_byte)
pads_once (suc m) (suc n) a b xs ys e na nb = let rest : replicate m pad_byte ++ a ∷ xs ≡ replicate n pad_byte ++ b ∷ ys = cc in ap suc (pads_once m n a b xs ys rest na nb)

pads_only : (m n : ℕ) (b : ℕ) (ys : List ℕ) → replicate m pad_byte ≡ replicate n pad_byte ++ b ∷ ys → b ≢ pad_byte → ⊥
pads_only zero zero b ys e nb = cc
pads_only zero (suc n) b ys e nb = cc
pads_only (suc m) zero b ys e nb = let zero_byte : b ≡ pad_byte = cc in nb zero_byte
pads_only (suc m) (suc n) b ys e nb = let rest : replicate m pad_byte ≡ replicate n pad_byte ++ b ∷ ys = cc in pads_only m n b ys rest nb

not_nil : {X : Type 0} (rest : List ℕ) → HasCode in_file rest → rest ≡ [] → X
not_nil rest has e = absurd (subst (HasCode in_file) e has)

not_end : {X : Type 0} (rest more : List ℕ) → HasCode in_file rest → rest ≡ end_byte ∷ more → X
not_end rest more has e = let bad : false ≡ true = subst (HasCode in_file) e has in true_not_false (sym bad)

not_pad : {X : Type 0} (rest more : List ℕ) → HasCode in_file rest → rest ≡ pad_byte ∷ more → X
not_pad rest more has e = let bad : false ≡ true = subst (HasCode in_file) e has in true_not_false (sym bad)

says_one : (file : List ℕ) (before : List Tree) (rest : List ℕ) (a b : Result (List Tree) ReadFault) → Says file before rest a → Says file before rest b → a ≡ b
says_one file before rest (Ok s) (Ok t) a b = let x : s ≡ before = a.0 in let y : t ≡ before = b.0 in cc
says_one file before rest (Ok s) (Err (Cut q)) a b = not_end rest _ b.0 a.2
says_one file before rest (Ok s) (Err NoEnd) a b = let x = a.2 in cc
says_one file before rest (Ok s) (Err (AfterEnd q)) (is, m, x) (n, byte, more, y, other, at) = let e : replicate m pad_byte ≡ replicate n pad_byte ++ byte ∷ more = cc in absurd (pads_only m n byte more e other)
says_one file before rest (Ok s) (Err (EarlyPad q)) a b = let x = a.2 in let y = b.1 in cc
says_one file before rest (Err (Cut p)) (Ok t) a b = not_end rest _ a.0 b.2
says_one file before rest (Err (Cut p)) (Err (Cut q)) a b = ap (λ (n : ℕ). Err (Cut n)) (cut_once a.1 b.1)
says_one file before rest (Err (Cut p)) (Err NoEnd) a b = not_nil rest a.0 b
says_one file before rest (Err (Cut p)) (Err (AfterEnd q)) a (n, byte, more, y, other, at) = not_end rest _ a.0 y
says_one file before rest (Err (Cut p)) (Err (EarlyPad q)) a b = not_pad rest _ a.0 b.1
says_one file before rest (Err NoEnd) (Ok t) a b = let y = b.2 in cc
says_one file before rest (Err NoEnd) (Err (Cut q)) a b = not_nil rest b.0 a
says_one file before rest (Err NoEnd) (Err NoEnd) a b = refl
says_one file before rest (Err NoEnd) (Err (AfterEnd q)) a (n, byte, more, y, other, at) = cc
says_one file before rest (Err NoEnd) (Err (EarlyPad q)) a b = let y = b.1 in cc
says_one file before rest (Err (AfterEnd p)) (Ok t) (n, byte, more, y, other, at) (is, m, x) = let e : replicate m pad_byte ≡ replicate n pad_byte ++ byte ∷ more = cc in absurd (pads_only m n byte more e other)
says_one file before rest (Err (AfterEnd p)) (Err (Cut q)) (n, byte, more, y, other, at) b = not_end rest _ b.0 y
says_one file before rest (Err (AfterEnd p)) (Err NoEnd) (n, byte, more, y, other, at) b = cc
says_one file before rest (Err (AfterEnd p)) (Err (AfterEnd q)) (n, byte, more, y, other, at) (n', byte', more', y', other', at') =
    let e : replicate n pad_byte ++ byte ∷ more ≡ replicate n' pad_byte ++ byte' ∷ more' = cc in
    let same : n ≡ n' = pads_once n n' byte byte' more more' e other other' in
    let place : p ≡ q = omega arith in
    cc
says_one file before rest (Err (AfterEnd p)) (Err (EarlyPad q)) (n, byte, more, y, other, at) b = let z = b.1 in cc
says_one file before rest (Err (EarlyPad p)) (Ok t) a b = let x = b.2 in let y = a.1 in cc
says_one file before rest (Err (EarlyPad p)) (Err (Cut q)) a b = not_pad rest _ b.0 a.1
says_one file before rest (Err (EarlyPad p)) (Err NoEnd) a b = let y = a.1 in cc
says_one file before rest (Err (EarlyPad p)) (Err (AfterEnd q)) a (n, byte, more, y, other, at) = let z = a.1 in cc
says_one file before rest (Err (EarlyPad p)) (Err (EarlyPad q)) a b = let place : p ≡ q = a.2 ∙ sym b.2 in cc

pub one_reading : HasOneReading
one_reading file one other r s =
    let a = stopped file one r in
    let b = stopped file other s in
    let both = same_front in_file a.before b.before a.rest b.rest a.shaped b.shaped (sym a.whole ∙ b.whole) a.stops b.stops in
    says_one file b.before b.rest one other
    (subst (λ (x : List ℕ). Says file b.before x one) both.1 (subst (λ (x : List Tree). Says file x a.rest one) both.0 a.says))
    b.says
