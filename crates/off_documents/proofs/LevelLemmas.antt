-- Whether a text has a value, by a walk over its tokens that counts what is open.
use Rattle.std.proofs.Common.{◌≡◌, ℕ, suc, ◌+◌, ◌-◌, ◌≤◌, ◌<◌, max, Bool, true, false, cond, ◌&&◌, nat_lt, nat_le, List, [], ◌∷◌, ◌++◌, Option, Some, None, option_map, option_and_then, is_some, IsSome, IsTrue, true≢false, refl, sym, ap, ◌∙◌, arith, append_assoc, le-leb}
use Rattle.std.proofs.lemmas.Bool.Decides.{nat_tests}
use Rattle.std.proofs.lemmas.Bool.{and_parts}
use Rattle.json.specs.Token.{Token}
use Rattle.json.specs.Lex.{tokens}
use Rattle.json.specs.Json as json
use Rattle.json.specs.Find.{BeginsWith}
use Rattle.json.specs.Tree as tree
use Rattle.json.proofs.Found.{Some_inj, one_reading}
use Rattle.json.proofs.Nesting.{value-depth}
use Rattle.json.proofs.Printed.Trees.{value-json_tokens}
use Rattle.json.proofs.Unique.Spelling.{value-json_tokens_back}
use Rattle.serde_json.specs.Data.{Num, Data, number, array, object, item, Members, no_members, put}
use Rattle.serde_json.specs.Read.{number_of, of_json, of_items, of_members, max_depth, read}
use Rattle.off_documents.specs.Documents.{value_at, data_of, level_behind}
use Rattle.off_documents.proofs.DocumentLemmas.{is_there, data_of-begins}

-- ---- tests of two parts and of their sum

deepest : (l a b n : ℕ) → nat_le (l + max a b) n ≡ nat_le (l + a) n && nat_le (l + b) n
deepest l a b n = grind (arith, nat_tests)

is_some-map : {A B : Type 0} (f : A → B) (o : Option A) → is_some (option_map f o) ≡ is_some o
is_some-map f None = refl
is_some-map f (Some a) = refl

twice : (a b c : Bool) (x : Option ℕ) → cond (a && true) (cond (b && c) x None) None ≡ cond ((a && b) && c) x None
twice true b c x = refl
twice false b c x = refl

never : (a b : Bool) (x y : Option ℕ) → cond (a && false) y None ≡ cond ((a && b) && false) x None
never true true x y = refl
never true false x y = refl
never false b x y = refl

-- a value, and what follows it
both : {B : Type 0} (o : Option Data) (f : Data → Option B) (a b : Bool) (x y : Option ℕ) → ((d : Data) → y ≡ cond (b && is_some (f d)) x None)
    → cond (a && is_some o) y None ≡ cond ((a && b) && is_some (option_and_then f o)) x None
both None f a b x y h = never a b x y
both (Some d) f a b x y h = ap (λ (z : Option ℕ). cond (a && true) z None) (h d) ∙ twice a b (is_some (f d)) x

shallow : (l : ℕ) (b : Bool) (x : Option ℕ) → l ≤ max_depth → cond (nat_le (l + 0) max_depth && b) x None ≡ cond b x None
shallow l b x h = ap (λ (t : Bool). cond (t && b) x None) (le-leb (l + 0) max_depth (omega arith))

a_number : (l : ℕ) (x : Option ℕ) (o : Option Num) (f : ℕ → Option ℕ) → f l ≡ x → option_and_then f (cond (is_some o) (Some l) None) ≡ cond (is_some (option_map number o)) x None
a_number l x None f e = refl
a_number l x (Some n) f e = e

-- one level more
inside : (l n : ℕ) (t c : Bool) (f : ℕ → Option ℕ) (x : Option ℕ) → nat_lt l max_depth ≡ t → (l < max_depth → f (l + 1) ≡ cond (nat_le (l + 1 + n) max_depth && c) x None)
    → option_and_then f (cond t (Some (l + 1)) None) ≡ cond (nat_le (l + suc n) max_depth && c) x None
inside l n true c f x e h =
    let less : l < max_depth = grind (arith, nat_tests) in
    let same : l + 1 + n ≡ l + suc n = omega arith in
    h less ∙ ap (λ (k : ℕ). cond (nat_le k max_depth && c) x None) same
inside l n false c f x e h =
    let more : max_depth ≤ l = grind (arith, nat_tests) in
    let deep : nat_le (l + suc n) max_depth ≡ false = grind (arith, nat_tests) in
    ap (λ (t : Bool). cond (t && c) x None) (sym deep)

outside : (l : ℕ) → l + 1 - 1 ≡ l
outside l = omega arith

mutual
  value_level : (j : json.Json) (l : ℕ) (rest : List Token) → l ≤ max_depth
      → level_behind l (tree.json_tokens j ++ rest) ≡ cond (nat_le (l + tree.depth j) max_depth && is_some (of_json j)) (level_behind l rest) None
  value_level json.null l rest h = sym (shallow l true (level_behind l rest) h)
  value_level (json.boolean b) l rest h = sym (shallow l true (level_behind l rest) h)
  value_level (json.number s) l rest h =
      a_number l (level_behind l rest) (number_of s) (λ after. level_behind after rest) refl ∙ sym (shallow l (is_some (of_json (json.number s))) (level_behind l rest) h)
  value_level (json.string s) l rest h = sym (shallow l true (level_behind l rest) h)
  value_level (json.array js) l rest h =
      inside l (tree.items_depth js) (nat_lt l max_depth) (is_some (of_items js)) (λ after. level_behind after (tree.items_tokens js ++ rest)) (level_behind l rest) refl
      (λ less. items_level js (l + 1) rest (omega arith) ∙ ap (λ (k : ℕ). cond (nat_le (l + 1 + tree.items_depth js) max_depth && is_some (of_items js)) (level_behind k rest) None) (outside l))
      ∙ ap (λ (c : Bool). cond (nat_le (l + suc (tree.items_depth js)) max_depth && c) (level_behind l rest) None) (sym (is_some-map array (of_items js)))
  value_level (json.object ms) l rest h =
      inside l (tree.members_depth ms) (nat_lt l max_depth) (is_some (of_members ms no_members)) (λ after. level_behind after (tree.members_tokens ms ++ rest)) (level_behind l rest) refl
      (λ less. members_level ms no_members (l + 1) rest (omega arith)
      ∙ ap (λ (k : ℕ). cond (nat_le (l + 1 + tree.members_depth ms) max_depth && is_some (of_members ms no_members)) (level_behind k rest) None) (outside l))
      ∙ ap (λ (c : Bool). cond (nat_le (l + suc (tree.members_depth ms)) max_depth && c) (level_behind l rest) None) (sym (is_some-map object (of_members ms no_members)))

  items_level : (js : json.Items) (l : ℕ) (rest : List Token) → l ≤ max_depth
      → level_behind l (tree.items_tokens js ++ rest) ≡ cond (nat_le (l + tree.items_depth js) max_depth && is_some (of_items js)) (level_behind (l - 1) rest) None
  items_level json.no_items l rest h = sym (shallow l true (level_behind (l - 1) rest) h)
  items_level (json.item j js) l rest h =
      let follow = tree.items_tokens js ++ rest in
      ap (level_behind l) (append_assoc (tree.json_tokens j) (tree.items_tokens js) rest) ∙ value_level j l follow h
      ∙ both (of_json j) (λ d. option_map (item d) (of_items js)) (nat_le (l + tree.depth j) max_depth) (nat_le (l + tree.items_depth js) max_depth) (level_behind (l - 1) rest) (level_behind l follow)
      (λ d. items_level js l rest h ∙ ap (λ (c : Bool). cond (nat_le (l + tree.items_depth js) max_depth && c) (level_behind (l - 1) rest) None) (sym (is_some-map (item d) (of_items js))))
      ∙ ap (λ (t : Bool). cond (t && is_some (of_items (json.item j js))) (level_behind (l - 1) rest) None) (sym (deepest l (tree.depth j) (tree.items_depth js) max_depth))

  members_level : (ms : json.Members) (before : Members) (l : ℕ) (rest : List Token) → l ≤ max_depth
      → level_behind l (tree.members_tokens ms ++ rest) ≡ cond (nat_le (l + tree.members_depth ms) max_depth && is_some (of_members ms before)) (level_behind (l - 1) rest) None
  members_level json.no_members before l rest h = sym (shallow l true (level_behind (l - 1) rest) h)
  members_level (json.member k j ms) before l rest h =
      let follow = tree.members_tokens ms ++ rest in
      ap (level_behind l) (append_assoc (tree.json_tokens j) (tree.members_tokens ms) rest) ∙ value_level j l follow h
      ∙ both (of_json j) (λ d. of_members ms (put k d before)) (nat_le (l + tree.depth j) max_depth) (nat_le (l + tree.members_depth ms) max_depth) (level_behind (l - 1) rest) (level_behind l follow)
      (λ d. members_level ms (put k d before) l rest h)
      ∙ ap (λ (t : Bool). cond (t && is_some (of_members (json.member k j ms) before)) (level_behind (l - 1) rest) None) (sym (deepest l (tree.depth j) (tree.members_depth ms) max_depth))

-- ---- a text

abbrev grammar_depth : ℕ
grammar_depth = json.max_depth

abbrev whole : Option (json.Json × List Token) → Option json.Json
whole o = option_and_then (λ p. json.if_last p.0 p.1) o

last_value : (o : Option (json.Json × List Token)) (j : json.Json) → whole o ≡ Some j → o ≡ Some (j, [])
last_value None j e = absurd (cc)
last_value (Some (i, [])) j e = ap (λ (k : json.Json). Some (k, [])) (Some_inj i j e)
last_value (Some (i, t ∷ ts)) j e = absurd (cc)

read_whole : (text : List ℕ) (j : json.Json) → json.document text ≡ Some j → json.value grammar_depth (tokens text) ≡ Some (j, [])
read_whole text j e = last_value (json.value grammar_depth (tokens text)) j e

spelled : (text : List ℕ) (j : json.Json) → json.document text ≡ Some j → tokens text ≡ tree.json_tokens j ++ []
spelled text j e = value-json_tokens_back grammar_depth (tokens text) [] j (read_whole text j e)

is_some-cond : (b : Bool) → is_some {T = ℕ} (cond b (Some 0) None) ≡ b
is_some-cond true = refl
is_some-cond false = refl

tested : (text : List ℕ) (j : json.Json) → json.document text ≡ Some j → is_some (level_behind 0 (tokens text)) ≡ nat_le (0 + tree.depth j) max_depth && is_some (of_json j)
tested text j e =
    ap (λ (ts : List Token). is_some (level_behind 0 ts)) (spelled text j e) ∙ ap is_some (value_level j 0 [] (omega arith))
    ∙ is_some-cond (nat_le (0 + tree.depth j) max_depth && is_some (of_json j))

shallow_read : (text : List ℕ) (j : json.Json) → json.document text ≡ Some j → tree.depth j ≤ max_depth → read text ≡ of_json j
shallow_read text j e h =
    ap (λ (o : Option (json.Json × List Token)). option_and_then of_json (whole o)) (ap (json.value max_depth) (spelled text j e) ∙ value-json_tokens j max_depth [] h)

too_deep : (ts : List Token) (j : json.Json) (o : Option (json.Json × List Token)) → json.value max_depth ts ≡ o → json.value grammar_depth ts ≡ Some (j, []) → max_depth < tree.depth j
    → option_and_then of_json (whole o) ≡ None
too_deep ts j None e f h = refl
too_deep ts j (Some (k, r)) e f h =
    let same : k ≡ j = ap (λ (x : json.Json × List Token). x.0) (Some_inj (k, r) (j, []) (one_reading max_depth grammar_depth ts (k, r) (j, []) e f)) in
    let less = value-depth max_depth ts r k e in
    absurd (omega (arith, less, ap tree.depth same, h))

no_whole : (ts : List Token) (o : Option (json.Json × List Token)) → json.value max_depth ts ≡ o → whole (json.value grammar_depth ts) ≡ None → option_and_then of_json (whole o) ≡ None
no_whole ts None e f = refl
no_whole ts (Some (k, [])) e f =
    let deeper : json.value grammar_depth ts ≡ Some (k, []) =
    ap (json.value grammar_depth) (value-json_tokens_back max_depth ts [] k e) ∙ value-json_tokens k grammar_depth [] (omega (arith, value-depth max_depth ts [] k e)) in
    let some = ap whole deeper in
    absurd (cc)
no_whole ts (Some (k, t ∷ r)) e f = refl

pub no_document : (text : List ℕ) → json.document text ≡ None → read text ≡ None
no_document text e = no_whole (tokens text) (json.value max_depth (tokens text)) refl e

some_of : {A : Type 0} (o : Option A) → IsSome o → (a : A) × (o ≡ Some a)
some_of None h = absurd (true≢false (sym h))
some_of (Some a) h = (a, refl)

some_true : {A : Type 0} (o : Option A) → is_some o ≡ true → (a : A) × (o ≡ Some a)
some_true None e = absurd (cc)
some_true (Some a) e = (a, refl)

pub convertible : (text : List ℕ) → IsSome (json.document text) → is_some (level_behind 0 (tokens text)) ≡ true
    → IsTrue (is_some (value_at (tokens text))) × (read text ≡ Some (data_of (tokens text)))
convertible text given e =
    let f = some_of (json.document text) given in
    let parts = and_parts (nat_le (0 + tree.depth f.0) max_depth) (is_some (of_json f.0)) (sym (tested text f.0 f.1) ∙ e) in
    let flat : tree.depth f.0 ≤ max_depth = grind (arith, nat_tests, parts.0) in
    let d = some_true (of_json f.0) parts.1 in
    let begins : BeginsWith (tokens text) f.0 = (grammar_depth, [], read_whole text f.0 f.1) in
    (is_there (tokens text) f.0 d.0 begins d.1, shallow_read text f.0 f.1 flat ∙ d.1 ∙ ap Some (sym (data_of-begins (tokens text) f.0 d.0 begins d.1)))

refused : (text : List ℕ) (j : json.Json) → json.document text ≡ Some j → (b : Bool) (o : Option Data) → nat_le (0 + tree.depth j) max_depth ≡ b → of_json j ≡ o → (b && is_some o) ≡ false → read text ≡ None
refused text j e true None b is h = let flat : tree.depth j ≤ max_depth = grind (arith, nat_tests, b) in shallow_read text j e flat ∙ is
refused text j e true (Some d) b is h = absurd (cc)
refused text j e false o b is h =
    let deep : max_depth < tree.depth j = grind (arith, nat_tests, b) in
    too_deep (tokens text) j (json.value max_depth (tokens text)) refl (read_whole text j e) deep

pub unconvertible : (text : List ℕ) → IsSome (json.document text) → is_some (level_behind 0 (tokens text)) ≡ false → read text ≡ None
unconvertible text given e =
    let f = some_of (json.document text) given in
    refused text f.0 f.1 (nat_le (0 + tree.depth f.0) max_depth) (of_json f.0) refl refl (sym (tested text f.0 f.1) ∙ e)
