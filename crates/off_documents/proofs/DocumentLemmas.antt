-- What the tokens of a JSON text mean, and what is found within.
use Rattle.std.proofs.Common.{◌≡◌, ℕ, ◌+◌, ◌-◌, ◌≤◌, Bool, true, false, cond, bytes_eq, List, ◌++◌, length, Option, Some, None, option_map, option_and_then, unwrap_or, is_some, MatchOption, IfSome, IfNone, IsTrue, true≢false, refl, sym, ap, subst, ◌∙◌, arith, append_assoc, length-append}
use Rattle.std.proofs.lemmas.Slice.Eq.{bytes_eq-Decides}
use Rattle.json.specs.Token.{Token}
use Rattle.json.specs.Json as json
use Rattle.json.specs.Find as find
use Rattle.json.specs.Tree as tree
use Rattle.json.proofs.Grammar.{closed_array, value-begin_array}
use Rattle.json.proofs.Found.{Some_inj, items_close, items_go_on}
use Rattle.json.proofs.Printed.Trees.{value-json_tokens}
use Rattle.json.proofs.Unique.Spelling.{value-json_tokens_back}
use Rattle.serde_json.specs.Data.{Data, null, boolean, number, string, array, object, Items, no_items, item, Members, no_members, put}
use Rattle.serde_json.specs.Find.{get, get_member, as_bool, as_str, as_number, as_array, as_object}
use Rattle.serde_json.specs.Read.{number_of, of_json, of_items, of_members}
use Rattle.serde_json.proofs.Views.{get_member-put, get_member-put_other}
use Rattle.off_documents.specs.Documents.{value_at, items_at, data_of, elements_of}

-- ---- what tokens begin with, they mean

mutual
  depth-length : (j : json.Json) → tree.depth j ≤ length (tree.json_tokens j)
  depth-length json.null = omega arith
  depth-length (json.boolean b) = omega arith
  depth-length (json.number s) = omega arith
  depth-length (json.string s) = omega arith
  depth-length (json.array js) = omega (arith, items_depth-length js)
  depth-length (json.object ms) = omega (arith, members_depth-length ms)

  items_depth-length : (js : json.Items) → tree.items_depth js ≤ length (tree.items_tokens js)
  items_depth-length json.no_items = omega arith
  items_depth-length (json.item j js) = omega (arith, length-append (tree.json_tokens j) (tree.items_tokens js), depth-length j, items_depth-length js)

  members_depth-length : (ms : json.Members) → tree.members_depth ms ≤ length (tree.members_tokens ms)
  members_depth-length json.no_members = omega arith
  members_depth-length (json.member k j ms) = omega (arith, length-append (tree.json_tokens j) (tree.members_tokens ms), depth-length j, members_depth-length ms)

value_here : (j : json.Json) (rest : List Token) → json.value (length (tree.json_tokens j ++ rest)) (tree.json_tokens j ++ rest) ≡ Some (j, rest)
value_here j rest = value-json_tokens j _ rest (omega (arith, length-append (tree.json_tokens j) rest, depth-length j))

pub value_at-begins : (ts : List Token) (j : json.Json) → find.BeginsWith ts j → value_at ts ≡ of_json j
unfolding value_at
value_at-begins ts j h =
    ap value_at (value-json_tokens_back h.0 ts h.1 j h.2) ∙ ap (option_and_then (λ (p : json.Json × List Token). of_json p.0)) (value_here j h.1)

inner_items : (o : Option (json.Items × List Token)) (js : json.Items) (rest : List Token) → json.parse_map json.array o ≡ Some (json.array js, rest) → o ≡ Some (js, rest)
inner_items None js rest e = absurd (cc)
inner_items (Some p) js rest e =
    let same = Some_inj (json.array p.0, p.1) (json.array js, rest) e in
    ap Some (ap (λ (x : json.Json × List Token). (elements_in x.0, x.1)) same)
  where
    elements_in : json.Json → json.Items
    elements_in x = unwrap_or (find.as_array x) json.no_items

items_here : (js : json.Items) (rest : List Token)
    → json.items (json.value (length (tree.items_tokens js ++ rest))) (length (tree.items_tokens js ++ rest)) (tree.items_tokens js ++ rest) ≡ Some (js, rest)
items_here js rest =
    let ts = tree.items_tokens js ++ rest in
    let long = length-append (tree.items_tokens js) rest in
    let less : length ts + 1 - 1 ≡ length ts = omega arith in
    inner_items (json.items (json.value (length ts)) (length ts) ts) js rest
    (ap (λ (d : ℕ). json.parse_map json.array (json.items (json.value d) (length ts) ts)) (sym less) ∙ sym (value-begin_array (length ts + 1) ts (omega arith))
    ∙ value-json_tokens (json.array js) (length ts + 1) rest (omega (arith, long, items_depth-length js)))

abbrev first_item : json.Items → json.Json
first_item json.no_items = json.null
first_item (json.item j js) = j

abbrev later_items : json.Items → json.Items
later_items json.no_items = json.no_items
later_items (json.item j js) = js

items_spelled : (js : json.Items) (ts : List Token) (closing : Option (List Token)) → json.after_end_array ts ≡ closing → find.InItems ts js → (rest : List Token) × (ts ≡ tree.items_tokens js ++ rest)
items_spelled js ts (Some rest) e h =
    let closed = closed_array ts rest e in
    let none = items_close rest js (subst (λ (l : List Token). find.InItems l js) closed h) in
    (rest, closed ∙ ap (λ (ks : json.Items). tree.items_tokens ks ++ rest) (sym none))
items_spelled json.no_items ts None e h = let f = items_go_on ts json.no_items e h in let never : json.no_items ≡ json.item f.1 f.3 = f.5 in absurd (cc)
items_spelled (json.item j js) ts None e h =
    let f = items_go_on ts (json.item j js) e h in
    let first : f.1 ≡ j = sym (ap first_item f.5) in
    let later : f.3 ≡ js = sym (ap later_items f.5) in
    let more = items_spelled js f.2 (json.after_end_array f.2) refl (subst (λ (ks : json.Items). find.InItems f.2 ks) later f.6) in (
      more.0,
      value-json_tokens_back f.0 ts f.2 f.1 f.4 ∙ ap (λ (k : json.Json). tree.json_tokens k ++ f.2) first ∙ ap (λ (l : List Token). tree.json_tokens j ++ l) more.1
          ∙ sym (append_assoc (tree.json_tokens j) (tree.items_tokens js) more.0),
    )

pub items_at-begins : (ts : List Token) (js : json.Items) → find.InItems ts js → items_at ts ≡ of_items js
unfolding items_at
items_at-begins ts js h =
    let spelled = items_spelled js ts (json.after_end_array ts) refl h in
    ap items_at spelled.1 ∙ ap (option_and_then (λ (p : json.Items × List Token). of_items p.0)) (items_here js spelled.0)

pub is_there : (ts : List Token) (j : json.Json) (d : Data) → find.BeginsWith ts j → of_json j ≡ Some d → IsTrue (is_some (value_at ts))
is_there ts j d h e = subst (λ (o : Option Data). IsTrue (is_some o)) (sym (value_at-begins ts j h ∙ e)) refl

pub data_of-begins : (ts : List Token) (j : json.Json) (d : Data) → find.BeginsWith ts j → of_json j ≡ Some d → data_of ts ≡ d
data_of-begins ts j d h e = ap (λ (o : Option Data). unwrap_or o null) (value_at-begins ts j h ∙ e)

are_there : (ts : List Token) (js : json.Items) (ds : Items) → find.InItems ts js → of_items js ≡ Some ds → IsTrue (is_some (items_at ts))
are_there ts js ds h e = subst (λ (o : Option Items). IsTrue (is_some o)) (sym (items_at-begins ts js h ∙ e)) refl

elements_of-begins : (ts : List Token) (js : json.Items) (ds : Items) → find.InItems ts js → of_items js ≡ Some ds → elements_of ts ≡ ds
elements_of-begins ts js ds h e = ap (λ (o : Option Items). unwrap_or o no_items) (items_at-begins ts js h ∙ e)

-- ---- the value of the grammar behind what tokens mean

pub record Begun (ts : List Token) : Type 0 where
  pub found : json.Json
  pub begins : find.BeginsWith ts found
  pub means : of_json found ≡ Some (data_of ts)

value_found : (ts : List Token) (o : Option (json.Json × List Token)) → json.value (length ts) ts ≡ o → IsTrue (is_some (option_and_then (λ (p : json.Json × List Token). of_json p.0) o))
    → (j : json.Json) × find.BeginsWith ts j
value_found ts None e h = absurd (true≢false (sym h))
value_found ts (Some p) e h = (p.0, (length ts, p.1, e))

known : {A : Type 0} (o : Option A) (other : A) → IsTrue (is_some o) → o ≡ Some (unwrap_or o other)
known None other h = absurd (true≢false (sym h))
known (Some a) other h = refl

pub begun : (ts : List Token) → IsTrue (is_some (value_at ts)) → Begun ts
unfolding value_at
begun ts h =
    let f = value_found ts (json.value (length ts) ts) refl h in
    record { found = f.0; begins = f.1; means = sym (value_at-begins ts f.0 f.1) ∙ known (value_at ts) null h }

record BegunItems (ts : List Token) : Type 0 where
  found : json.Items
  begins : find.InItems ts found
  means : of_items found ≡ Some (elements_of ts)

items_found : (ts : List Token) (o : Option (json.Items × List Token)) → json.items (json.value (length ts)) (length ts) ts ≡ o
    → IsTrue (is_some (option_and_then (λ (p : json.Items × List Token). of_items p.0) o)) → (js : json.Items) × find.InItems ts js
items_found ts None e h = absurd (true≢false (sym h))
items_found ts (Some p) e h = (p.0, (length ts, length ts, p.1, e))

begun_items : (ts : List Token) → IsTrue (is_some (items_at ts)) → BegunItems ts
unfolding items_at
begun_items ts h =
    let f = items_found ts (json.items (json.value (length ts)) (length ts) ts) refl h in
    record { found = f.0; begins = f.1; means = sym (items_at-begins ts f.0 f.1) ∙ known (items_at ts) no_items h }

-- ---- members by their names

-- what stands at a name means this
abbrev Means : Option json.Json → Option Data → Type 0
Means None x = x ≡ None
Means (Some j) x = (d : Data) × (of_json j ≡ Some d) × (x ≡ Some d)

-- and where nothing stands there, what stood there before
abbrev MeansOr : Option json.Json → Option Data → Option Data → Type 0
MeansOr None earlier x = x ≡ earlier
MeansOr (Some j) earlier x = (d : Data) × (of_json j ≡ Some d) × (x ≡ Some d)

none_earlier : (o : Option json.Json) (x y : Option Data) → MeansOr o None x → y ≡ x → Means o y
none_earlier None x y h e = e ∙ h
none_earlier (Some j) x y h e = (h.0, h.1, e ∙ h.2)

module _ (name k : List ℕ) (j : json.Json) (d : Data) (is : of_json j ≡ Some d) (before : Members) where
  last_member : (b : Bool) (x : Option Data) → bytes_eq k name ≡ b → x ≡ get_member name (put k d before) → MeansOr (cond b (Some j) None) (get_member name before) x
  last_member true x e h =
      let same : k ≡ name = (bytes_eq-Decides k name).0 e in
      (d, is, h ∙ ap (λ (n : List ℕ). get_member n (put k d before)) (sym same) ∙ get_member-put k d before)
  last_member false x e h = h ∙ get_member-put_other name k d before (λ same. true≢false (sym ((bytes_eq-Decides k name).1 (sym same)) ∙ e))

  later_member : (later : Option json.Json) (x : Option Data) → MeansOr later (get_member name (put k d before)) x
      → MeansOr (find.later_or later (cond (bytes_eq k name) (Some j) None)) (get_member name before) x
  later_member None x h = last_member (bytes_eq k name) x refl h
  later_member (Some i) x h = h

one_member : (name k : List ℕ) (j : json.Json) (ms : json.Members) (before out : Members) (o : Option Data) → of_json j ≡ o
    → ((d : Data) → of_members ms (put k d before) ≡ Some out → MeansOr (find.get_member name ms) (get_member name (put k d before)) (get_member name out))
    → option_and_then (λ (d : Data). of_members ms (put k d before)) o ≡ Some out → MeansOr (find.get_member name (json.member k j ms)) (get_member name before) (get_member name out)
one_member name k j ms before out None is more e = absurd (cc)
one_member name k j ms before out (Some d) is more e = later_member name k j d is before (find.get_member name ms) (get_member name out) (more d e)

members_mean : (ms : json.Members) (name : List ℕ) (before out : Members) → of_members ms before ≡ Some out → MeansOr (find.get_member name ms) (get_member name before) (get_member name out)
members_mean json.no_members name before out e = ap (get_member name) (sym (Some_inj before out e))
members_mean (json.member k j ms) name before out e = one_member name k j ms before out (of_json j) refl (λ d h. members_mean ms name (put k d before) out h) e

mapped_is : {A : Type 0} (f : A → Data) (o : Option A) (d : Data) → option_map f o ≡ Some d → (a : A) × (o ≡ Some a) × (d ≡ f a)
mapped_is f None d e = absurd (cc)
mapped_is f (Some a) d e = (a, refl, sym (Some_inj (f a) d e))

get_means : (j : json.Json) (d : Data) (name : List ℕ) → of_json j ≡ Some d → Means (find.get name j) (get name d)
get_means json.null d name e = ap (get name) (sym (Some_inj null d e))
get_means (json.boolean b) d name e = ap (get name) (sym (Some_inj (boolean b) d e))
get_means (json.number s) d name e = ap (get name) (mapped_is number (number_of s) d e).2
get_means (json.string s) d name e = ap (get name) (sym (Some_inj (string s) d e))
get_means (json.array js) d name e = ap (get name) (mapped_is array (of_items js) d e).2
get_means (json.object ms) d name e =
    let m = mapped_is object (of_members ms no_members) d e in
    none_earlier (find.get_member name ms) (get_member name m.0) (get name d) (members_mean ms name no_members m.0 m.1) (ap (get name) m.2)

-- ---- answers

pub part_found : (ts : List Token) (name : List ℕ) (r : Option (List Token)) → IsTrue (is_some (value_at ts)) → ((j : json.Json) → find.BeginsWith ts j → find.Finds r (find.get name j))
    → MatchOption r (get name (data_of ts) ≡ None) (λ inner. IsTrue (is_some (value_at inner)) × (get name (data_of ts) ≡ Some (data_of inner)))
part_found ts name None h ask =
    let b = begun ts h in
    subst (λ (o : Option json.Json). Means o (get name (data_of ts))) (ask b.found b.begins) (get_means b.found (data_of ts) name b.means)
part_found ts name (Some inner) h ask =
    let b = begun ts h in
    let f = ask b.found b.begins in
    let m = subst (λ (o : Option json.Json). Means o (get name (data_of ts))) f.1 (get_means b.found (data_of ts) name b.means) in
    (is_there inner f.0 m.0 f.2 m.1, m.2 ∙ ap Some (sym (data_of-begins inner f.0 m.0 f.2 m.1)))

bool_means : (j : json.Json) (d : Data) → of_json j ≡ Some d → find.as_bool j ≡ as_bool d
bool_means json.null d e = ap as_bool (Some_inj null d e)
bool_means (json.boolean b) d e = ap as_bool (Some_inj (boolean b) d e)
bool_means (json.number s) d e = ap as_bool (sym (mapped_is number (number_of s) d e).2)
bool_means (json.string s) d e = ap as_bool (Some_inj (string s) d e)
bool_means (json.array js) d e = ap as_bool (sym (mapped_is array (of_items js) d e).2)
bool_means (json.object ms) d e = ap as_bool (sym (mapped_is object (of_members ms no_members) d e).2)

text_means : (j : json.Json) (d : Data) → of_json j ≡ Some d → find.as_str j ≡ as_str d
text_means json.null d e = ap as_str (Some_inj null d e)
text_means (json.boolean b) d e = ap as_str (Some_inj (boolean b) d e)
text_means (json.number s) d e = ap as_str (sym (mapped_is number (number_of s) d e).2)
text_means (json.string s) d e = ap as_str (Some_inj (string s) d e)
text_means (json.array js) d e = ap as_str (sym (mapped_is array (of_items js) d e).2)
text_means (json.object ms) d e = ap as_str (sym (mapped_is object (of_members ms no_members) d e).2)

number_means : (j : json.Json) (d : Data) → of_json j ≡ Some d → option_and_then number_of (find.as_number j) ≡ as_number d
number_means json.null d e = ap as_number (Some_inj null d e)
number_means (json.boolean b) d e = ap as_number (Some_inj (boolean b) d e)
number_means (json.number s) d e = let m = mapped_is number (number_of s) d e in m.1 ∙ ap as_number (sym m.2)
number_means (json.string s) d e = ap as_number (Some_inj (string s) d e)
number_means (json.array js) d e = ap as_number (sym (mapped_is array (of_items js) d e).2)
number_means (json.object ms) d e = ap as_number (sym (mapped_is object (of_members ms no_members) d e).2)

object_means : (j : json.Json) (d : Data) → of_json j ≡ Some d → is_some (find.as_object j) ≡ is_some (as_object d)
object_means json.null d e = ap (λ (x : Data). is_some (as_object x)) (Some_inj null d e)
object_means (json.boolean b) d e = ap (λ (x : Data). is_some (as_object x)) (Some_inj (boolean b) d e)
object_means (json.number s) d e = ap (λ (x : Data). is_some (as_object x)) (sym (mapped_is number (number_of s) d e).2)
object_means (json.string s) d e = ap (λ (x : Data). is_some (as_object x)) (Some_inj (string s) d e)
object_means (json.array js) d e = ap (λ (x : Data). is_some (as_object x)) (sym (mapped_is array (of_items js) d e).2)
object_means (json.object ms) d e = ap (λ (x : Data). is_some (as_object x)) (sym (mapped_is object (of_members ms no_members) d e).2)

no_array_means : (j : json.Json) (d : Data) → of_json j ≡ Some d → find.as_array j ≡ None → as_array d ≡ None
no_array_means json.null d e none = ap as_array (sym (Some_inj null d e))
no_array_means (json.boolean b) d e none = ap as_array (sym (Some_inj (boolean b) d e))
no_array_means (json.number s) d e none = ap as_array (mapped_is number (number_of s) d e).2
no_array_means (json.string s) d e none = ap as_array (sym (Some_inj (string s) d e))
no_array_means (json.array js) d e none = absurd (cc)
no_array_means (json.object ms) d e none = ap as_array (mapped_is object (of_members ms no_members) d e).2

pub bool_found : (ts : List Token) (r : Option Bool) → IsTrue (is_some (value_at ts)) → ((j : json.Json) → find.BeginsWith ts j → r ≡ find.as_bool j) → r ≡ as_bool (data_of ts)
bool_found ts r h ask = let b = begun ts h in ask b.found b.begins ∙ bool_means b.found (data_of ts) b.means

pub text_found : (ts : List Token) (r : Option (List ℕ)) → IsTrue (is_some (value_at ts)) → ((j : json.Json) → find.BeginsWith ts j → r ≡ find.as_str j) → r ≡ as_str (data_of ts)
text_found ts r h ask = let b = begun ts h in ask b.found b.begins ∙ text_means b.found (data_of ts) b.means

pub number_found : (ts : List Token) (r : Option (List ℕ)) → IsTrue (is_some (value_at ts)) → ((j : json.Json) → find.BeginsWith ts j → r ≡ find.as_number j)
    → option_and_then number_of r ≡ as_number (data_of ts)
number_found ts r h ask = let b = begun ts h in ap (option_and_then number_of) (ask b.found b.begins) ∙ number_means b.found (data_of ts) b.means

abbrev Opens : (j : json.Json) → Option (List Token) → Type 0
Opens j r = MatchOption r (find.as_object j ≡ None) (λ rest. (ms : json.Members) × (j ≡ json.object ms) × find.InMembers rest ms)

opens_object : (j : json.Json) (r : Option (List Token)) → Opens j r → is_some r ≡ is_some (find.as_object j)
opens_object j None h = ap is_some (sym h)
opens_object j (Some rest) h = ap (λ (i : json.Json). is_some (find.as_object i)) (sym h.1)

pub object_found : (ts : List Token) (r : Option (List Token)) → IsTrue (is_some (value_at ts)) → ((j : json.Json) → find.BeginsWith ts j → Opens j r) → is_some r ≡ is_some (as_object (data_of ts))
object_found ts r h ask = let b = begun ts h in opens_object b.found r (ask b.found b.begins) ∙ object_means b.found (data_of ts) b.means

pub elements_found : (ts : List Token) (r : Option (List Token)) → IsTrue (is_some (value_at ts))
    → ((j : json.Json) → find.BeginsWith ts j → MatchOption r (find.as_array j ≡ None) (λ rest. (js : json.Items) × (j ≡ json.array js) × find.InItems rest js))
    → MatchOption r (as_array (data_of ts) ≡ None) (λ rest. IsTrue (is_some (items_at rest)) × (as_array (data_of ts) ≡ Some (elements_of rest)))
elements_found ts None h ask = let b = begun ts h in no_array_means b.found (data_of ts) b.means (ask b.found b.begins)
elements_found ts (Some rest) h ask =
    let b = begun ts h in
    let f = ask b.found b.begins in
    let m = mapped_is array (of_items f.0) (data_of ts) (ap of_json (sym f.1) ∙ b.means) in
    (are_there rest f.0 m.0 f.2 m.1, ap as_array m.2 ∙ ap Some (sym (elements_of-begins rest f.0 m.0 f.2 m.1)))

-- an element that has a value, and those behind it
one_item : (o : Option Data) (js : json.Items) (ds : Items) → option_and_then (λ (d : Data). option_map (item d) (of_items js)) o ≡ Some ds
    → (d : Data) × (o ≡ Some d) × (es : Items) × (of_items js ≡ Some es) × (ds ≡ item d es)
one_item None js ds e = absurd (cc)
one_item (Some d) js ds e = go (of_items js) refl e
  where
    go : (m : Option Items) → of_items js ≡ m → option_map (item d) m ≡ Some ds → (x : Data) × (Some d ≡ Some x) × (es : Items) × (of_items js ≡ Some es) × (ds ≡ item x es)
    go None is h = absurd (cc)
    go (Some es) is h = (d, refl, es, is, sym (Some_inj (item d es) ds h))

pub next_found : (old : List Token) (r : Option (List Token)) (new : List Token) → IsTrue (is_some (items_at old)) → find.NextItem old r new
    → MatchOption r (elements_of old ≡ no_items) (λ part. IsTrue (is_some (value_at part)) × IsTrue (is_some (items_at new)) × (elements_of old ≡ item (data_of part) (elements_of new)))
next_found old None new h next = let b = begun_items old h in sym (Some_inj no_items (elements_of old) (ap of_items (sym (next b.found b.begins)) ∙ b.means))
next_found old (Some part) new h next =
    let b = begun_items old h in
    let f = next b.found b.begins in
    let m = one_item (of_json f.0) f.1 (elements_of old) (ap of_items (sym f.2) ∙ b.means) in (
      is_there part f.0 m.0 f.3 m.1,
      are_there new f.1 m.2 f.4 m.3,
      m.4 ∙ ap (λ (d : Data). item d m.2) (sym (data_of-begins part f.0 m.0 f.3 m.1)) ∙ ap (item (data_of part)) (sym (elements_of-begins new f.1 m.2 f.4 m.3)),
    )

pub next_kept : (old : List Token) (r : Option (List Token)) (new : List Token) → IsTrue (is_some (items_at old)) → find.NextItem old r new → IfNone r (new ≡ old) → IsTrue (is_some (items_at new))
next_kept old None new h next stays = subst (λ (ts : List Token). IsTrue (is_some (items_at ts))) (sym stays) h
next_kept old (Some part) new h next stays = (next_found old (Some part) new h next).1

module _ (ts : List Token) (name : List ℕ) (h : IsTrue (is_some (value_at ts))) where
  pub found_there : (r : Option (List Token)) → ((j : json.Json) → find.BeginsWith ts j → find.Finds r (find.get name j)) → IfSome r (λ (inner : List Token). IsTrue (is_some (value_at inner)))
  found_there None ask = tt
  found_there (Some inner) ask = (part_found ts name (Some inner) h ask).0

  pub found_means : (r : Option (List Token)) → ((j : json.Json) → find.BeginsWith ts j → find.Finds r (find.get name j)) → option_map data_of r ≡ get name (data_of ts)
  found_means None ask = sym (part_found ts name None h ask)
  found_means (Some inner) ask = sym (part_found ts name (Some inner) h ask).1
