-- What a clerk is shown of a row is read back as the row.
use Rattle.std.proofs.Common.{◌≡◌, ℕ, ◌<◌, ◌≤◌, ◌^◌, Bool, true, false, List, [], ◌∷◌, ◌++◌, length, codes, decimal, refl, sym, ap, subst, ◌∙◌, arith, append_assoc, append-nil, nat_le, IsUtf8, IsTrue, Option, Some, Result, Ok}
use Rattle.std.proofs.lemmas.Bool.Decides.{nat_tests}
use Rattle.std.proofs.lemmas.Fmt.{IsAscii-decimal}
use Rattle.std.proofs.lemmas.Str.{IsUtf8-append, IsUtf8-nil, IsUtf8-from_ascii}
use Rattle.std.specs.Prelude.{ok_or, option_and_then}
use Rattle.std.specs.Int.{is_in_range}
use Rattle.std.specs.List.{concat, AllByRecursion}
use Rattle.json.specs.Json as json
use Rattle.json.specs.Lex.{tokens}
use Rattle.json.specs.Print.{ArePrintable, escape_byte, quoted}
use Rattle.json.specs.Tree as tree
use Rattle.json.proofs.Printed.Decimals.{IsNumber-decimal}
use Rattle.json.proofs.Printed.Trees.{value-json_tokens}
use Rattle.json.proofs.Printed.Tokens.{tokens-print}
use Rattle.json.proofs.Printed.Utf8.{IsUtf8-are_ascii, IsUtf8-quoted}
use Rattle.serde_json.specs.Data.{Data, boolean, number, string, object, unsigned, member, no_members}
use Rattle.serde_json.specs.Read.{read, max_depth, of_json}
use Rattle.serde_json.specs.Written.{compact_text, outline}
use Rattle.serde_json.proofs.Numbers.{number_of-decimal}
use Rattle.serde_json.proofs.Texts.{print-outline}
use Rattle.off_base.specs.Choices.{when}
use Rattle.off_base.specs.declared.macs.Mac.{Mac}
use Rattle.off_defs.specs.declared.keys.Key.TheVariants as key
use Rattle.off_defs.specs.declared.tables.Modem.{Modem}
use Rattle.off_defs.specs.declared.tables.Subscriber.{Subscriber}
use Rattle.off_defs.specs.declared.tables.Row.TheVariants as row
use Rattle.off_orders.specs.declared.shown.ShownRow.TheVariants as seen
use Rattle.off_orders.specs.declared.orders.Command.TheVariants.{PutSubscriber, PutModem}
use Rattle.off_rows.specs.RowBytes.{RowRanged}
use Rattle.off_account_rules.specs.Rows.{subscriber_fits}
use Rattle.off_clerk_rules.specs.declared.faults.ClerkErr.{ClerkErr}
use Rattle.off_clerk_rules.specs.declared.faults.ClerkErr.TheVariants.{Value}
use Rattle.off_clerk_rules.specs.declared.names.Name.TheVariants as field
use Rattle.off_clerk_rules.specs.Commands.{◌>>=◌, object_in, modem_in, subscriber_in, put_read}
use Rattle.off_clerk_rules.specs.Fields.{number_in, text_in}
use Rattle.off_clerk_rules.specs.Paths.{last_number}
use Rattle.off_clerk_rules.specs.Replies.{row_text, flag_text}
use Rattle.off_clerk.specs.Laws.{ShownReadBack}
use Rattle.off_clerk_rules.proofs.BodyLemmas.{an_object}

-- a value's text is read back
read_compact : (d : Data) → ArePrintable (tree.json_tokens (outline d)) → of_json (outline d) ≡ Some d → tree.depth (outline d) ≤ max_depth → read (compact_text d) ≡ Some d
read_compact d printable back shallow =
    let text : tokens (compact_text d) ≡ tree.json_tokens (outline d) = ap tokens (sym (print-outline d)) ∙ tokens-print _ printable in
    ap (λ o. option_and_then of_json (option_and_then (λ p. json.if_last p.0 p.1) o)) (ap (json.value max_depth) (text ∙ sym (append-nil _)) ∙ value-json_tokens (outline d) max_depth [] shallow)
    ∙ back

-- seven pieces, one behind the other
seven : (a b c d e f g : List ℕ) → a ++ b ++ c ++ d ++ e ++ f ++ g ≡ a ++ (b ++ (c ++ (d ++ (e ++ (f ++ g)))))
seven a b c d e f g = simp append_assoc

all_utf8 : (pieces : List (List ℕ)) → AllByRecursion IsUtf8 pieces → IsUtf8 (concat pieces)
all_utf8 [] all = IsUtf8-nil
all_utf8 (x ∷ xs) all = IsUtf8-append x (concat xs) all.0 (all_utf8 xs all.1)

decimal_utf8 : (n : ℕ) → n < 2 ^ 64 → IsUtf8 (decimal n)
decimal_utf8 n h = IsUtf8-from_ascii _ (IsAscii-decimal n h)

within : (least most n : ℕ) → least ≤ n → n ≤ most → is_in_range least most n ≡ true
within least most n a b = grind (arith, nat_tests)

number_read : (least most n : ℕ) → is_in_range least most n ≡ true → number_in least most (number (unsigned n)) ≡ Some n
number_read least most n e = ap (λ (b : Bool). when b n) e

short : (text : List ℕ) → length text ≤ 64 → nat_le (length text) 64 ≡ true
short text h = grind (arith, nat_tests)

text_read : (text : List ℕ) → length text ≤ 64 → text_in (string text) ≡ Some text
text_read text h = ap (λ (b : Bool). when b text) (short text h)

-- three fields that are read
three : {A B C D : Type 0} (f : A → B → C → D) (x : Result A ClerkErr) (y : Result B ClerkErr) (z : Result C ClerkErr) (a : A) (b : B) (c : C) → x ≡ Ok a → y ≡ Ok b → z ≡ Ok c
    → (x >>= (λ a. y >>= (λ b. z >>= (λ c. Ok (f a b c))))) ≡ Ok (f a b c)
three f x y z a b c p q r =
    ap (λ w. w >>= (λ a. y >>= (λ b. z >>= (λ c. Ok (f a b c))))) p ∙ ap (λ w. w >>= (λ b. z >>= (λ c. Ok (f a b c)))) q ∙ ap (λ w. w >>= (λ c. Ok (f a b c))) r

-- a modem as JSON
abbrev modem_data : Modem → Data
modem_data held = object (member (codes "class") (number (unsigned held.class)) (member (codes "serial") (string held.serial) (member (codes "subscriber") (number (unsigned held.subscriber)) no_members)))

abbrev modem_pieces : Modem → List (List ℕ)
modem_pieces held =
    codes "{\"class\":" ∷ decimal held.class ∷ codes ",\"serial\":" ∷ quoted held.serial ∷ codes ",\"subscriber\":" ∷ decimal held.subscriber ∷ codes "}" ∷ []

modem_compact : (held : Modem) → row_text (seen.Modem held) ≡ compact_text (modem_data held)
unfolding escape_byte
modem_compact held = seven (codes "{\"class\":") (decimal held.class) (codes ",\"serial\":") (quoted held.serial) (codes ",\"subscriber\":") (decimal held.subscriber) (codes "}")

modem_joined : (held : Modem) → row_text (seen.Modem held) ≡ concat (modem_pieces held)
modem_joined held = seven (codes "{\"class\":") (decimal held.class) (codes ",\"serial\":") (quoted held.serial) (codes ",\"subscriber\":") (decimal held.subscriber) (codes "}")

modem_converted : (held : Modem) → held.class < 2 ^ 64 → held.subscriber < 2 ^ 64 → of_json (outline (modem_data held)) ≡ Some (modem_data held)
modem_converted held a b = rw (number_of-decimal held.class a) (rw (number_of-decimal held.subscriber b))

modem_printed : (held : Modem) → held.class < 2 ^ 64 → held.subscriber < 2 ^ 64 → ArePrintable (tree.json_tokens (outline (modem_data held)))
unfolding ArePrintable
modem_printed held a b = (tt, (tt, (IsNumber-decimal held.class a, (tt, (tt, (tt, (IsNumber-decimal held.subscriber b, (tt, tt))))))))

modem_object : (held : Modem) → RowRanged (row.Modem held) → object_in (row_text (seen.Modem held)) ≡ Ok (modem_data held)
modem_object held ranged =
    let a : held.class < 2 ^ 64 = omega (arith, ranged.1) in
    let b : held.subscriber < 2 ^ 64 = omega (arith, ranged.0) in
    let utf8 : IsUtf8 (row_text (seen.Modem held)) = subst IsUtf8 (sym (modem_joined held))
    (all_utf8 (modem_pieces held)
    (IsUtf8-are_ascii _ refl, (decimal_utf8 held.class a, (IsUtf8-are_ascii _ refl, (IsUtf8-quoted held.serial ranged.2.1, (IsUtf8-are_ascii _ refl, (decimal_utf8 held.subscriber b, (IsUtf8-are_ascii _ refl, tt)))))))) in
    let back : read (row_text (seen.Modem held)) ≡ Some (modem_data held) = ap read (modem_compact held) ∙ read_compact (modem_data held) (modem_printed held a b) (modem_converted held a b) (omega arith) in
    an_object _ (modem_data held) utf8 back refl

modem_fields : (held : Modem) → RowRanged (row.Modem held) → modem_in (modem_data held) ≡ Ok held
modem_fields held ranged =
    three (λ s c t. record { subscriber = s; class = c; serial = t }) _ _ _ held.subscriber held.class held.serial
    (ap (λ (o : Option ℕ). ok_or o (Value field.Subscriber)) (number_read 0 last_number held.subscriber (within 0 last_number held.subscriber (omega arith) (omega (arith, ranged.0)))))
    (ap (λ (o : Option ℕ). ok_or o (Value field.Class)) (number_read 0 last_number held.class (within 0 last_number held.class (omega arith) (omega (arith, ranged.1)))))
    (ap (λ (o : Option (List ℕ)). ok_or o (Value field.Serial)) (text_read held.serial ranged.2.0))

modem_back : (mac : Mac) (held : Modem) → RowRanged (row.Modem held) → put_read (key.Modem mac) (row_text (seen.Modem held)) ≡ Ok (PutModem mac held)
modem_back mac held ranged =
    ap (λ (r : Result Data ClerkErr). r >>= (λ fields. modem_in fields >>= (λ modem. Ok (PutModem mac modem)))) (modem_object held ranged)
    ∙ ap (λ (r : Result Modem ClerkErr). r >>= (λ modem. Ok (PutModem mac modem))) (modem_fields held ranged)

-- a subscriber as JSON
abbrev subscriber_data : Subscriber → Data
subscriber_data held = object (member (codes "active") (boolean held.active) (member (codes "cpes") (number (unsigned held.cpes)) (member (codes "name") (string held.name) no_members)))

abbrev subscriber_pieces : Subscriber → List (List ℕ)
subscriber_pieces held =
    codes "{\"active\":" ∷ flag_text held.active ∷ codes ",\"cpes\":" ∷ decimal held.cpes ∷ codes ",\"name\":" ∷ quoted held.name ∷ codes "}" ∷ []

flag_utf8 : (b : Bool) → IsUtf8 (flag_text b)
flag_utf8 true = IsUtf8-are_ascii _ refl
flag_utf8 false = IsUtf8-are_ascii _ refl

abbrev subscriber_of : Bool → ℕ → List ℕ → Subscriber
subscriber_of active cpes text = record { active = active; cpes = cpes; name = text }

subscriber_compact : (active : Bool) (cpes : ℕ) (text : List ℕ)
    → row_text (seen.Subscriber (subscriber_of active cpes text)) ≡ compact_text (subscriber_data (subscriber_of active cpes text))
unfolding escape_byte
subscriber_compact true cpes text = seven (codes "{\"active\":") (flag_text true) (codes ",\"cpes\":") (decimal cpes) (codes ",\"name\":") (quoted text) (codes "}")
subscriber_compact false cpes text = seven (codes "{\"active\":") (flag_text false) (codes ",\"cpes\":") (decimal cpes) (codes ",\"name\":") (quoted text) (codes "}")

subscriber_joined : (held : Subscriber) → row_text (seen.Subscriber held) ≡ concat (subscriber_pieces held)
subscriber_joined held = seven (codes "{\"active\":") (flag_text held.active) (codes ",\"cpes\":") (decimal held.cpes) (codes ",\"name\":") (quoted held.name) (codes "}")

subscriber_converted : (held : Subscriber) → held.cpes < 2 ^ 64 → of_json (outline (subscriber_data held)) ≡ Some (subscriber_data held)
subscriber_converted held a = rw (number_of-decimal held.cpes a)

subscriber_printed : (held : Subscriber) → held.cpes < 2 ^ 64 → ArePrintable (tree.json_tokens (outline (subscriber_data held)))
unfolding ArePrintable
subscriber_printed held a = (tt, (tt, (tt, (tt, (IsNumber-decimal held.cpes a, (tt, (tt, (tt, tt))))))))

subscriber_object : (held : Subscriber) → RowRanged (row.Subscriber held) → object_in (row_text (seen.Subscriber held)) ≡ Ok (subscriber_data held)
subscriber_object held ranged =
    let a : held.cpes < 2 ^ 64 = omega (arith, ranged.0) in
    let utf8 : IsUtf8 (row_text (seen.Subscriber held)) = subst IsUtf8 (sym (subscriber_joined held))
    (all_utf8 (subscriber_pieces held)
    (IsUtf8-are_ascii _ refl, (flag_utf8 held.active, (IsUtf8-are_ascii _ refl, (decimal_utf8 held.cpes a, (IsUtf8-are_ascii _ refl, (IsUtf8-quoted held.name ranged.1.1, (IsUtf8-are_ascii _ refl, tt)))))))) in
    let back : read (row_text (seen.Subscriber held)) ≡ Some (subscriber_data held) = ap read (subscriber_compact held.active held.cpes held.name)
    ∙ read_compact (subscriber_data held) (subscriber_printed held a) (subscriber_converted held a) (omega arith) in
    an_object _ (subscriber_data held) utf8 back refl

subscriber_fields : (held : Subscriber) → RowRanged (row.Subscriber held) → IsTrue (subscriber_fits held) → subscriber_in (subscriber_data held) ≡ Ok held
subscriber_fields held ranged sound =
    three (λ a c t. record { active = a; cpes = c; name = t }) _ _ _ held.active held.cpes held.name refl
    (ap (λ (o : Option ℕ). ok_or o (Value field.Cpes)) (number_read 1 254 held.cpes sound)) (ap (λ (o : Option (List ℕ)). ok_or o (Value field.Name)) (text_read held.name ranged.1.0))

subscriber_back : (n : ℕ) (held : Subscriber) → RowRanged (row.Subscriber held) → IsTrue (subscriber_fits held)
    → put_read (key.Subscriber n) (row_text (seen.Subscriber held)) ≡ Ok (PutSubscriber n held)
subscriber_back n held ranged sound =
    ap (λ (r : Result Data ClerkErr). r >>= (λ fields. subscriber_in fields >>= (λ subscriber. Ok (PutSubscriber n subscriber)))) (subscriber_object held ranged)
    ∙ ap (λ (r : Result Subscriber ClerkErr). r >>= (λ subscriber. Ok (PutSubscriber n subscriber))) (subscriber_fields held ranged sound)

pub shown_read_back : ShownReadBack
shown_read_back = record { subscriber = subscriber_back; modem = modem_back }
