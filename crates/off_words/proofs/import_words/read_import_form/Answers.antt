use Rattle.std.proofs.Common.{◌≡◌, true, false, cond, [], Option, Some, None, length, map, get_or, string_bytes, refl, sym, ap, ◌∙◌, arith}
use Rattle.std.proofs.lemmas.List.{length-map}
use Rattle.off_base.specs.Number.{number_read, greatest_u64}
use Rattle.off_book.specs.Words.{Import, import_by, kind_of, is_store}
use Rattle.off_words.specs.Reading.{import_flags_stand}
use Rattle.off_words.proofs.WordLemmas.{word_is}
use Rattle.off_words.proofs.ImportWordLemmas.{import_of_short, import_of_five, import_of_read}
use Rattle.off_words.proofs.import_words.read_import_form.Goals as goal

pub returns-then-words-ne5 : goal.returns-then-words-ne5
returns-then-words-ne5 c =
    sym (import_of_short _ (λ five. c.if-words-ne5.true (sym (length-map c.args.words.now string_bytes) ∙ five)))

pub returns-then-not-has_import_flags : goal.returns-then-not-has_import_flags
returns-then-not-has_import_flags c =
    let words = map string_bytes c.args.words.now in
    let five : length words ≡ 5 = length-map c.args.words.now string_bytes ∙ c.if-words-ne5.false in
    let flags : import_flags_stand words ≡ false = sym c.has_import_flags.ensures ∙ c.if-not-has_import_flags.true in
    sym (import_of_five words five ∙ ap (λ b. cond b (import_by (get_or words 2 []) (kind_of (get_or words 3 [])) (number_read greatest_u64 (get_or words 4 []))) None) flags)

pub returns-in_default : goal.returns-in_default
returns-in_default c =
    let words = map string_bytes c.args.words.now in
    let five : length words ≡ 5 = length-map c.args.words.now string_bytes ∙ c.if-words-ne5.false in
    let flags : import_flags_stand words ≡ true = sym c.has_import_flags.ensures ∙ c.if-not-has_import_flags.false in
    let text = word_is c.args.words.now 3 c.index-words-3.result (omega arith) c.index-words-3.is in
    let kind : None ≡ kind_of (get_or words 3 []) = sym c.in_default.is ∙ (c.read_kind.ensures ∙ ap kind_of (c.as_str.ensures.value ∙ sym text)) in
    sym (import_of_read (record { five = five; flags = flags; store_is = refl; kind_is = kind; batch_is = refl }))

pub returns-in_default-read_number : goal.returns-in_default-read_number
returns-in_default-read_number c =
    let words = map string_bytes c.args.words.now in
    let five : length words ≡ 5 = length-map c.args.words.now string_bytes ∙ c.if-words-ne5.false in
    let flags : import_flags_stand words ≡ true = sym c.has_import_flags.ensures ∙ c.if-not-has_import_flags.false in
    let text = word_is c.args.words.now 3 c.index-words-3.result (omega arith) c.index-words-3.is in
    let kind : Some c.in-Some.kind ≡ kind_of (get_or words 3 []) = sym c.in-Some.is ∙ (c.read_kind.ensures ∙ ap kind_of (c.as_str.ensures.value ∙ sym text)) in
    let last = word_is c.args.words.now 4 c.index-words-4.result (omega arith) c.index-words-4.is in
    let batch : None ≡ number_read greatest_u64 (get_or words 4 []) = sym c.in_default-read_number.is ∙ (c.read_number.ensures.value ∙ ap (number_read greatest_u64) (c.as_bytes.ensures.value ∙ sym last)) in
    sym (import_of_read (record { five = five; flags = flags; store_is = refl; kind_is = kind; batch_is = batch }))

pub returns-then-not-is_store : goal.returns-then-not-is_store
returns-then-not-is_store c =
    let words = map string_bytes c.args.words.now in
    let five : length words ≡ 5 = length-map c.args.words.now string_bytes ∙ c.if-words-ne5.false in
    let flags : import_flags_stand words ≡ true = sym c.has_import_flags.ensures ∙ c.if-not-has_import_flags.false in
    let text = word_is c.args.words.now 3 c.index-words-3.result (omega arith) c.index-words-3.is in
    let kind : Some c.in-Some.kind ≡ kind_of (get_or words 3 []) = sym c.in-Some.is ∙ (c.read_kind.ensures ∙ ap kind_of (c.as_str.ensures.value ∙ sym text)) in
    let last = word_is c.args.words.now 4 c.index-words-4.result (omega arith) c.index-words-4.is in
    let batch : Some (c.in-Some-read_number).batch ≡ number_read greatest_u64 (get_or words 4 []) = sym c.in-Some-read_number.is ∙ (c.read_number.ensures.value ∙ ap (number_read greatest_u64) (c.as_bytes.ensures.value ∙ sym last)) in
    let store = word_is c.args.words.now 2 c.index-words-2.result (omega arith) c.index-words-2.is in
    let same : get_or words 2 [] ≡ c.as_str-store.result.now = store ∙ sym c.as_str-store.ensures.value in
    let no : is_store c.as_str-store.result.now ≡ false = ap is_store (sym c.as_bytes-2.ensures.value) ∙ (sym c.is_store.ensures ∙ c.if-not-is_store.true) in
    let form : Option Import = Some (record { store = c.as_str-store.result.now; kind = c.in-Some.kind; batch = (c.in-Some-read_number).batch }) in
    sym (import_of_read (record { five = five; flags = flags; store_is = same; kind_is = kind; batch_is = batch }) ∙ ap (λ b. cond b form None) no)

pub returns : goal.returns
returns c =
    let words = map string_bytes c.args.words.now in
    let five : length words ≡ 5 = length-map c.args.words.now string_bytes ∙ c.if-words-ne5.false in
    let flags : import_flags_stand words ≡ true = sym c.has_import_flags.ensures ∙ c.if-not-has_import_flags.false in
    let text = word_is c.args.words.now 3 c.index-words-3.result (omega arith) c.index-words-3.is in
    let kind : Some c.in-Some.kind ≡ kind_of (get_or words 3 []) = sym c.in-Some.is ∙ (c.read_kind.ensures ∙ ap kind_of (c.as_str.ensures.value ∙ sym text)) in
    let last = word_is c.args.words.now 4 c.index-words-4.result (omega arith) c.index-words-4.is in
    let batch : Some (c.in-Some-read_number).batch ≡ number_read greatest_u64 (get_or words 4 []) = sym c.in-Some-read_number.is ∙ (c.read_number.ensures.value ∙ ap (number_read greatest_u64) (c.as_bytes.ensures.value ∙ sym last)) in
    let store = word_is c.args.words.now 2 c.index-words-2.result (omega arith) c.index-words-2.is in
    let same : get_or words 2 [] ≡ c.as_str-store.result.now = store ∙ sym c.as_str-store.ensures.value in
    let yes : is_store c.as_str-store.result.now ≡ true = ap is_store (sym c.as_bytes-2.ensures.value) ∙ (sym c.is_store.ensures ∙ c.if-not-is_store.false) in
    let form : Option Import = Some (record { store = c.as_str-store.result.now; kind = c.in-Some.kind; batch = (c.in-Some-read_number).batch }) in
    sym (import_of_read (record { five = five; flags = flags; store_is = same; kind_is = kind; batch_is = batch }) ∙ ap (λ b. cond b form None) yes)
