use Rattle.std.proofs.Common.{◌≡◌, true, false, cond, [], Option, Some, None, length, map, get_or, string_bytes, refl, sym, ap, ◌∙◌, arith}
use Rattle.std.proofs.lemmas.List.{length-map}
use Rattle.off_base.specs.Number.{number_read}
use Rattle.off_book.specs.Words.{Serve, serve_by, ports_of, is_store, most_turns}
use Rattle.off_words.specs.Reading.{flags_stand}
use Rattle.off_words.proofs.WordLemmas.{word_is, serve_of_short, serve_of_seven, serve_of_read}
use Rattle.off_words.proofs.words.read_form.Goals as goal

pub returns-then-words-ne7 : goal.returns-then-words-ne7
returns-then-words-ne7 c =
    sym (serve_of_short _ (λ seven. c.if-words-ne7.true (sym (length-map c.args.words.now string_bytes) ∙ seven)))

pub returns-then-not-has_flags : goal.returns-then-not-has_flags
returns-then-not-has_flags c =
    let words = map string_bytes c.args.words.now in
    let seven : length words ≡ 7 = length-map c.args.words.now string_bytes ∙ c.if-words-ne7.false in
    let flags : flags_stand words ≡ false = sym c.has_flags.ensures ∙ c.if-not-has_flags.true in
    sym (serve_of_seven words seven ∙ ap (λ b. cond b (serve_by (get_or words 2 []) (ports_of (get_or words 4 [])) (number_read most_turns (get_or words 6 []))) None) flags)

pub returns-in_default : goal.returns-in_default
returns-in_default c =
    let words = map string_bytes c.args.words.now in
    let seven : length words ≡ 7 = length-map c.args.words.now string_bytes ∙ c.if-words-ne7.false in
    let flags : flags_stand words ≡ true = sym c.has_flags.ensures ∙ c.if-not-has_flags.false in
    let text = word_is c.args.words.now 4 c.index-words-4.result (omega arith) c.index-words-4.is in
    let ports : None ≡ ports_of (get_or words 4 []) = sym c.in_default.is ∙ (c.read_ports.ensures ∙ ap ports_of (c.as_bytes.ensures.value ∙ sym text)) in
    sym (serve_of_read (record { seven = seven; flags = flags; store_is = refl; ports_is = ports; turns_is = refl }))

pub returns-in_default-read_number : goal.returns-in_default-read_number
returns-in_default-read_number c =
    let words = map string_bytes c.args.words.now in
    let seven : length words ≡ 7 = length-map c.args.words.now string_bytes ∙ c.if-words-ne7.false in
    let flags : flags_stand words ≡ true = sym c.has_flags.ensures ∙ c.if-not-has_flags.false in
    let text = word_is c.args.words.now 4 c.index-words-4.result (omega arith) c.index-words-4.is in
    let ports : Some c.in-Some.ports ≡ ports_of (get_or words 4 []) = sym c.in-Some.is ∙ (c.read_ports.ensures ∙ ap ports_of (c.as_bytes.ensures.value ∙ sym text)) in
    let last = word_is c.args.words.now 6 c.index-words-6.result (omega arith) c.index-words-6.is in
    let turns : None ≡ number_read most_turns (get_or words 6 []) = sym c.in_default-read_number.is ∙ (c.read_number.ensures.value ∙ ap (number_read most_turns) (c.as_bytes-2.ensures.value ∙ sym last)) in
    sym (serve_of_read (record { seven = seven; flags = flags; store_is = refl; ports_is = ports; turns_is = turns }))

pub returns-then-not-is_store : goal.returns-then-not-is_store
returns-then-not-is_store c =
    let words = map string_bytes c.args.words.now in
    let seven : length words ≡ 7 = length-map c.args.words.now string_bytes ∙ c.if-words-ne7.false in
    let flags : flags_stand words ≡ true = sym c.has_flags.ensures ∙ c.if-not-has_flags.false in
    let text = word_is c.args.words.now 4 c.index-words-4.result (omega arith) c.index-words-4.is in
    let ports : Some c.in-Some.ports ≡ ports_of (get_or words 4 []) = sym c.in-Some.is ∙ (c.read_ports.ensures ∙ ap ports_of (c.as_bytes.ensures.value ∙ sym text)) in
    let last = word_is c.args.words.now 6 c.index-words-6.result (omega arith) c.index-words-6.is in
    let turns : Some (c.in-Some-read_number).turns ≡ number_read most_turns (get_or words 6 []) = sym c.in-Some-read_number.is ∙ (c.read_number.ensures.value ∙ ap (number_read most_turns) (c.as_bytes-2.ensures.value ∙ sym last)) in
    let store = word_is c.args.words.now 2 c.index-words-2.result (omega arith) c.index-words-2.is in
    let same : get_or words 2 [] ≡ c.as_str-store.result.now = store ∙ sym c.as_str-store.ensures.value in
    let no : is_store c.as_str-store.result.now ≡ false = ap is_store (sym c.as_bytes-3.ensures.value) ∙ (sym c.is_store.ensures ∙ c.if-not-is_store.true) in
    let form : Option Serve = Some (record { store = c.as_str-store.result.now; ports = c.in-Some.ports; turns = (c.in-Some-read_number).turns }) in
    sym (serve_of_read (record { seven = seven; flags = flags; store_is = same; ports_is = ports; turns_is = turns }) ∙ ap (λ b. cond b form None) no)

pub returns : goal.returns
returns c =
    let words = map string_bytes c.args.words.now in
    let seven : length words ≡ 7 = length-map c.args.words.now string_bytes ∙ c.if-words-ne7.false in
    let flags : flags_stand words ≡ true = sym c.has_flags.ensures ∙ c.if-not-has_flags.false in
    let text = word_is c.args.words.now 4 c.index-words-4.result (omega arith) c.index-words-4.is in
    let ports : Some c.in-Some.ports ≡ ports_of (get_or words 4 []) = sym c.in-Some.is ∙ (c.read_ports.ensures ∙ ap ports_of (c.as_bytes.ensures.value ∙ sym text)) in
    let last = word_is c.args.words.now 6 c.index-words-6.result (omega arith) c.index-words-6.is in
    let turns : Some (c.in-Some-read_number).turns ≡ number_read most_turns (get_or words 6 []) = sym c.in-Some-read_number.is ∙ (c.read_number.ensures.value ∙ ap (number_read most_turns) (c.as_bytes-2.ensures.value ∙ sym last)) in
    let store = word_is c.args.words.now 2 c.index-words-2.result (omega arith) c.index-words-2.is in
    let same : get_or words 2 [] ≡ c.as_str-store.result.now = store ∙ sym c.as_str-store.ensures.value in
    let yes : is_store c.as_str-store.result.now ≡ true = ap is_store (sym c.as_bytes-3.ensures.value) ∙ (sym c.is_store.ensures ∙ c.if-not-is_store.false) in
    let form : Option Serve = Some (record { store = c.as_str-store.result.now; ports = c.in-Some.ports; turns = (c.in-Some-read_number).turns }) in
    sym (serve_of_read (record { seven = seven; flags = flags; store_is = same; ports_is = ports; turns_is = turns }) ∙ ap (λ b. cond b form None) yes)
