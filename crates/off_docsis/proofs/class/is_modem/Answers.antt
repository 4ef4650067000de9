use Rattle.std.proofs.Common.{◌≤◌, ◌<◌, ◌∙◌, length, take, ap, sym, refl, arith}
use Rattle.off_base.specs.Parts.{bytes_of}
use Rattle.off_docsis.specs.Cable.{spells_docsis, has_version}
use Rattle.off_docsis.proofs.CableLemmas.{not_modem_if_short, test_if_long, docsis_in_front, version_in_front}
use Rattle.off_docsis.proofs.class.is_modem.Goals as goal

pub returns-then-len-lt-FRONT-clause-test : goal.returns-then-len-lt-FRONT-clause-test
returns-then-len-lt-FRONT-clause-test c =
    let short : length (bytes_of c.args.option60.now) < 10 = omega (arith, c.len.ensures, ap length c.bytes-bytes.ensures) in
    sym (not_modem_if_short (bytes_of c.args.option60.now) short)

pub returns-then-spells_docsis-clause-test : goal.returns-then-spells_docsis-clause-test
returns-then-spells_docsis-clause-test c =
    let value = bytes_of c.args.option60.now in
    let long : 10 ≤ length (bytes_of c.args.option60.now) = omega (arith, c.len.ensures, ap length c.bytes-bytes.ensures) in
    let front = c.front_of-front.ensures ∙ ap (take 10) c.bytes-bytes.ensures in
    let docsis = c.spells_docsis.ensures ∙ ap spells_docsis front ∙ docsis_in_front value in
    let version = c.has_version.ensures ∙ ap has_version front ∙ version_in_front value in
    sym (test_if_long value long ∙ rw (← docsis, c.if-spells_docsis.true, ← version) refl)

pub returns-else-spells_docsis-clause-test : goal.returns-else-spells_docsis-clause-test
returns-else-spells_docsis-clause-test c =
    let value = bytes_of c.args.option60.now in
    let long : 10 ≤ length (bytes_of c.args.option60.now) = omega (arith, c.len.ensures, ap length c.bytes-bytes.ensures) in
    let front = c.front_of-front.ensures ∙ ap (take 10) c.bytes-bytes.ensures in
    let docsis = c.spells_docsis.ensures ∙ ap spells_docsis front ∙ docsis_in_front value in
    sym (test_if_long value long ∙ rw (← docsis, c.if-spells_docsis.false) refl)
