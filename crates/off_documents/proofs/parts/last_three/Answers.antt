use Rattle.std.proofs.Common.{◌≡◌, true, false, bytes_eq, arith}
use Rattle.json.specs.Json.{no_members}
use Rattle.off_documents.proofs.WalkLemmas.{nothing_in, at_first, at_last, passed_over, taken, another}
use Rattle.off_documents.proofs.parts.last_three.Goals as goal

pub returns-in_default : goal.returns-in_default
returns-in_default c j begins =
    let none = c.in_default.ensures j begins in
    (nothing_in c.args.one.now j none, nothing_in c.args.two.now j none, nothing_in c.args.three.now j none)

pub loop-name-init : goal.loop-name-init
loop-name-init c j begins =
    let opened = c.in-Some.ensures j begins in
    (opened.0, opened.2, at_first c.args.one.now opened.0 j opened.1, at_first c.args.two.now opened.0 j opened.1, at_first c.args.three.now opened.0 j opened.1)

pub loop-name-preserved-then-eq : goal.loop-name-preserved-then-eq
loop-name-preserved-then-eq c j begins =
    let now = c.loop-name.invariant j begins in
    let f = c.in-Some-next.ensures.value now.0 now.1 in
    let k = c.in-Some-next.name.now in
    let is : bytes_eq k c.args.one.now ≡ true = grind arith in (
      f.1,
      f.4,
      taken c.args.one.now k f.0 f.1 now.0 j f.2 c.loop-name.first c.in-Some-next.member is f.3 now.2,
      passed_over c.args.two.now k f.0 f.1 now.0 j f.2 c.loop-name.second (another k c.args.one.now c.args.two.now is c.requires.0) now.3,
      passed_over c.args.three.now k f.0 f.1 now.0 j f.2 c.loop-name.third (another k c.args.one.now c.args.three.now is c.requires.1) now.4,
    )

pub loop-name-preserved-then-eq-2 : goal.loop-name-preserved-then-eq-2
loop-name-preserved-then-eq-2 c j begins =
    let now = c.loop-name.invariant j begins in
    let f = c.in-Some-next.ensures.value now.0 now.1 in
    let k = c.in-Some-next.name.now in
    let not_one : bytes_eq k c.args.one.now ≡ false = grind arith in
    let is : bytes_eq k c.args.two.now ≡ true = grind arith in (
      f.1,
      f.4,
      passed_over c.args.one.now k f.0 f.1 now.0 j f.2 c.loop-name.first not_one now.2,
      taken c.args.two.now k f.0 f.1 now.0 j f.2 c.loop-name.second c.in-Some-next.member is f.3 now.3,
      passed_over c.args.three.now k f.0 f.1 now.0 j f.2 c.loop-name.third (another k c.args.two.now c.args.three.now is c.requires.2) now.4,
    )

pub loop-name-preserved-then-eq-3 : goal.loop-name-preserved-then-eq-3
loop-name-preserved-then-eq-3 c j begins =
    let now = c.loop-name.invariant j begins in
    let f = c.in-Some-next.ensures.value now.0 now.1 in
    let k = c.in-Some-next.name.now in
    let not_one : bytes_eq k c.args.one.now ≡ false = grind arith in
    let not_two : bytes_eq k c.args.two.now ≡ false = grind arith in
    let is : bytes_eq k c.args.three.now ≡ true = grind arith in (
      f.1,
      f.4,
      passed_over c.args.one.now k f.0 f.1 now.0 j f.2 c.loop-name.first not_one now.2,
      passed_over c.args.two.now k f.0 f.1 now.0 j f.2 c.loop-name.second not_two now.3,
      taken c.args.three.now k f.0 f.1 now.0 j f.2 c.loop-name.third c.in-Some-next.member is f.3 now.4,
    )

pub loop-name-preserved : goal.loop-name-preserved
loop-name-preserved c j begins =
    let now = c.loop-name.invariant j begins in
    let f = c.in-Some-next.ensures.value now.0 now.1 in
    let k = c.in-Some-next.name.now in
    let not_one : bytes_eq k c.args.one.now ≡ false = grind arith in
    let not_two : bytes_eq k c.args.two.now ≡ false = grind arith in
    let not_three : bytes_eq k c.args.three.now ≡ false = grind arith in (
      f.1,
      f.4,
      passed_over c.args.one.now k f.0 f.1 now.0 j f.2 c.loop-name.first not_one now.2,
      passed_over c.args.two.now k f.0 f.1 now.0 j f.2 c.loop-name.second not_two now.3,
      passed_over c.args.three.now k f.0 f.1 now.0 j f.2 c.loop-name.third not_three now.4,
    )

pub returns : goal.returns
returns c j begins =
    let now = c.loop-name.invariant j begins in
    let done : now.0 ≡ no_members = c.in_default-next.ensures.value now.0 now.1 in (
      at_last c.loop-name.first c.args.one.now now.0 j done now.2,
      at_last c.loop-name.second c.args.two.now now.0 j done now.3,
      at_last c.loop-name.third c.args.three.now now.0 j done now.4,
    )
