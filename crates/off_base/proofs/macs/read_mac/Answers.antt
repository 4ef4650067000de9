use Rattle.std.proofs.Common.{◌∙◌, sym}
use Rattle.off_base.proofs.MacTextLemmas.{mac_of_other_form, mac_of_digits, decoded, undecoded}
use Rattle.off_base.proofs.macs.read_mac.Goals as goal

pub returns-then-not-is_form_of : goal.returns-then-not-is_form_of
returns-then-not-is_form_of c =
    mac_of_other_form c.args.text.now c.in-Some.digits c.in-Some.ensures.0 (sym c.is_form_of.ensures ∙ c.if-not-is_form_of.true)

pub returns-in-Ok : goal.returns-in-Ok
returns-in-Ok c =
    let known = mac_of_digits c.args.text.now c.in-Some.digits c.in-Some.ensures.0 c.in-Some.ensures.1 (sym c.is_form_of.ensures ∙ c.if-not-is_form_of.false) in
    known ∙ decoded _ _ _ (rw c.as_slice.ensures at c.decode_to_slice.ensures.value) c.in-Ok.is

pub returns-in-Err : goal.returns-in-Err
returns-in-Err c =
    let known = mac_of_digits c.args.text.now c.in-Some.digits c.in-Some.ensures.0 c.in-Some.ensures.1 (sym c.is_form_of.ensures ∙ c.if-not-is_form_of.false) in
    known ∙ undecoded _ _ _ (rw c.as_slice.ensures at c.decode_to_slice.ensures.value) c.in-Err.is
