use Rattle.std.proofs.Common.{◌<◌, ◌^◌, arith, append_assoc}
use Rattle.off_base.proofs.IpTextLemmas.{ip_of-ip_text_of, length-ip_text_of}
use Rattle.off_base.specs.AddressText.{ip_text_of}
use Rattle.off_base.proofs.dotted.dotted.Goals as goal

pub returns-clause-text : goal.returns-clause-text
unfolding ip_text_of
returns-clause-text c =
    rw (c.push_decimal-4.ensures.text, c.push-3.ensures.items, c.push_decimal-3.ensures.text, c.push-2.ensures.items, c.push_decimal-2.ensures.text, c.push.ensures.items, c.push_decimal.ensures.text)
    (rw (c.to_be_bytes.ensures, c.new-text.ensures) (simp append_assoc))

pub returns-clause-fits : goal.returns-clause-fits
returns-clause-fits c = length-ip_text_of c.args.number

pub returns-clause-reads_back : goal.returns-clause-reads_back
returns-clause-reads_back c = let fits : c.args.number < 2 ^ 32 = omega arith in ip_of-ip_text_of c.args.number fits
