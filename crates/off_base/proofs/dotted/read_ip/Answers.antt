use Rattle.std.proofs.Common.{◌<◌, ◌^◌, arith}
use Rattle.off_base.proofs.IpTextLemmas.{ip_read, ip_not_read}
use Rattle.off_base.proofs.dotted.read_ip.Goals as goal

pub returns-then-eq-clause-read : goal.returns-then-eq-clause-read
returns-then-eq-clause-read c =
    (ip_read _ _ _ _ _ _ (let fits : c.spelled_address.result < 2 ^ 32 = omega arith in fits) (c.ip_text-written.ensures.text, c.ip_text-written.ensures.len, c.as_slice.ensures) c.eq.ensures c.if-eq.true).0

pub returns-then-eq-clause-function : goal.returns-then-eq-clause-function
returns-then-eq-clause-function c =
    (ip_read _ _ _ _ _ _ (let fits : c.spelled_address.result < 2 ^ 32 = omega arith in fits) (c.ip_text-written.ensures.text, c.ip_text-written.ensures.len, c.as_slice.ensures) c.eq.ensures c.if-eq.true).1

pub returns-else-eq-clause-refused : goal.returns-else-eq-clause-refused
returns-else-eq-clause-refused c =
    (ip_not_read _ _ _ _ _ _ c.spelled_address.ensures (c.ip_text-written.ensures.text, c.ip_text-written.ensures.len, c.as_slice.ensures) c.eq.ensures c.if-eq.false).0

pub returns-else-eq-clause-function : goal.returns-else-eq-clause-function
returns-else-eq-clause-function c =
    (ip_not_read _ _ _ _ _ _ c.spelled_address.ensures (c.ip_text-written.ensures.text, c.ip_text-written.ensures.len, c.as_slice.ensures) c.eq.ensures c.if-eq.false).1
