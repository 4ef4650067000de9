use Rattle.std.proofs.Common.{◌≡◌, length, rules}
use Rattle.hex.specs.Hex.{IsBytes}
use Rattle.off_base.proofs.MacTextLemmas.{mac_of-mac_text_of}
use Rattle.off_base.specs.AddressText.{mac_text_of}
use Rattle.off_base.proofs.macs.mac_text.Goals as goal

pub returns-clause-reads_back : goal.returns-clause-reads_back
returns-clause-reads_back c =
    let text : c.encode_to_slice-written.new.output ≡ mac_text_of c.args.mac.0 = search rules in
    let six : length c.args.mac.0 ≡ 6 = search rules in
    let fit : IsBytes c.args.mac.0 = search rules in
    rw text (mac_of-mac_text_of c.args.mac.0 six fit)
