-- A message of another kind is no query.
use Rattle.std.proofs.Common.{◌≡◌, ℕ, Bool, true, false, cond, ◌&&◌, eqb, length, is_none, List, Option, Some, None, Ok, refl, sym, ap, ◌∙◌}
use Rattle.off_dhcp.specs.declared.faults.DhcpFault.{DhcpFault}
use Rattle.off_dhcp.specs.Datagram.{Received, received, received_unless, message_fault, has_head, options_in, option_in}
use Rattle.off_base.specs.Parts.{bytes_of}
use Rattle.off_query_rules.specs.Asked.{is_query}
use Rattle.off_query_laws.specs.Laws.{MessagesAreNoQueries}

other_kind : (head one none kind : Bool) → kind ≡ false → (head && (one && (kind && none))) ≡ false
other_kind false one none kind other = refl
other_kind true false none kind other = refl
other_kind true true none kind other = ap (λ b. b && none) other

kind_is : (bytes : List ℕ) (m : Received) (fault : Option DhcpFault) → received_unless fault (received bytes) ≡ Ok m → m.kind ≡ (received bytes).kind
kind_is bytes m None e = let same : received bytes ≡ m = cc in ap (λ (r : Received). r.kind) (sym same)
kind_is bytes m (Some fault) e = cc

pub no_query : MessagesAreNoQueries
unfolding is_query
no_query bytes m read other =
    let options = options_in bytes in
    ap (λ b. cond b (Some bytes) None)
    (other_kind (has_head bytes) (eqb (length (bytes_of (option_in 53 options))) 1) (is_none (option_in 52 options)) (eqb (received bytes).kind 10)
    (ap (λ (k : ℕ). eqb k 10) (sym (kind_is bytes m (message_fault bytes) read)) ∙ other))
