-- What is seen of a link that wanted memory and wasn't asked.
use Rattle.std.proofs.Common.{refl, inl}
use Rattle.off_defs.proofs.ToldLemmas.{told_self}
use Rattle.off_defs.proofs.CountLemmas.{grew_self}
use Rattle.off_outside.specs.LinkSeen.{LinkSeen}
use Rattle.off_outside.specs.LinkCalls.{NotTook}
use Rattle.off_outside.specs.declared.link.LinkErr.TheVariants.{Memory}

pub wanted : (a : LinkSeen) → NotTook Memory a a
wanted a = record {
  left = told_self (λ t. refl);
  sent = told_self (λ t. refl);
  moments = told_self (λ t. refl);
  up = λ up. inl up;
  missed = refl;
  longest = refl;
  faults = grew_self a.faults;
  unsent = refl;
}
