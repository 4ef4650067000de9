use Rattle.std.proofs.Common.{◌≡◌, ◌&&◌, true, sym, ap, ◌∙◌}
use Rattle.std.specs.List.{list_any}
use Rattle.off_account_rules.specs.Rows.{has_address, pools}
use Rattle.off_runs.specs.Runs.{is_open}
use Rattle.off_runs.specs.Leases.{ground, expiry_in}
use Rattle.off_lease.proofs.ChoiceLemmas.{open_is_free}
use Rattle.off_runs.proofs.OpenLemmas.{free_there}
use Rattle.off_lease.proofs.choosing.is_free.Goals as goal

pub returns-then-has_address : goal.returns-then-has_address
returns-then-has_address c = λ t relay b.
    let pool = c.args.pool.now in
    let a = c.args.address in
    let has : has_address pool a ≡ true = sym c.has_address.ensures ∙ c.if-has_address.true in
    c.is_free.ensures (ground t) b.keeps
    ∙ ap (λ h. h && list_any (λ e. is_open (expiry_in t) c.args.runs.now.at e.1 a.0) (pools t)) (sym has)
    ∙ free_there (expiry_in t) c.args.runs.now.at a.0 _ (pools t) pool b.found
    ∙ open_is_free t c.args.runs.now.at pool a
