-- What an office keeps of the tables, where it changes and where it stays.
use Rattle.std.proofs.Common.{◌≡◌, ℕ, List, refl, sym, ◌∙◌, subst}
use Rattle.off_defs.specs.declared.writes.Write.{Write}
use Rattle.off_defs.specs.State.{Tables}
use Rattle.off_defs.specs.Tables.{write_all}
use Rattle.off_account_rules.specs.declared.counts.Counts.{Counts}
use Rattle.off_account_rules.specs.Rows.{counts_of}
use Rattle.off_kept.specs.Right.{AllRight}
use Rattle.off_kept.proofs.RightLemmas.{kept_stays_right}
use Rattle.off_tftp.specs.Agreements.{AllAgreed}
use Rattle.off_runs.specs.Held.{PoolHeld, KeepsPools}
use Rattle.off_runs.specs.Leases.{ground}
use Rattle.off_device_runs.specs.Ground.{device_ground}
use Rattle.off_users.specs.Kept.{NamedMap, Knows}
use Rattle.off_behind.specs.Buckets.{Leases}
use Rattle.off_office.proofs.AgreementLemmas.{agreements_stay}
use Rattle.off_office.specs.Desk.{Desk}
use Rattle.off_office.specs.Acting.{desk_at}
use Rattle.off_office.specs.Conditions.{Mirrors, Fits, StaysAs, Follows, KnowsDevices, any_tables}

pub stays_self : (desk : Desk) → StaysAs desk desk
stays_self desk = record { counts = refl; kept = refl; agreements = refl; pools = refl; device_pools = refl; users = refl; devices = refl }

pub stays_by : (before mid after : Desk) → after ≡ mid → StaysAs before mid → StaysAs before after
stays_by before mid after is stays = subst (StaysAs before) (sym is) stays

pub stays_then : {before mid after : Desk} → StaysAs before mid → StaysAs mid after → StaysAs before after
stays_then first second = record { counts = second.counts ∙ first.counts; kept = second.kept ∙ first.kept; agreements = second.agreements ∙ first.agreements; pools = second.pools ∙ first.pools; device_pools = second.device_pools ∙ first.device_pools; users = second.users ∙ first.users; devices = second.devices ∙ first.devices }

-- where nothing of it changed it mirrors the tables still
pub mirrors_as : (before after : Desk) (t : Tables) → StaysAs before after → Mirrors before t → Mirrors after t
mirrors_as before after t stays mirrors = record {
  counts = stays.counts ∙ mirrors.counts;
  kept = subst (AllRight t) (sym stays.kept) mirrors.kept;
  agreements = subst (AllAgreed t) (sym stays.agreements) mirrors.agreements;
  pools = subst (λ (pools : List PoolHeld). KeepsPools pools (ground t)) (sym stays.pools) mirrors.pools;
  device_pools = subst (λ (pools : List PoolHeld). KeepsPools pools (device_ground t)) (sym stays.device_pools) mirrors.device_pools;
  users = subst (λ (users : NamedMap). Knows users t) (sym stays.users) mirrors.users;
  devices = subst (λ (held : List Leases). KnowsDevices held t) (sym stays.devices) mirrors.devices;
}

pub fits_as : (before after : Desk) (t : Tables) → StaysAs before after → Fits before t → Fits after t
fits_as before after t stays fits = record { good = fits.good; mirrors = mirrors_as before after t stays fits.mirrors }

-- nothing of it has a moment
pub stays_at : (desk : Desk) (at : ℕ) → StaysAs desk (desk_at desk at)
stays_at desk at = record { counts = refl; kept = refl; agreements = refl; pools = refl; device_pools = refl; users = refl; devices = refl }

pub comes_as : (before mid : Desk) (at : ℕ) → mid ≡ desk_at before at → StaysAs before mid
comes_as before mid at came = stays_by before (desk_at before at) mid came (stays_at before at)

pub came_mirrors : (before mid : Desk) (at : ℕ) (t : Tables) → mid ≡ desk_at before at → Mirrors before t → Mirrors mid t
came_mirrors before mid at t came mirrors = mirrors_as before mid t (comes_as before mid at came) mirrors

pub came_fits : (before mid : Desk) (at : ℕ) (t : Tables) → mid ≡ desk_at before at → Fits before t → Fits mid t
came_fits before mid at t came fits = fits_as before mid t (comes_as before mid at came) fits

-- where it followed writes it mirrors the tables behind them
pub follows_mirrors : (told : Tables → Type 0) (before after : Desk) (counts : Counts) (writes : List Write) (t u : Tables) → told t → Follows told before after counts writes → counts ≡ counts_of (write_all t writes)
    → u ≡ write_all t writes → Fits before t → Mirrors after u
follows_mirrors told before after counts writes t u here follows counted written fits = subst (Mirrors after) (sym written) (record {
  counts = follows.counts_are ∙ counted;
  kept = subst (AllRight (write_all t writes)) (sym follows.kept) (kept_stays_right t writes before.kept fits.mirrors.kept);
  agreements = subst (AllAgreed (write_all t writes)) (sym follows.agreements) (agreements_stay t writes before.agreements fits.mirrors.agreements);
  pools = follows.pools t fits.good.opens fits.mirrors.pools;
  device_pools = follows.device_pools t fits.good.opens fits.mirrors.device_pools;
  users = follows.users t fits.mirrors.users;
  devices = follows.devices t here fits.mirrors.devices;
})

-- what follows writes of any tables follows them where these are told
pub follows_told : (told : Tables → Type 0) (before after : Desk) (counts : Counts) (writes : List Write) → Follows any_tables before after counts writes → Follows told before after counts writes
follows_told told before after counts writes f = record {
  held = f.held;
  counts_are = f.counts_are;
  kept = f.kept;
  agreements = f.agreements;
  pools = f.pools;
  device_pools = f.device_pools;
  users = f.users;
  devices = λ t here knows. f.devices t tt knows;
}

-- and so where they were told before that
pub follows_before : (told before_told : Tables → Type 0) (before after : Desk) (counts : Counts) (writes : List Write) → ((t : Tables) → before_told t → told t)
    → Follows told before after counts writes → Follows before_told before after counts writes
follows_before told before_told before after counts writes stays f = record {
  held = f.held;
  counts_are = f.counts_are;
  kept = f.kept;
  agreements = f.agreements;
  pools = f.pools;
  device_pools = f.device_pools;
  users = f.users;
  devices = λ t here knows. f.devices t (stays t here) knows;
}
