-- The pool that is found for a message is the one of its relay, or of its address: good tables have no other.
use Rattle.std.proofs.Common.{◌≡◌, ℕ, true, false, cond, not, ◌&&◌, eqb, Option, Some, None, option_map, option_and_then, inl, inr, refl, sym, ap, subst, ◌∙◌}
use Rattle.std.proofs.lemmas.Bool.{or_cases, and_parts, and_from, not-true, eqb-true, eq-eqb, false_from_ne_true}
use Rattle.std.specs.List.{find}
use Rattle.off_defs.specs.declared.tables.Site.{Site}
use Rattle.off_defs.specs.declared.tables.Pool.{Pool}
use Rattle.off_defs.specs.State.{Tables}
use Rattle.off_dhcp.specs.Datagram.{Received}
use Rattle.off_account_rules.specs.Rows.{pools, pool_in, hub_in, hub_of, pool_hub_in, has_address, overlaps}
use Rattle.off_account_rules.specs.Good.{Good}
use Rattle.off_table_laws.proofs.Judging.{good_rows, pool_in_raw}
use Rattle.off_table_laws.proofs.ListLemmas.{In, none_found}
use Rattle.off_table_laws.proofs.Reading.{pool_row, pools_raw}
use Rattle.off_table_laws.proofs.TableLaws.{pools_are_apart}
use Rattle.off_asking.specs.Asking.{ip, asks, claimed}
use Rattle.off_asking.specs.Choice.{is_renewal, serves}
use Rattle.off_lease_rules.specs.Free.{numbered_pool_for, pool_for, site_for}
use Rattle.off_lease_laws.proofs.ChoiceLemmas.{found, pool_read}
use Rattle.off_boot_laws.specs.Known.{IsPoolOf}

pub served_by : (m : Received) (pool : Pool) → IsPoolOf m pool → serves m pool ≡ true
served_by m pool (inl relayed) =
    ap (λ b. cond b (is_renewal m && has_address pool (ip m.ciaddr)) (eqb pool.relay.0 m.giaddr))
    (false_from_ne_true (eqb m.giaddr 0) (λ e. relayed.0 (eqb-true m.giaddr 0 e)))
    ∙ eq-eqb pool.relay.0 m.giaddr relayed.1
served_by m pool (inr renews) =
    ap (λ b. cond b (is_renewal m && has_address pool (ip m.ciaddr)) (eqb pool.relay.0 m.giaddr)) (eq-eqb m.giaddr 0 renews.0)
    ∙ and_from (is_renewal m) (has_address pool (ip m.ciaddr)) renews.1 renews.2

module _ (t : Tables) (good : Good t) (m : Received) (n : ℕ) (pool : Pool) (there : pool_in t n ≡ Some pool) (serving : serves m pool ≡ true) where
  listed : In (n, pool) (pools t)
  listed =
      subst (In (n, pool)) (sym (pools_raw t (good_rows t good.opens).possible)) (pool_in_raw t n pool (pool_row t n pool there))

  one_number : (k : ℕ) (other : Pool) → pool_in t k ≡ Some other → serves m other ≡ true → n ≡ k
  one_number k other is other_serves =
      elim (eqb m.giaddr 0) as (λ b. cond b (is_renewal m && has_address pool (ip m.ciaddr)) (eqb pool.relay.0 m.giaddr) ≡ true
      → cond b (is_renewal m && has_address other (ip m.ciaddr)) (eqb other.relay.0 m.giaddr) ≡ true → n ≡ k) [
        | true ↦ λ p q.
            pools_are_apart t good (ip m.ciaddr) n k pool other there is (and_parts (is_renewal m) (has_address pool (ip m.ciaddr)) p).1
            (and_parts (is_renewal m) (has_address other (ip m.ciaddr)) q).1
        | false ↦ λ p q.
            elim (or_cases (eqb k n) (not (overlaps pool other) && not (eqb other.relay.0 pool.relay.0))
            ((good_rows t good.opens).apart n pool k other (pool_row t n pool there) (pool_row t k other is))) as (λ c. n ≡ k) [
              | inl same ↦ sym (eqb-true k n same)
              | inr apart ↦
                  let differ = not-true (eqb other.relay.0 pool.relay.0) (and_parts (not (overlaps pool other)) (not (eqb other.relay.0 pool.relay.0)) apart).1 in
                  let same = eq-eqb other.relay.0 pool.relay.0 (eqb-true other.relay.0 m.giaddr q ∙ sym (eqb-true pool.relay.0 m.giaddr p)) in
                  cc
            ]
      ] serving other_serves

  same_pool : (k : ℕ) (other : Pool) → pool_in t k ≡ Some other → n ≡ k → other ≡ pool
  same_pool k other is same =
      let both : Some other ≡ Some pool = sym is ∙ ap (λ i. pool_in t i) (sym same) ∙ there in
      let e : other ≡ pool = cc in
      e

  pool_by : (o : Option (ℕ × Pool)) → find (λ (entry : ℕ × Pool). serves m entry.1) (pools t) ≡ o → o ≡ Some (n, pool)
  pool_by None e =
      let no = none_found (λ (entry : ℕ × Pool). serves m entry.1) (pools t) e (n, pool) listed in
      let f : true ≡ false = sym serving ∙ no in
      cc
  pool_by (Some entry) e =
      let is = found (λ (entry : ℕ × Pool). serves m entry.1) (pools t) entry e in
      let read = pool_read t entry.0 entry.1 is.0 in
      let number = one_number entry.0 entry.1 read is.1 in
      let same : entry ≡ (n, pool) = λ j. (sym number j, same_pool entry.0 entry.1 read number j) in
      ap Some same

  found_pool : numbered_pool_for t m ≡ Some (n, pool)
  found_pool = pool_by (find (λ (entry : ℕ × Pool). serves m entry.1) (pools t)) refl

numbered_is_found : (t : Tables) (m : Received) (n : ℕ) (pool : Pool) → Good t → pool_in t n ≡ Some pool → IsPoolOf m pool → numbered_pool_for t m ≡ Some (n, pool)
numbered_is_found t m n pool good there is = found_pool t good m n pool there (served_by m pool is)

pub pool_is_found : (t : Tables) (m : Received) (n : ℕ) (pool : Pool) → Good t → pool_in t n ≡ Some pool → IsPoolOf m pool → pool_for t m ≡ Some pool
pool_is_found t m n pool good there is = ap (option_map (λ (entry : ℕ × Pool). entry.1)) (numbered_is_found t m n pool good there is)

-- and the site of who asks is that of the pool's hub
pub site_is_found : (t : Tables) (m : Received) (n : ℕ) (pool : Pool) (site : Site) → Good t → pool_in t n ≡ Some pool → IsPoolOf m pool → asks m ≡ true
    → hub_in t (pool_hub_in t n) ≡ Some site → site_for t m ≡ Some site
site_is_found t m n pool site good there is asking site_is =
    ap (λ b. option_and_then (hub_in t) (cond b (option_map (λ (entry : ℕ × Pool). pool_hub_in t entry.0) (numbered_pool_for t m)) (option_and_then (hub_of t) (claimed m)))) asking
    ∙ ap (λ (o : Option (ℕ × Pool)). option_and_then (hub_in t) (option_map (λ (entry : ℕ × Pool). pool_hub_in t entry.0) o)) (numbered_is_found t m n pool good there is)
    ∙ site_is
