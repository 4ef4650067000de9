-- What is kept of modems, as a map.
use Rattle.std.proofs.Common.{◌≡◌, cond, List, [], ◌∷◌, Option, Some, sym, ap, ◌∙◌}
use Rattle.std.specs.Cmp.{IsTotalOrder}
use Rattle.std.specs.FinMap as map
use Rattle.std.specs.Map.{lookup}
use Rattle.off_base.specs.declared.macs.Mac.{Mac}
use Rattle.off_defs.specs.declared.keys.Key.TheVariants as key
use Rattle.off_defs.specs.State.{Tables}
use Rattle.off_defs.proofs.KeyLemmas.{key_total, key_exact}
use Rattle.off_users.specs.declared.named.Named.{Named}
use Rattle.off_base.specs.Macs.{is_same_mac}
use Rattle.off_users.specs.Users.{UsersHeld, StandsFor, named_by}
use Rattle.off_users.specs.Kept.{modem_cmp, map_of, Knows}
use Rattle.off_users.proofs.SeenLemmas.{mac_of, same_test}

pub modem_total : IsTotalOrder modem_cmp
modem_total = record {
  antisymm = λ a b. key_total.antisymm (key.Modem a) (key.Modem b);
  trans = λ a b c. key_total.trans (key.Modem a) (key.Modem b) (key.Modem c);
  congr = λ a b c. key_total.congr (key.Modem a) (key.Modem b) (key.Modem c);
}

pub modem_exact : map.IsAntisymmetric modem_cmp
modem_exact a b e = ap (mac_of a) (key_exact (key.Modem a) (key.Modem b) e)

pub get_map : (q : Mac) (es : List (Mac × Named)) → map.get (map_of es) q ≡ lookup (is_same_mac q) es
get_map q [] = map.get-empty modem_cmp q
get_map q (e ∷ es) =
    map.get-insert modem_total (map_of es) e.0 e.1 q
    ∙ ap (λ t. cond t (Some e.1) (map.get (map_of es) q)) (same_test q e.0)
    ∙ ap (λ (o : Option Named). cond (is_same_mac q e.0) (Some e.1) o) (get_map q es)

pub same_kept : (h k : UsersHeld) → ((q : Mac) → named_by q k ≡ named_by q h) → map_of k.modems ≡ map_of h.modems
same_kept h k same = map.same_map modem_total modem_exact (map_of k.modems) (map_of h.modems) (λ q. get_map q k.modems ∙ same q ∙ sym (get_map q h.modems))

pub stands_known : (h : UsersHeld) (t : Tables) → StandsFor h t → Knows (map_of h.modems) t
stands_known h t stands q = get_map q h.modems ∙ stands q

pub known_stands : (h : UsersHeld) (t : Tables) → Knows (map_of h.modems) t → StandsFor h t
known_stands h t knows q = sym (get_map q h.modems) ∙ knows q
