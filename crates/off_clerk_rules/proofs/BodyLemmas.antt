-- Whether bytes are JSON.
use Rattle.std.proofs.Common.{◌≡◌, ℕ, Bool, true, false, List, refl, ap, ◌∙◌, Some, None, cond, Ok, Err}
use Rattle.std.specs.Prelude.{IsUtf8, is_some}
use Rattle.std.specs.Str.{is_utf8}
use Rattle.std.proofs.lemmas.Str.{IsUtf8-from_is_utf8, is_utf8-from_IsUtf8}
use Rattle.serde_json.specs.Data.{Data}
use Rattle.serde_json.specs.Read.{read}
use Rattle.serde_json.specs.Find.{as_object}
use Rattle.off_clerk_rules.specs.Commands.{json_in, object_if, object_in}
use Rattle.off_clerk_rules.specs.declared.faults.ClerkErr.TheVariants.{NotJson}

json_read : (body : List ℕ) (d : Data) → IsUtf8 body → read body ≡ Some d → json_in body ≡ Some d
json_read body d text e = ap (λ (b : Bool). cond b (read body) None) (is_utf8-from_IsUtf8 body text) ∙ e

unread_if : (body : List ℕ) (b : Bool) → is_utf8 body ≡ b → (IsUtf8 body → read body ≡ None) → cond b (read body) None ≡ None
unread_if body true e none = none (IsUtf8-from_is_utf8 body e)
unread_if body false e none = refl

json_unread : (body : List ℕ) → (IsUtf8 body → read body ≡ None) → json_in body ≡ None
json_unread body none = unread_if body (is_utf8 body) refl none

pub an_object : (body : List ℕ) (d : Data) → IsUtf8 body → read body ≡ Some d → is_some (as_object d) ≡ true → object_in body ≡ Ok d
an_object body d text e is = ap object_if (json_read body d text e) ∙ ap (λ (b : Bool). cond b (Ok d) (Err NotJson)) is

pub another_value : (body : List ℕ) (d : Data) → IsUtf8 body → read body ≡ Some d → is_some (as_object d) ≡ false → object_in body ≡ Err NotJson
another_value body d text e is = ap object_if (json_read body d text e) ∙ ap (λ (b : Bool). cond b (Ok d) (Err NotJson)) is

pub no_json : (body : List ℕ) → (IsUtf8 body → read body ≡ None) → object_in body ≡ Err NotJson
no_json body none = ap object_if (json_unread body none)
