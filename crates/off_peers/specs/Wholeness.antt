-- Whether the bytes of a clerk's connection are a whole request.
use Rattle.std.specs.Prelude.{◌≡◌, ℕ, List, Bool, true, false}
use Rattle.off_http.specs.Request.{Meaning, Waits, Refused, Asked, RequestIs}

-- more are awaited, or not: the request is whole, or the bytes are none, whatever follows them
abbrev pub is_said : Meaning → Bool
is_said Waits = false
is_said (Refused fault) = true
is_said (Asked method target body) = true

-- what the bytes say so far (RFC 9112), and whether that is all
pub record Judges (bytes : List ℕ) (whole : Bool) : Type 0 where
  pub meaning : Meaning
  pub says : RequestIs bytes meaning
  pub judged : whole ≡ is_said meaning
