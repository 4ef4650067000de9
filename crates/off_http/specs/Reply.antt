-- The bytes of a reply (RFC 9112, sections 2.1, 4 and 9.6).
use Rattle.std.specs.Prelude.{ℕ, Bool, ◌||◌, ◌==◌, List, [], ◌∷◌, ◌++◌, length, decimal, codes, unwrap_or}
use Rattle.http.specs.StatusCode.{reason_phrase}

-- the statuses that a clerk is answered with: done, and the refusals
abbrev pub is_reply_status : ℕ → Bool
is_reply_status n = n == 200 || n == 400 || n == 404 || n == 405 || n == 409 || n == 413 || n == 422

-- a text, and the end of its line: CR LF
abbrev pub line : List ℕ → List ℕ
line text = text ++ 13 ∷ 10 ∷ []

-- the version, the status and its phrase (RFC 9110, section 15)
unfoldable pub status_line : ℕ → List ℕ
status_line status =
    line (codes "HTTP/1.1 " ++ decimal status ++ codes " " ++ unwrap_or (reason_phrase status) [])

-- the field with the length of the body (RFC 9110, section 8.6)
unfoldable pub length_line : ℕ → List ℕ
length_line n = line (codes "Content-Length: " ++ decimal n)

-- a status line, three fields, an empty line, the body
unfoldable pub reply : ℕ → List ℕ → List ℕ
reply status body =
    status_line status
    ++ line (codes "Content-Type: application/json")
    ++ length_line (length body)
    ++ line (codes "Connection: close")
    ++ line []
    ++ body
