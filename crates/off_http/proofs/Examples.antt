-- Worked examples of the definitions.
use Rattle.std.proofs.Common.{◌≡◌, [], ◌∷◌, codes, Some, None, refl}
use Rattle.std.specs.Fmt.{digits}
use Rattle.off_base.specs.Number.{number_read}
use Rattle.off_http.specs.Request.{declared_length}
use Rattle.off_http.specs.Reply.{status_line, length_line, reply}

-- lengths that are equal as numbers are one length
pub same_lengths : declared_length ((codes "Content-Length", codes "5") ∷ (codes "Host", codes "a") ∷ (codes "content-length", codes "05") ∷ []) ≡ Some 5
unfolding number_read
same_lengths = refl

pub other_lengths : declared_length ((codes "Content-Length", codes "5") ∷ (codes "content-length", codes "6") ∷ []) ≡ None
unfolding number_read
other_lengths = refl

pub no_lengths : declared_length ((codes "Host", codes "a") ∷ []) ≡ Some 0
no_lengths = refl

pub coded_body : declared_length ((codes "tRANSFER-eNCODING", codes "chunked") ∷ []) ≡ None
coded_body = refl

pub eleven_digits : declared_length ((codes "Content-Length", codes "00000000005") ∷ []) ≡ None
unfolding number_read
eleven_digits = refl

pub done_reply : reply 200 (codes "{}")
    ≡ codes "HTTP/1.1 200 OK\r\nContent-Type: application/json\r\nContent-Length: 2\r\nConnection: close\r\n\r\n{}"
unfolding digits status_line length_line reply
done_reply = refl
