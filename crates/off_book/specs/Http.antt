-- Clerks' connections. A connection carries one request, in pieces; what it says is a matter of all
-- its bytes so far. Once that is a request or can be none, the office answers it and closes the
-- connection.
use Rattle.std.specs.Prelude.{◌≡◌, Bool, true, false, ◌&&◌, nat_le, List, [], ◌∷◌, ◌++◌, ℕ, codes, decimal, Result, Ok, Err, is_none, unwrap_or}
use Rattle.std.specs.Ordering.{nat_cmp}
use Rattle.std.specs.FinMap as map
use Rattle.off_http.specs.Request.{Meaning, Waits, Refused, Asked, RequestIs}
use Rattle.off_http.specs.Reply.{reply}
use Rattle.off_orders.specs.declared.orders.Command.{Command}
use Rattle.off_orders.specs.declared.orders.Reply.{Reply}
use Rattle.off_defs.specs.declared.results.Sent.{Sent}
use Rattle.off_defs.specs.declared.results.Sent.TheVariants.{Answer, Close}
use Rattle.off_defs.specs.declared.writes.Write.{Write}
use Rattle.off_defs.specs.State.{Tables, State, Held, Effect, state_of, only_line}
use Rattle.off_defs.specs.Tables.{write_all}
use Rattle.off_orders.specs.Clerk.{Stepped, Refusal, clerk_step}
use Rattle.off_clerk_rules.specs.declared.faults.ClerkErr.{ClerkErr}
use Rattle.off_clerk_rules.specs.declared.faults.Fault.{Fault}
use Rattle.off_clerk_rules.specs.declared.faults.Fault.TheVariants as fault
use Rattle.off_clerk_rules.specs.Faults.{word_of, status_of, fault_text}
use Rattle.off_clerk_rules.specs.Replies.{reply_text}
use Rattle.off_clerk_rules.specs.Commands.{command_read}

-- how many connections may be live
abbrev pub most_connections : ℕ
most_connections = 8

-- the bytes that have come of a connection, and what is held with more of them, or without the
-- connection
abbrev pub heard_of : Held → ℕ → List ℕ
heard_of held conn = unwrap_or (map.get held.connections conn) []

abbrev pub with_connection : Held → ℕ → List ℕ → Held
with_connection held conn bytes =
    record held { connections = map.insert held.connections conn bytes }

abbrev pub without_connection : Held → ℕ → Held
without_connection held conn = record held { connections = map.remove held.connections conn }

abbrev pub close_connection : State → ℕ → State
close_connection s conn = record s { held = without_connection s.held conn }

-- a connection is answered, and closed
abbrev pub answer_and_close : ℕ → List ℕ → List Sent
answer_and_close conn bytes = Answer conn bytes ∷ Close conn ∷ []

-- What a clerk is answered: a status and a body, with the words for the line of the log; and what
-- is written to the tables
pub record Answered : Type 0 where
  pub writes : List Write
  pub status : ℕ
  pub body : List ℕ
  pub words : List ℕ

abbrev pub answer_done : List Write → Reply → Answered
answer_done writes done =
    record { writes = writes; status = 200; body = reply_text done; words = codes "200" }

abbrev pub answer_fault : Fault → Answered
answer_fault f =
    record {
      writes = [];
      status = status_of f;
      body = fault_text f;
      words = decimal (status_of f) ++ codes " " ++ word_of f;
    }

abbrev pub answer_result : List Write → Result Reply Refusal → Answered
answer_result writes (Ok done) = answer_done writes done
answer_result writes (Err refused) = answer_fault (fault.Rule refused.row refused.broken)

abbrev pub answer_step : Stepped → Answered
answer_step step = answer_result step.writes step.answer

-- a request is a command, which is done or refused, or it's at fault by itself
abbrev pub answer_command : Tables → ℕ → Result Command ClerkErr → Answered
answer_command tables now (Ok command) = answer_step (clerk_step tables now command)
answer_command tables now (Err err) = answer_fault (fault.Clerk err)

abbrev pub answer_request : Tables → ℕ → List ℕ → List ℕ → List ℕ → Answered
answer_request tables now method target body =
    answer_command tables now (command_read method target body)

-- an answer ends the connection
abbrev pub answered : State → ℕ → Answered → Effect
answered s conn answer =
    record {
      said =
          record {
            items = answer_and_close conn (reply answer.status answer.body);
            line = codes "http " ++ answer.words;
          };
      commit = answer.writes;
      after = state_of (write_all s.tables answer.writes) (without_connection s.held conn);
    }

-- what the bytes of a connection have the office do
abbrev pub by_meaning : State → ℕ → List ℕ → Meaning → Effect
by_meaning s conn bytes Waits =
    only_line (record s { held = with_connection s.held conn bytes }) (codes "http wait")
by_meaning s conn bytes (Refused f) = answered s conn (answer_fault (fault.Http f))
by_meaning s conn bytes (Asked method target body) =
    answered s conn (answer_request s.tables s.held.now method target body)

-- a connection that is new comes while as many are live as may be
abbrev pub is_full : map.FinMap nat_cmp (List ℕ) → ℕ → Bool
is_full connections conn =
    is_none (map.get connections conn) && nat_le most_connections (map.len connections)

abbrev pub closed_as_busy : State → ℕ → Effect
closed_as_busy s conn =
    record {
      said = record { items = Close conn ∷ []; line = codes "http busy" };
      commit = [];
      after = s;
    }

-- the bytes so far say this, and the office does what it asks
pub record ByMeaning (s : State) (conn : ℕ) (bytes : List ℕ) (effect : Effect) : Type 0 where
  pub meaning : Meaning
  pub says : RequestIs bytes meaning
  pub does : effect ≡ by_meaning s conn bytes meaning

abbrev pub TakesPiece : Bool → State → ℕ → List ℕ → Effect → Type 0
TakesPiece true s conn piece effect = effect ≡ closed_as_busy s conn
TakesPiece false s conn piece effect = ByMeaning s conn (heard_of s.held conn ++ piece) effect

-- a piece of a connection came
abbrev pub PieceDid : State → ℕ → List ℕ → Effect → Type 0
PieceDid s conn piece effect = TakesPiece (is_full s.held.connections conn) s conn piece effect

-- a connection ended by itself
abbrev pub ClosedDid : State → ℕ → Effect → Type 0
ClosedDid s conn effect = effect ≡ only_line (close_connection s conn) (codes "http closed")

-- the status line of an answer without a body, its fields and the empty line (RFC 9112, sections 4,
-- 6.2 and 9.6)
abbrev pub line_end : List ℕ
line_end = 13 ∷ 10 ∷ []

abbrev pub bare_reply : List ℕ → List ℕ
bare_reply status =
    codes "HTTP/1.1 " ++ status ++ line_end ++ codes "Content-Length: 0" ++ line_end
    ++ codes "Connection: close" ++ line_end ++ line_end

-- 503: memory was wanted; 500: the keeper of the tables failed (RFC 9110, section 15.6)
abbrev pub no_memory_reply : List ℕ
no_memory_reply = bare_reply (codes "503 Service Unavailable")

abbrev pub no_keeper_reply : List ℕ
no_keeper_reply = bare_reply (codes "500 Internal Server Error")

-- The office couldn't act on a piece: the connection is answered, closed and forgotten, and all
-- else is as before.
abbrev pub PieceFailed : State → ℕ → List ℕ → List ℕ → Effect → Type 0
PieceFailed s conn bytes line effect =
    effect
    ≡ record {
      said = record { items = answer_and_close conn bytes; line = line };
      commit = [];
      after = close_connection s conn;
    }
