-- A turn in which a clerk asks for an import, and how it's answered.
use Rattle.std.specs.Prelude.{◌≡◌, ℕ, false, List, ◌++◌, Ok}
use Rattle.off_defs.specs.declared.events.What.TheVariants.{Piece}
use Rattle.off_orders.specs.declared.orders.Command.TheVariants.{Import}
use Rattle.off_orders.specs.declared.orders.ImportRow.{ImportRow}
use Rattle.off_defs.specs.declared.results.Outcome.TheVariants.{Did}
use Rattle.off_defs.specs.declared.tables.Batch.{Batch}
use Rattle.off_defs.specs.declared.tables.ImportKind.{ImportKind}
use Rattle.off_defs.specs.State.{State}
use Rattle.off_http.specs.Reply.{reply}
use Rattle.off_http.specs.Request.{Asked, RequestIs}
use Rattle.off_clerk_rules.specs.Commands.{command_read}
use Rattle.off_book.specs.Http.{heard_of, is_full, answer_and_close}
use Rattle.off_book.specs.Run.{Turn}

-- From this state the turn takes a piece that makes its connection's bytes a request for an import,
-- and the office acts on it. A connection beyond those that may be live is closed unread.
pub record AsksImport (s : State) (turn : Turn) : Type 0 where
  pub conn : ℕ
  pub piece : List ℕ
  pub method : List ℕ
  pub target : List ℕ
  pub body : List ℕ
  pub kind : ImportKind
  pub batch : ℕ
  pub digest : List ℕ
  pub rows : List ImportRow
  pub came : turn.event.what ≡ Piece conn piece
  pub acted : turn.outcome ≡ Did
  pub live : is_full s.held.connections conn ≡ false
  pub asked : RequestIs (heard_of s.held conn ++ piece) (Asked method target body)
  pub read : command_read method target body ≡ Ok (Import kind batch digest rows)

-- the batch was imported with this kind, from a file with this digest
pub record IsSame (kind : ImportKind) (digest : List ℕ) (held : Batch) : Type 0 where
  pub kinds : held.kind ≡ kind
  pub digests : held.digest ≡ digest

-- the connection is answered with a status and a body, and closed
abbrev pub IsAnswered : ℕ → ℕ → List ℕ → Turn → Type 0
IsAnswered conn status body turn = turn.said.items ≡ answer_and_close conn (reply status body)
