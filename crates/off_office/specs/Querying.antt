-- What comes of a relay's query.
use Rattle.std.specs.Prelude.{◌≡◌, List, ℕ, Result, MatchResult}
use Rattle.off_defs.specs.State.{Tables, Said}
use Rattle.off_query_rules.specs.Answers.{query_step}
use Rattle.off_query_rules.specs.declared.words.QueryWord.{QueryWord}
use Rattle.off_book.specs.Dhcp.{query_said, query_line}
use Rattle.off_outside.specs.declared.keeper.KeepErr.{KeepErr}
use Rattle.off_outside.specs.KeeperSeen.{KeeperSeen}
use Rattle.off_outside.specs.KeeperCalls.{Reads, NotDone}
use Rattle.off_office.specs.Desk.{Desk}
use Rattle.off_office.specs.Conditions.{Mirrors}

-- what is said is the book's answer at the office's moment, where the office mirrors the tables
abbrev pub SaysAnswer : List ℕ → Desk → Said → Tables → Type 0
SaysAnswer query desk said tables =
    Mirrors desk tables → said ≡ query_said (query_step tables desk.held.now query)

-- the tables were read, and nothing was written
pub record DidQuery (query : List ℕ) (desk : Desk) (said : Said) (old new : KeeperSeen) : Type 0
  where
    pub reads : Reads (SaysAnswer query desk said) old new
    -- its line has a word of a query, whatever the tables
    pub word : QueryWord
    pub says : said.line ≡ query_line word

-- or it couldn't be answered, and the tables are as before
abbrev pub AnswersQuery : Result (Unit {0}) KeepErr → List ℕ → Desk → Said → KeeperSeen → KeeperSeen
    → Type 0
AnswersQuery result query desk said old new =
    MatchResult result (λ _. DidQuery query desk said old new) (λ err. NotDone err old new)

-- and the office keeps what it kept
abbrev pub ServesQuery : Result (Unit {0}) KeepErr → List ℕ → Desk → Desk → Said → KeeperSeen
    → KeeperSeen → Type 0
ServesQuery result query before after said old new =
    (after ≡ before) × AnswersQuery result query before said old new
