-- What a clerk is told of a fault: the status of the answer (RFC 9110, section 15), the word of the
-- fault, and where it is.
use Rattle.std.specs.Prelude.{ℕ, ◌==◌, List, ◌++◌, codes, decimal, Option, Some, None, if◌then◌else◌}
use Rattle.off_base.specs.AddressText.{ip_text_of}
use Rattle.off_tree.specs.declared.paths.TreeFault.{TreeFault}
use Rattle.off_tree.specs.declared.paths.TreeFault.TheVariants as tree
use Rattle.off_orders.specs.declared.rules.Rule.{Rule}
use Rattle.off_orders.specs.declared.rules.Rule.TheVariants as rule
use Rattle.off_http.specs.declared.answers.HttpFault.{HttpFault}
use Rattle.off_http.specs.declared.answers.HttpFault.TheVariants as http
use Rattle.off_clerk_rules.specs.declared.faults.ClerkErr.{ClerkErr}
use Rattle.off_clerk_rules.specs.declared.faults.ClerkErr.TheVariants as clerk
use Rattle.off_clerk_rules.specs.declared.faults.Fault.{Fault}
use Rattle.off_clerk_rules.specs.declared.faults.Fault.TheVariants as fault
use Rattle.off_import_rules.specs.Faults.{fault_word, fault_detail, fault_status}
use Rattle.off_clerk_rules.specs.Names.{name_text}

-- an answer: its status, the word in it, and what the fault is about, if that is told
pub record Answer : Type 0 where
  pub status : ℕ
  pub word : List ℕ
  pub about : Option (List ℕ)

abbrev pub answer : ℕ → List ℕ → Option (List ℕ) → Answer
answer status word about = record { status = status; word = word; about = about }

-- a request that can't be read as a command; it's about a field, by its name, or about a row of an
-- import and the column in it
abbrev pub request_answer : ClerkErr → Answer
request_answer clerk.NoPath = answer 404 (codes "no-path") None
request_answer clerk.NoMethod = answer 405 (codes "no-method") None
request_answer clerk.NotJson = answer 400 (codes "not-json") None
request_answer (clerk.Field missing) = answer 400 (codes "field") (Some (name_text missing))
request_answer (clerk.Value wrong) = answer 400 (codes "value") (Some (name_text wrong))
request_answer (clerk.Import f) = answer (fault_status f) (fault_word f) (fault_detail f)

-- what isn't a request
abbrev pub http_answer : HttpFault → Answer
http_answer http.Head = answer 400 (codes "head") None
http_answer http.Body = answer 400 (codes "body") None
http_answer http.TooLong = answer 413 (codes "too-long") None

-- the rules of settings, and the fields of a site, have numbers
abbrev pub tree_number : TreeFault → ℕ
tree_number (tree.UnknownCode path) = 1
tree_number (tree.Length path) = 2
tree_number (tree.Range path) = 3
tree_number (tree.Missing path) = 4
tree_number (tree.Twice path) = 5
tree_number (tree.FlowReference flow) = 6
tree_number (tree.ClassifierReference classifier) = 7
tree_number (tree.TooLong length) = 8

-- A rule of commands that is broken: 404 where there is no such row, 409 where other rows stand
-- against it, 422 where the row itself can't be. It's about what stands against the command:
-- another pool, a leased address, a batch, a rule of settings, a limit, a field.
abbrev pub rule_answer : Rule → Answer
rule_answer rule.NoRow = answer 404 (codes "no-row") None
rule_answer rule.HasModems = answer 409 (codes "has-modems") None
rule_answer rule.ClassInUse = answer 409 (codes "class-in-use") None
rule_answer (rule.PoolOverlap pool) = answer 409 (codes "pool-overlap") (Some (decimal pool))
rule_answer (rule.RelayTaken pool) = answer 409 (codes "relay-taken") (Some (decimal pool))
rule_answer (rule.PoolHasLeases leased) =
    answer 409 (codes "pool-has-leases") (Some (ip_text_of leased.0))
rule_answer (rule.BatchDiffers batch) = answer 409 (codes "batch-differs") (Some (decimal batch))
rule_answer (rule.HubInUse pool) = answer 409 (codes "hub-in-use") (Some (decimal pool))
rule_answer (rule.DeviceOverlap pool) = answer 409 (codes "device-overlap") (Some (decimal pool))
rule_answer rule.NoSubscriber = answer 422 (codes "no-subscriber") None
rule_answer rule.NoClass = answer 422 (codes "no-class") None
rule_answer rule.NoHub = answer 422 (codes "no-hub") None
rule_answer rule.PoolSize = answer 422 (codes "pool-size") None
rule_answer (rule.Tree f) = answer 422 (codes "tree") (Some (decimal (tree_number f)))
rule_answer (rule.Limit kind most) = answer 422 (codes "limit") (Some (decimal most))
rule_answer (rule.Site field) = answer 422 (codes "site") (Some (decimal field))

-- the word of a rule by itself, which imports tell too
abbrev pub rule_word : Rule → List ℕ
rule_word broken = (rule_answer broken).word

abbrev pub word_of : Fault → List ℕ
word_of (fault.Clerk err) = (request_answer err).word
word_of (fault.Http f) = (http_answer f).word
word_of (fault.Rule row broken) = (rule_answer broken).word

abbrev pub status_of : Fault → ℕ
status_of (fault.Clerk err) = (request_answer err).status
status_of (fault.Http f) = (http_answer f).status
status_of (fault.Rule row broken) = (rule_answer broken).status

-- a row of an import comes before what stands against it
abbrev pub detail_of : Fault → Option (List ℕ)
detail_of (fault.Clerk err) = (request_answer err).about
detail_of (fault.Http f) = None
detail_of (fault.Rule row broken) =
    if row == 0 then (rule_answer broken).about else Some (decimal row)

-- the JSON object of a fault. No word and no detail has a character that JSON escapes
abbrev pub with_detail : Option (List ℕ) → List ℕ → List ℕ
with_detail None word = codes "{\"fault\":\"" ++ word ++ codes "\"}"
with_detail (Some detail) word =
    codes "{\"at\":\"" ++ detail ++ codes "\",\"fault\":\"" ++ word ++ codes "\"}"

abbrev pub fault_text : Fault → List ℕ
fault_text f = with_detail (detail_of f) (word_of f)
