-- What a request asks, and what was found for it.
use Rattle.std.specs.Prelude.{◌≡◌, ℕ}
use Rattle.off_base.specs.declared.macs.Mac.{Mac}
use Rattle.off_defs.specs.State.{Transfer}
use Rattle.off_transfer_rules.specs.Requests.{Datagram, ReadRequest, datagram_at, request_for, file_owner}
use Rattle.off_transfer_rules.specs.Transfers.{new_transfer}
use Rattle.off_tftp.specs.declared.requests.Datagram.{Datagram as Received}
use Rattle.off_tftp.specs.declared.requests.Request.{Request}
use Rattle.off_tftp.specs.declared.requests.Grant.{Grant}

-- a datagram as the definitions have it
abbrev pub as_came : Received → Datagram
as_came received = datagram_at received.at.0 received.from received.bytes.now

-- the datagram in which a request came
abbrev pub came_in : Request → Datagram
came_in request = datagram_at request.at.0 request.from request.bytes.now

-- what it asks for
abbrev pub asked_in : Request → ReadRequest
asked_in request = request_for request.name.now request.options

-- the transfer with which it begins
abbrev pub begun_by : Request → Grant → Transfer
begun_by request grant =
    new_transfer (came_in request) (asked_in request) (file_owner grant.modem grant.subscriber) grant.file

-- it was found for this modem of this subscriber
pub record IsFor (modem : Mac) (subscriber : ℕ) (grant : Grant) : Type 0 where
  pub modem_is : grant.modem ≡ modem
  pub subscriber_is : grant.subscriber ≡ subscriber
