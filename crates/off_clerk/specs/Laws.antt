-- What holds of requests and replies.
use Rattle.std.specs.Prelude.{◌≡◌, ℕ, IsTrue, Ok}
use Rattle.off_base.specs.declared.macs.Mac.{Mac}
use Rattle.off_defs.specs.declared.keys.Key.TheVariants as key
use Rattle.off_defs.specs.declared.tables.Modem.{Modem}
use Rattle.off_defs.specs.declared.tables.Subscriber.{Subscriber}
use Rattle.off_defs.specs.declared.tables.Row.TheVariants as row
use Rattle.off_orders.specs.declared.shown.ShownRow.TheVariants as seen
use Rattle.off_orders.specs.declared.orders.Command.TheVariants.{PutSubscriber, PutModem}
use Rattle.off_rows.specs.RowBytes.{RowRanged}
use Rattle.off_account_rules.specs.Rows.{subscriber_fits}
use Rattle.off_clerk_rules.specs.Commands.{put_read}
use Rattle.off_clerk_rules.specs.Replies.{row_text}

-- what a clerk is shown of a subscriber or a modem is a body that puts the same row
pub record ShownReadBack : Type 0 where
  pub subscriber :
      (number : ℕ) (held : Subscriber) → RowRanged (row.Subscriber held) →
      IsTrue (subscriber_fits held)
      → put_read (key.Subscriber number) (row_text (seen.Subscriber held))
      ≡ Ok (PutSubscriber number held)
  pub modem :
      (mac : Mac) (held : Modem) → RowRanged (row.Modem held) →
      put_read (key.Modem mac) (row_text (seen.Modem held)) ≡ Ok (PutModem mac held)
