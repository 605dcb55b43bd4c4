-- A receipt of C's.
use Rattle.std.specs.Prelude.{Option, Some, None}
use Rattle.krb_carry.specs.declared.receipt.Receipt.{Receipt}
use Rattle.krb_engine.specs.declared.sending.Asks.{Asks}
use Rattle.krb_carrier_structs.specs.declared.receipt.KrbReceipt.{KrbReceipt}
use Rattle.krb_carrier_structs.specs.Numbers.{told_asks}

abbrev pub receipt_of : KrbReceipt → Receipt
receipt_of r = record { number = r.number; history = r.history }

-- with what it asks for
abbrev pub receipt_with : Receipt → Option Asks → Option (Receipt × Asks)
receipt_with receipt None = None
receipt_with receipt (Some asks) = Some (receipt, asks)

-- the receipt that the struct tells, if it tells one
abbrev pub told_receipt : KrbReceipt → Option (Receipt × Asks)
told_receipt r = receipt_with (receipt_of r) (told_asks r.asks)
