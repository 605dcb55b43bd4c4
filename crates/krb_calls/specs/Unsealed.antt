-- What C seals a message from.
use Rattle.std.specs.Prelude.{ℕ, List}
use Rattle.krb_bulk.specs.declared.unsealed.Unsealed.{Unsealed}
use Rattle.krb_structs.specs.Moment.{micros_of}
use Rattle.krb_calls.specs.declared.unsealed.KrbUnsealed.{KrbUnsealed}

abbrev pub unsealed_of : KrbUnsealed → Unsealed
unsealed_of m =
    record { user_data = m.user_data; at = micros_of m.at; confounder = m.confounder }

abbrev pub confounder_of : Unsealed → List ℕ
confounder_of m = m.confounder
