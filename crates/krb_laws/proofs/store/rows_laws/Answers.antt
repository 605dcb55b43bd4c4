use Rattle.krb_carry.specs.Outbox.{stored_records}
use Rattle.krb_carry.specs.Reading.{IsReading}
use Rattle.krb_laws.specs.StoreTables.{stored_in, shard_in}
use Rattle.krb_laws.proofs.HistoryLemmas.{are_histories, are_readings}
use Rattle.krb_laws.proofs.store.rows_laws.Goals as goal

pub returns : goal.returns
returns c = record {
  at_most_once = λ sealer acts outbox each leads session turns tables serves lead.
      let it = are_histories sealer (stored_records outbox) session turns tables serves lead in
      c.delivery_laws.ensures.at_most_once sealer acts outbox each leads (it.0) (stored_in sealer.next session tables) it.1 it.2;
  once = λ sealer acts outbox each leads list shard session items happenings turns tables true_ lead none whole past.
      let it = are_readings sealer (IsReading sealer (stored_records outbox) session items) list shard session turns tables lead in
      c.delivery_laws.ensures.once sealer acts outbox each leads session items happenings (it.0) (shard_in list shard sealer.next session tables) true_ it.1 it.2 none whole past;
}
