use Rattle.krb_carry.specs.Reading.{IsReading}
use Rattle.krb_laws.specs.StoreTables.{transaction}
use Rattle.krb_laws.proofs.BlindLemmas.{happens, blind_does_not}
use Rattle.krb_laws.proofs.CommittedLemmas.{locks_are_enough}
use Rattle.krb_laws.proofs.DatabaseLemmas.{ended}
use Rattle.krb_laws.proofs.HistoryLemmas.{are_histories, are_readings}
use Rattle.krb_laws.proofs.StoreTablesLemmas.{commits, stays, commits_reading}
use Rattle.krb_laws.proofs.store.store_tables_laws.Goals as goal

pub returns : goal.returns
returns c = record {
  commit = λ batch answer old new ends first session attempt moves. commits batch first session attempt moves old new (ended (transaction batch) answer old new ends);
  alone = λ batch answer old new ends first session alone. stays batch first session alone old new (ended (transaction batch) answer old new ends);
  reading = λ batch answer old new ends list first session reading moves reads. commits_reading batch list first session reading moves reads old new (ended (transaction batch) answer old new ends);
  happen = happens;
  blind = blind_does_not;
  locks = locks_are_enough;
  histories = are_histories;
  readings = λ sealer records items list shard session turns tables leads. are_readings sealer (IsReading sealer records session items) list shard session turns tables leads;
}
