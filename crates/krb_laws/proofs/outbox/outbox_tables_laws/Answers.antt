use Rattle.krb_carry.specs.Outbox.{new_outbox}
use Rattle.krb_laws.specs.OutboxTables.{empty_tables, sending, Puts, Sends, statements_of}
use Rattle.krb_laws.proofs.ClashLemmas.{happens, last_is_not}
use Rattle.krb_laws.proofs.DatabaseLemmas.{ended}
use Rattle.krb_laws.proofs.OutboxTablesLemmas.{text_act, sending_act, acts_of, holds_none, no_row, one_row}
use Rattle.krb_laws.proofs.RestoredLemmas.{one_each}
use Rattle.krb_laws.proofs.outbox.outbox_tables_laws.Goals as goal

pub returns : goal.returns
returns c = record {
  texts = λ row answer old new ends first outbox holds.
      let it = text_act row first outbox old new holds (ended (statements_of (Puts row)) answer old new ends) in
      (it.after, it.acts, it.holds);
  sendings = λ sent answer old new ends first session sealing outbox seals holds.
      let it = sending_act sent first session sealing outbox old new seals holds (ended (statements_of (Sends sent)) answer old new ends) in
      (it.after, it.acts, it.holds);
  outboxes = λ sealer session deeds tables leads.
      let it = acts_of sealer session deeds (new_outbox sealer) empty_tables tables (holds_none sealer session) leads in
      (it.acts, it.outbox, it.each, it.lead, it.holds);
  one = one_row;
  restored = one_each;
  no_row = λ sent answer old new ends session next once none other. no_row sent session next old new once none other (ended (sending sent) answer old new ends);
  happen = happens;
  last = last_is_not;
}
