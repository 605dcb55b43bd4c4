use Rattle.krb_engine.proofs.ReceivingLemmas.{goes_with_the_store, receipts_are_true, accepts_in_turn, refuses_by_number, receipts_are_owed, receipts_leave, closes_are_stored}
use Rattle.krb_engine.proofs.laws.receiving_laws.Goals as goal

pub returns : goal.returns
returns c = record {
  store = goes_with_the_store;
  receipts = receipts_are_true;
  accepts = accepts_in_turn;
  refuses = refuses_by_number;
  owes = receipts_are_owed;
  leaves = receipts_leave;
  closes = closes_are_stored;
}
