use Rattle.krb_engine.proofs.StreamLemmas.{begins_after_the_close, first_one_begins, own_history_goes_on, in_order, whole_streams}
use Rattle.krb_engine.proofs.stream.stream_laws.Goals as goal

pub returns : goal.returns
returns c = record {
  begins = begins_after_the_close;
  own = own_history_goes_on c.histories_laws.ensures.one;
  order = in_order c.delivery_laws.ensures.at_most_once;
  all = whole_streams;
  first = first_one_begins;
}
