use Rattle.krb_carry.proofs.StoreLemmas.{first_take_effect, effects_prefix, whole_where_closed, quiet_after, one_for_number, blind_repeats}
use Rattle.krb_carry.proofs.TwiceLemmas.{one_receiver}
use Rattle.krb_carry.proofs.store.store_laws.Goals as goal

pub returns : goal.returns
returns c = record {
  first = λ sealer records attempts stored are each leads. first_take_effect sealer records are attempts stored each leads;
  texts = λ sealer records attempts stored are each leads. effects_prefix sealer records are stored (first_take_effect sealer records are attempts stored each leads);
  whole = λ sealer records attempts stored are each leads. whole_where_closed sealer records are stored (first_take_effect sealer records are attempts stored each leads);
  closed = λ sealer records attempts old new each closed leads. quiet_after sealer records attempts old new each closed leads;
  number = λ sealer records attempts others stored other are each leads them lead.
      one_for_number sealer records are stored other (first_take_effect sealer records are attempts stored each leads) (first_take_effect sealer records are others other them lead);
  blind = blind_repeats;
  met = one_receiver;
}
