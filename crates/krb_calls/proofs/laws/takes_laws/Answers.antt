use Rattle.krb_calls.proofs.NumberLemmas.{its_number, last_number}
use Rattle.krb_calls.proofs.laws.takes_laws.Goals as goal

pub returns : goal.returns
returns c = record {
  numbers = λ old at fs before old_out new told new_out same h. (
    last_number old at fs before old_out new told new_out same h,
    λ k t is accepted. its_number old at fs before old_out new told new_out k t same h is accepted,
  );
}
