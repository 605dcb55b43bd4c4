use Rattle.krb_core.proofs.RelayedClaims.{headline_holds, lane_holds, order_holds, ended_holds, sents_hold}
use Rattle.krb_core.proofs.relayed.stepped_laws.Goals as goal

pub returns : goal.returns
returns c = record {
  headline = λ lanes capacity turns relay h. headline_holds lanes capacity turns relay h;
  lanes = λ lanes capacity turns relay h. lane_holds lanes capacity turns relay h;
  order = λ lanes capacity turns relay h. order_holds lanes capacity turns relay h;
  ended = λ lanes capacity turns relay h. ended_holds lanes capacity turns relay h;
  sents = λ lanes capacity turns relay h. sents_hold lanes capacity turns relay h;
}
