use Rattle.std.proofs.Common.{◌≡◌, List, [], sym, ap, subst, ◌∙◌}
use Rattle.krb_peers.specs.Order.{Answer, answers_to, first_demand, demand_after}
use Rattle.krb_peers.specs.Accepted.{accepted_of, Accepted}
use Rattle.krb_peers.proofs.OrderLemmas.{demand_after-nil}
use Rattle.krb_peers.proofs.AcceptedLemmas.{accepted_from, accepted_by, follows, follows_alone}
use Rattle.krb_peers.proofs.AcceptedPrefix.{accepted_prefix, accepted_whole, accepted_close_last, texts_prefix}
use Rattle.krb_peers.proofs.laws.accepted_laws.Goals as goal

pub returns-clause-one : goal.returns-clause-one
returns-clause-one c = λ first offers answers.
    let start : answers_to (demand_after (first_demand first) []) offers ≡ answers_to (first_demand first) offers =
    ap (λ d. answers_to d offers) (demand_after-nil (first_demand first)) in (
      λ all. follows_alone first [] offers answers (accepted_from first offers answers all) ∙ start,
      λ is. let P : List Answer → Type 0 = λ z. Accepted first offers z in subst P (start ∙ sym is) (accepted_by first offers _ (follows first [] offers)),
    )

pub returns-clause-prefix : goal.returns-clause-prefix
returns-clause-prefix c = accepted_prefix

pub returns-clause-texts : goal.returns-clause-texts
returns-clause-texts c = λ first records offers answers all carries. texts_prefix (accepted_of offers answers) records (accepted_prefix first records offers answers all carries)

pub returns-clause-whole : goal.returns-clause-whole
returns-clause-whole c = accepted_whole

pub returns-clause-close_last : goal.returns-clause-close_last
returns-clause-close_last c = accepted_close_last
