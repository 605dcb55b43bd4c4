use Rattle.krb_record.specs.Groups.{groups}
use Rattle.krb_record.proofs.GroupLemmas.{groups_are, one_grouping, joined, sizes, single, batches, next_groups, groups_after}
use Rattle.krb_record.proofs.groups.group_laws.Goals as goal

pub returns-clause-some : goal.returns-clause-some
returns-clause-some c = groups_are

pub returns-clause-only : goal.returns-clause-only
returns-clause-only c b texts parts are = one_grouping b texts parts (groups b texts) are (groups_are b texts)

pub returns-clause-joined : goal.returns-clause-joined
returns-clause-joined c b texts = joined b texts (groups b texts) (groups_are b texts)

pub returns-clause-sizes : goal.returns-clause-sizes
returns-clause-sizes c b texts le = sizes b texts (groups b texts) le (groups_are b texts)

pub returns-clause-single : goal.returns-clause-single
returns-clause-single c = single

pub returns-clause-batch : goal.returns-clause-batch
returns-clause-batch c b texts le = batches b texts (groups b texts) le (groups_are b texts)

pub returns-clause-next : goal.returns-clause-next
returns-clause-next c = next_groups

pub returns-clause-following : goal.returns-clause-following
returns-clause-following c = groups_after
