use Rattle.krb_base.specs.Lane.{empty, after}
use Rattle.krb_base.proofs.LaneLemmas.{after_possible, after_capacity, state_empty, state_after, state_prefix, state_whole}
use Rattle.krb_base.proofs.lane.lane_laws.Goals as goal

pub returns-clause-linked : goal.returns-clause-linked
returns-clause-linked g c n events = (state_after (empty n) events (state_empty n)).linked

pub returns-clause-within : goal.returns-clause-within
returns-clause-within g c n events = (state_after (empty n) events (state_empty n)).within

pub returns-clause-end_last : goal.returns-clause-end_last
returns-clause-end_last g c n events = (state_after (empty n) events (state_empty n)).end_last

pub returns-clause-begins : goal.returns-clause-begins
returns-clause-begins g c n events = state_prefix (after (empty n) events) (state_after (empty n) events (state_empty n))

pub returns-clause-whole : goal.returns-clause-whole
returns-clause-whole g c n events = state_whole (after (empty n) events) (state_after (empty n) events (state_empty n))

pub returns-clause-capacity : goal.returns-clause-capacity
returns-clause-capacity g c n events = after_capacity (empty n) events

pub returns-clause-possible : goal.returns-clause-possible
returns-clause-possible g c = after_possible
