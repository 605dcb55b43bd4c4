use Rattle.std.proofs.Common.{◌≤◌, ◌+◌, ℕ, length}
use Rattle.krb_bulk.specs.declared.bulk.Bulk.{Bulk}
use Rattle.krb_bulk.specs.Four.{AreFrom}
use Rattle.krb_bulk.specs.BulkInside.{HasInputs, IsDraftAt}
use Rattle.krb_bulk.proofs.BulkLemmas.{if_ok}
use Rattle.krb_bulk.proofs.SafeLemmas.{short_from}
use Rattle.krb_bulk.proofs.bulk.Bulk.four_unsummed.Goals as goal

pub new-requires : goal.new-requires
new-requires c = short_from c.args.self.now c.args.from c.in_ok-drafts.drafts c.requires.from c.in_ok-drafts.ensures

pub returns : goal.returns
returns c =
    if_ok (λ four. (b : Bulk) (from : ℕ) → from + 4 ≤ length b.messages.now → AreFrom (IsDraftAt b) from c.in_ok-drafts.drafts → HasInputs b from four)
    (HasInputs c.args.self.now c.args.from) c.new.result (λ four has. has c.args.self.now c.args.from c.requires.from c.in_ok-drafts.ensures) c.new.ensures
