use Rattle.std.proofs.Common.{◌∙◌, List, ℕ, subst}
use Rattle.krb_keys.specs.BatchMac.{HoldsBatchKey}
use Rattle.krb_etype.proofs.Constants.{checksum_folded, is_dk}
use Rattle.krb_etype.proofs.derived.checksum_batch.Goals as goal

pub returns : goal.returns
returns c =
    subst (λ (key : List ℕ). HoldsBatchKey c.batch_ready.result key) (c.derived.ensures ∙ is_dk c.args.base.now _ 15 0x99 checksum_folded) c.batch_ready.ensures
