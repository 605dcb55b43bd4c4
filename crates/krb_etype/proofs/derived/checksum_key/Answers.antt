use Rattle.std.proofs.Common.{◌∙◌, List, ℕ, subst}
use Rattle.krb_keys.specs.MacKey.{HoldsKey}
use Rattle.krb_etype.proofs.Constants.{checksum_folded, is_dk}
use Rattle.krb_etype.proofs.derived.checksum_key.Goals as goal

pub returns : goal.returns
returns c =
    subst (λ (key : List ℕ). HoldsKey c.ready.result key) (c.derived.ensures ∙ is_dk c.args.base.now _ 15 0x99 checksum_folded) c.ready.ensures
