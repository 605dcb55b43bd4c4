use Rattle.std.proofs.Common.{◌∙◌, List, ℕ, subst}
use Rattle.krb_keys.specs.MacKey.{HoldsKey}
use Rattle.krb_etype.proofs.Constants.{encryption_folded, integrity_folded, is_dk}
use Rattle.krb_etype.proofs.derived.private_keys.Goals as goal

pub returns-clause-integrity : goal.returns-clause-integrity
returns-clause-integrity c =
    subst (λ (key : List ℕ). HoldsKey c.ready.result key) (c.derive_folded-integrity.ensures.value ∙ is_dk c.args.base.now _ 13 0x55 integrity_folded) c.ready.ensures

pub returns-clause-encryption : goal.returns-clause-encryption
returns-clause-encryption c = c.derive_folded-encryption.ensures.value ∙ is_dk c.args.base.now _ 13 0xAA encryption_folded
