use Rattle.krb_etype.proofs.Constants.{checksum_folded, encryption_folded, integrity_folded}
use Rattle.krb_etype.proofs.derived.folded_constants.Goals as goal

pub returns-clause-checksum : goal.returns-clause-checksum
returns-clause-checksum c = checksum_folded

pub returns-clause-encryption : goal.returns-clause-encryption
returns-clause-encryption c = encryption_folded

pub returns-clause-integrity : goal.returns-clause-integrity
returns-clause-integrity c = integrity_folded
