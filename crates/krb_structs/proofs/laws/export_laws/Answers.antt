use Rattle.krb_structs.proofs.ExportLemmas.{one_export}
use Rattle.krb_structs.proofs.laws.export_laws.Goals as goal

pub returns : goal.returns
returns c = one_export
