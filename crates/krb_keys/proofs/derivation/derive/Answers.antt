use Rattle.std.proofs.Common.{ap, ◌∙◌}
use Rattle.krb_keys.specs.Nfold.{nfold}
use Rattle.krb_keys.specs.Derivation.{dk, dr}
use Rattle.krb_keys.proofs.derivation.derive.Goals as goal

pub returns-clause-value : goal.returns-clause-value
unfolding dk
returns-clause-value c =
    c.derive_folded-derived.ensures.value ∙ ap (dr c.args.key.now) (c.nfold.ensures ∙ ap (nfold 16) c.constant.ensures)
