use Rattle.std.proofs.Common.{◌≡◌, None, arith}
use Rattle.std.proofs.lemmas.Grind.{common_steps}
use Rattle.krb_base.specs.Limits.{raw_limit}
use Rattle.krb_job.specs.Values.{hex_of}
use Rattle.krb_job.specs.Emission.{emission_named}
use Rattle.krb_job.proofs.TextLemmas.{same_turned}
use Rattle.krb_job.proofs.FailLemmas.{err_within}
use Rattle.krb_job.proofs.emission.emission_named.Goals as goal

pub returns-in_err-bytes : goal.returns-in_err-bytes
unfolding emission_named
returns-in_err-bytes c =
    let digits = c.in-Some-strip_prefix.digits.now in
    let passes : hex_of 0 raw_limit digits ≡ None → emission_named c.args.text.now ≡ None = λ h. grind (arith, common_steps, same_turned, h) in
    err_within (λ e. e) _ c.in_err-bytes.field-0.0 (hex_of 0 raw_limit digits) (emission_named c.args.text.now) c.args.place c.from_residual.ensures passes c.in_err-bytes.ensures
