use Rattle.std.proofs.Common.{◌≡◌, None, arith}
use Rattle.std.proofs.lemmas.Grind.{common_steps}
use Rattle.krb_job.specs.Values.{hex_of}
use Rattle.krb_job.specs.Address.{address_named}
use Rattle.krb_job.proofs.FailLemmas.{err_within}
use Rattle.krb_job.proofs.address.address_named.Goals as goal

pub returns-in_err-bytes : goal.returns-in_err-bytes
returns-in_err-bytes c =
    let passes : hex_of 0 32 c.in_ok-kind.digits.now ≡ None → address_named c.args.text.now ≡ None = λ h. grind (arith, common_steps, h) in
    err_within (λ a. a) _ c.in_err-bytes.field-0.0 (hex_of 0 32 c.in_ok-kind.digits.now) (address_named c.args.text.now) c.args.place c.from_residual-in_err-bytes.ensures passes c.in_err-bytes.ensures
