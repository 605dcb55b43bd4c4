use Rattle.std.proofs.Common.{◌∷◌, ◌≤◌, arith, refl, length}
use Rattle.krb_base.specs.Limits.{user_data_limit}
use Rattle.krb_record.specs.Record.{first_byte_of}
use Rattle.krb_structs.proofs.record.kind_with.Goals as goal

pub returns-then-has-clause-short : goal.returns-then-has-clause-short
returns-then-has-clause-short c =
    let has = c.if-has.ensures.0 refl in
    let user = first_byte_of c.in-Some.kind ∷ c.args.body.now in
    let short : length user ≤ user_data_limit = c.record_laws.ensures.short user has.0 has.2 in
    omega arith
