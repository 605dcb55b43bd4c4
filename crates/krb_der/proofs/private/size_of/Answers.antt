use Rattle.std.proofs.Common.{[]}
use Rattle.krb_der.specs.declared.private.PrivMsg.{PrivMsg}
use Rattle.krb_der.proofs.ExactSizes.{private_size_is}
use Rattle.krb_der.proofs.private.size_of.Goals as goal

pub returns : goal.returns
returns c =
    let m : PrivMsg = record { pvno = c.args.pvno.now; msg_type = c.args.msg_type.now; etype = c.args.etype.now; kvno = c.args.kvno; cipher = [] } in
    private_size_is m c.args.cipher _ _ _ _ c.encrypted_fields_size-encrypted.ensures.value c.fields_size_around.ensures.value c.size_around.ensures.value c.size_around-2.ensures.value
