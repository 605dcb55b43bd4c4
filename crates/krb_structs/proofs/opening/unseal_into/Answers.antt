use Rattle.std.proofs.Common.{Some}
use Rattle.krb_structs.proofs.Answering.{unseals}
use Rattle.krb_structs.proofs.opening.unseal_into.Goals as goal

pub returns : goal.returns
returns c =
    let put = c.put_user_data.ensures in
    unseals (Some c.args.opener.now) c.args.number c.args.at.now c.args.frame.now c.args.out.now c.put_user_data.new.out c.in_ok-user_data.user_data c.put_user_data.result
    c.in_ok-user_data.ensures.ready c.in_ok-user_data.ensures.opened put.written put.size put.rest put.kept put.fits put.room
