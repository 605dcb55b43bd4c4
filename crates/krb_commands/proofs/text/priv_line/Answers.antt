use Rattle.std.proofs.Common.{rules, to_z-of_z, SFits, w32}
use Rattle.krb_commands.proofs.TextLemmas.{formatted, priv_joined}
use Rattle.krb_commands.proofs.text.priv_line.Goals as goal

pub returns : goal.returns
returns c =
    let pvno : SFits w32 c.args.m.now.pvno = search rules in
    let msg_type : SFits w32 c.args.m.now.msg_type = search rules in
    let etype : SFits w32 c.args.m.now.etype = search rules in
    formatted c.format.result _ _ c.format.ensures.ok
    (rw (to_z-of_z pvno, to_z-of_z msg_type, to_z-of_z etype, c.in_ok-kvno.ensures, c.in_ok-cipher.ensures, c.as_slice.ensures)
    (priv_joined _ _ _ _ _ _))
