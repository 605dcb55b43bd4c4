use Rattle.std.proofs.Common.{rules, to_z-of_z, SFits, w32}
use Rattle.krb_commands.specs.Printed.{body_text}
use Rattle.krb_commands.proofs.TextLemmas.{formatted, safe_joined}
use Rattle.krb_commands.proofs.text.safe_line.Goals as goal

pub returns : goal.returns
returns c =
    let pvno : SFits w32 c.args.m.now.pvno = search rules in
    let msg_type : SFits w32 c.args.m.now.msg_type = search rules in
    let cksum_type : SFits w32 c.args.m.now.cksum_type = search rules in
    formatted c.format.result _ _ c.format.ensures.ok
    (rw (to_z-of_z pvno, to_z-of_z msg_type, c.in_ok-body.ensures, c.in_ok-cksum.ensures, to_z-of_z cksum_type)
    (safe_joined _ _ (body_text c.args.m.now.body) _ _))
