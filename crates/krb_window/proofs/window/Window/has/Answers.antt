use Rattle.std.proofs.Common.{◌-◌, ◌<◌, arith, tests}
use Rattle.std.proofs.lemmas.Nat.{one_shl, pow_pos}
use Rattle.std.proofs.lemmas.Nat.Bits.{and_pow}
use Rattle.krb_window.proofs.window.Window.has.Goals as goal

pub returns : goal.returns
returns c =
    let k = 63 - c.args.back in
    let small : k < 64 = omega arith in
    grind (arith, tests, one_shl k 64 small, and_pow c.args.self.now.taken k, pow_pos k)
