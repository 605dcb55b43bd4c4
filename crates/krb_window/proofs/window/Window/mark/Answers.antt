use Rattle.std.proofs.Common.{◌-◌, ◌<◌, arith, refl, w64}
use Rattle.std.proofs.lemmas.Nat.Bits.{bit_at_set_same, bit_at_set_other}
use Rattle.krb_window.proofs.window.Window.mark.Goals as goal

pub returns : goal.returns
returns c =
    let k = 63 - c.args.back in
    let small : k < 64 = omega arith in
    record {
      highest = refl;
      set = bit_at_set_same w64 c.args.self.now.taken k small;
      others = λ i other. bit_at_set_other w64 c.args.self.now.taken k small i other;
    }
