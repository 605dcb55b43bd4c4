use Rattle.std.proofs.Common.{◌∙◌, refl}
use Rattle.krb_aes.specs.Rounds.{round_key}
use Rattle.krb_aes.proofs.Rounds.{AreBytes-round_key}
use Rattle.krb_aes.proofs.RoundKeyLemmas.{key_columns, cells-round_key}
use Rattle.krb_aes.proofs.round_keys.key_bytes_at.Goals as goal

pub returns : goal.returns
returns c =
    c.store.ensures (round_key c.args.w.now c.args.n) (AreBytes-round_key c.args.w.now c.args.n) (key_columns c.args.w.now c.args.n _ refl (λ i. (c.type_inv.w i).fits))
    ∙ cells-round_key c.args.w.now c.args.n
