use Rattle.std.proofs.Common.{length, ap, ◌∙◌}
use Rattle.krb_aes.proofs.RoundKeyLemmas.{held_start, length-round_key}
use Rattle.krb_aes.proofs.round_keys.inverse_first_key.Goals as goal

pub returns : goal.returns
returns c = held_start c.key_bytes_at.result _ c.undo_affine.result (ap length c.key_bytes_at.ensures ∙ length-round_key c.args.w.now c.args.n) c.key_bytes_at.ensures c.undo_affine.ensures
