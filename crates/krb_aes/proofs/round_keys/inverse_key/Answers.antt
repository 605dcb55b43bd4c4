use Rattle.std.proofs.Common.{map, ap, sym, ◌∙◌}
use Rattle.krb_aes.specs.Cipher.{sub_bytes, shift_rows}
use Rattle.krb_aes.specs.InverseCipher.{inv_mix_columns}
use Rattle.krb_aes.specs.Nibbles.{inv_affine_nibbles}
use Rattle.krb_aes.specs.Rounds.{rows_shifted, round_key}
use Rattle.krb_aes.proofs.StateLemmas.{AreBytes-sub_bytes, AreBytes-shift_rows}
use Rattle.krb_aes.proofs.Rounds.{AreBytes-round_key}
use Rattle.krb_aes.proofs.RoundKeyLemmas.{no_words, no_key_mixed, undone_key, rows_shifted-shifted}
use Rattle.krb_aes.proofs.round_keys.inverse_key.Goals as goal

pub returns : goal.returns
returns c =
    let w = c.args.w.now in
    let n = c.args.n in
    let s = shift_rows (sub_bytes (round_key w n)) in
    let mixed = c.inv_round_0-mixed.ensures s no_words 0 (AreBytes-shift_rows _ (AreBytes-sub_bytes _ (AreBytes-round_key w n)))
    (c.undo_affine.ensures ∙ ap (map inv_affine_nibbles) (c.substituted_key.ensures ∙ rows_shifted-shifted w n))
    (c.undo_affine-2.ensures ∙ ap (map inv_affine_nibbles) (sym no_key_mixed)) in
    c.arranged.ensures inv_affine_nibbles (inv_mix_columns (round_key w n)) (mixed ∙ ap (λ x. map inv_affine_nibbles (rows_shifted 0 (inv_mix_columns x))) (undone_key w n))
