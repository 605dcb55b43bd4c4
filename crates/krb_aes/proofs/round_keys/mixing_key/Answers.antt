use Rattle.std.proofs.Common.{length, ap, ◌∙◌}
use Rattle.krb_aes.specs.Rounds.{rows_shifted, columns_raised, round_key}
use Rattle.krb_aes.proofs.RoundKeyLemmas.{rows_shifted-round_key, nibbles_bare}
use Rattle.krb_aes.proofs.round_keys.mixing_key.Goals as goal

pub returns : goal.returns
unfolding rows_shifted columns_raised round_key
returns c =
    let e = c.arranged.ensures (λ b. b) (round_key c.args.w.now c.args.n) (c.key_bytes_at.ensures ∙ rows_shifted-round_key c.args.w.now c.args.n) in
    nibbles_bare c.arranged.result _ c.to_nibbles.result (ap length e) e c.to_nibbles.ensures
