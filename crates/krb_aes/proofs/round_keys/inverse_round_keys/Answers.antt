use Rattle.std.proofs.Common.{◌≡◌, ℕ, [], ◌+◌, ◌*◌, ◌%◌, ◌<◌, map, length, ◌∙◌, arith}
use Rattle.std.proofs.lemmas.List.{get_or-set_same, get_or-set_other}
use Rattle.std.proofs.lemmas.List.{length-set}
use Rattle.krb_aes.specs.InverseCipher.{inv_mix_columns}
use Rattle.krb_aes.specs.Nibbles.{inv_affine_nibbles}
use Rattle.krb_aes.specs.Rounds.{rows_shifted, columns_raised, round_key}
use Rattle.krb_aes.proofs.RoundKeyLemmas.{keys_more}
use Rattle.krb_aes.proofs.round_keys.inverse_round_keys.Goals as goal

pub loop-n-preserved : goal.loop-n-preserved
loop-n-preserved c =
    let i = c.loop-n.invariant in
    let k = λ (j : ℕ). map inv_affine_nibbles (rows_shifted (3 * (j + 2) % 4) (columns_raised (inv_mix_columns (round_key c.args.w.now j)))) in
    let room : c.loop-n.n < length c.loop-n.keys = omega (arith, i.0) in (
      length-set c.loop-n.keys c.loop-n.n _ ∙ i.0,
      get_or-set_other c.loop-n.keys c.loop-n.n 0 _ [] (λ e. absurd (omega arith)) ∙ i.1,
      keys_more c.loop-n.keys k c.loop-n.n _ room i.2 c.inverse_key.ensures,
    )

pub returns : goal.returns
returns c =
    let i = c.loop-n.invariant in
    let last : ℕ = 4 * c.args.turns + 2 in
    let all : c.loop-n.n ≡ last = omega arith in
    let room : last < length c.loop-n.keys = omega (arith, i.0) in
    record {
      size = c.requires.size;
      first = get_or-set_same c.loop-n.keys last _ [] room ∙ c.inverse_first_key.ensures;
      mixing = λ n lo hi. get_or-set_other c.loop-n.keys last n _ [] (λ e. absurd (omega arith)) ∙ i.2 n lo (omega arith);
      last = get_or-set_other c.loop-n.keys last 0 _ [] (λ e. absurd (omega arith)) ∙ i.1;
    }
