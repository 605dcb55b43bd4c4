use Rattle.std.proofs.Common.{ℕ, List, bit_xor, ap, sym, ◌∙◌, arith}
use Rattle.std.proofs.lemmas.List.{take_all}
use Rattle.std.proofs.lemmas.Simd.{length-zip2, put_chunk_whole}
use lib.Lanes.{zip2}
use Rattle.krb_aes.specs.InverseCipher.{inv_cipher}
use Rattle.krb_aes.specs.Stealing.{xor_block}
use Rattle.krb_aes.proofs.Rounds.{xored}
use Rattle.krb_aes.proofs.inverse_cipher.unchain.Goals as goal

pub returns-clause-last : goal.returns-clause-last
returns-clause-last c = take_all 16 c.args.part.now (omega arith)

pub returns-clause-written : goal.returns-clause-written
returns-clause-written c = λ w k.
    let o = c.decrypt-opened.result in
    let lo = c.decrypt-opened.ensures.size in
    put_chunk_whole c.args.part.now (zip2 bit_xor o c.args.state) (c.requires.whole ∙ sym (length-zip2 bit_xor o c.args.state (lo ∙ sym c.fits-state.0) ∙ lo))
    ∙ xored o c.args.state lo c.fits-state.0
    ∙ ap (λ (x : List ℕ). xor_block x c.args.state) (c.decrypt-opened.ensures.value w k ∙ ap (inv_cipher w) (take_all 16 c.args.part.now (omega arith)))
