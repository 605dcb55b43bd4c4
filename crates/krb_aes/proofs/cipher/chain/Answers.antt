use Rattle.std.proofs.Common.{◌∙◌, ap, sym}
use Rattle.std.proofs.lemmas.Simd.{put_chunk_whole}
use Rattle.krb_aes.specs.Cipher.{cipher}
use Rattle.krb_aes.proofs.Rounds.{chained}
use Rattle.krb_aes.proofs.cipher.chain.Goals as goal

pub returns-clause-value : goal.returns-clause-value
returns-clause-value c = λ w k. c.encrypt-out.ensures.value w k ∙ ap (cipher w) (chained c.args.part.now c.args.state c.requires.whole c.fits-state.0)

pub returns-clause-written : goal.returns-clause-written
returns-clause-written c = put_chunk_whole c.args.part.now c.encrypt-out.result (c.requires.whole ∙ sym c.encrypt-out.ensures.size)
