use Rattle.std.proofs.Common.{◌∙◌}
use Rattle.krb_aes.proofs.UnstealingLemmas.{chained_alone}
use Rattle.krb_aes.proofs.cipher.encrypt_bytes.Goals as goal

pub returns-clause-value : goal.returns-clause-value
returns-clause-value c = λ w k. chained_alone w c.args.block.now c.chain_all-last.new.text c.chain_all-last.result c.told-block (c.chain_all-last.auto.text ∙ c.told-block) (c.chain_all-last.ensures w k)
