use Rattle.std.proofs.Common.{◌∙◌}
use Rattle.std.proofs.lemmas.Simd.{put_chunk_whole}
use Rattle.krb_chains.proofs.ChainLemmas.{first_picked, second_picked}
use Rattle.krb_chains.proofs.chains.write_pair.Goals as goal

pub returns-clause-first : goal.returns-clause-first
returns-clause-first c = put_chunk_whole c.args.a.now _ c.requires.first ∙ first_picked c.args.blocks c.fits-blocks.0

pub returns-clause-second : goal.returns-clause-second
returns-clause-second c = put_chunk_whole c.args.b.now _ c.requires.second ∙ second_picked c.args.blocks c.fits-blocks.0
