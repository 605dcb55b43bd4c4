use Rattle.krb_seal.proofs.FrameSizes.{safe_size_of}
use Rattle.krb_seal.proofs.frame.safe_frame_size.Goals as goal

pub returns : goal.returns
returns c = safe_size_of c.args.etype c.args.draft.now c.args.len c.size_with.result c.requires.draft c.size_with.ensures
