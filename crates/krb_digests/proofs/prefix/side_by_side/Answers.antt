use Rattle.krb_digests.specs.Lanes.{message}
use Rattle.krb_digests.proofs.LaneLemmas.{five_are}
use Rattle.krb_digests.proofs.prefix.side_by_side.Goals as goal

pub returns : goal.returns
returns c j h =
    rw (
      c.word_of_each.ensures j h,
      c.word_of_each-2.ensures j h,
      c.word_of_each-3.ensures j h,
      c.word_of_each-4.ensures j h,
      c.word_of_each-5.ensures j h,
    ) (five_are (message j c.args.hashes.now) (c.requires j h))
