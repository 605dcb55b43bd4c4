use Rattle.std.proofs.Common.{length}
use Rattle.krb_structs.specs.Session.{IsExpect}
use Rattle.krb_structs.proofs.Answering.{made_or_memory, new_answer}
use Rattle.krb_structs.proofs.wipeable_opener.WipeableOpener.new.Goals as goal

pub returns-clause-answer : goal.returns-clause-answer
returns-clause-answer c =
    let told = c.args.told.now in let n = length c.args.key.now in
    made_or_memory c.args.etype n (IsExpect c.args.told.now) told.mode told.sender.len told.receiver.len
    (new_answer c.args.etype n (IsExpect c.args.told.now) told.mode told.sender.len told.receiver.len 0 c.ranges.etype c.in_ok-opener.ensures.answer)
