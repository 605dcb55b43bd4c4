use Rattle.krb_seal.specs.Covered.{code_key_of}
use Rattle.krb_calls.proofs.CodeLemmas.{eight_put}
use Rattle.krb_calls.proofs.codes.put_eight.Goals as goal

pub returns : goal.returns
returns c =
    let o = c.args.opener.now in let codes = c.codes_of.result in
    eight_put o c.four_covered-first.result c.four_covered-second.result codes.0 codes.1 c.args.frames.now c.args.queue.now.items c.put_four.new.queue.items c.put_four-2.new.queue.items c.put_four-2.result
    c.requires.frames c.four_covered-first.ensures c.four_covered-second.ensures (c.codes_of.ensures.first (code_key_of o) c.requires.mac) (c.codes_of.ensures.second (code_key_of o) c.requires.mac)
    c.requires.empty c.in_ok-put_four.ensures c.put_four-2.ensures
