use Rattle.std.proofs.Common.{◌+◌, ◌<◌, ◌≤◌, length, drop, [], ◌∙◌, subst, sym, arith}
use Rattle.std.proofs.Math.ListN.{drop_of_length-le}
use Rattle.krb_seal.specs.Opens.{OpenerState}
use Rattle.krb_calls.specs.declared.frame.KrbFrame.{KrbFrame}
use Rattle.krb_calls.specs.Codes.{AreCoded}
use Rattle.krb_calls.proofs.CodeLemmas.{next_coded, part_is}
use Rattle.krb_calls.proofs.TakesTurnLemmas.{ends, one_more, within_is}
use Rattle.krb_calls.proofs.takes_many.take_all.Goals as goal

pub take_one-from-requires : goal.take_one-from-requires
take_one-from-requires c =
    record { coded = (next_coded c.opener.result.now c.loop-index.receiver.opener c.args.frames.now c.loop-index.index _ c.next_code-coded.result c.next_code-coded.new.queue.items c.opener.ensures c.loop-index-test.true c.next_code-coded.ensures).0 }

pub loop-index-preserved : goal.loop-index-preserved
loop-index-preserved c =
    let l = c.loop-index in let frames = c.args.frames.now in let one = c.take_one-from in
    let lt : l.index < length frames = c.loop-index-test.true in
    let place : l.index < length l.taken = omega arith in
    let none : KrbFrame = record { bytes = record { ref_ptr = (0, 0); now = [] } } in
    let coded = (next_coded c.opener.result.now l.receiver.opener frames l.index none c.next_code-coded.result c.next_code-coded.new.queue.items c.opener.ensures lt c.next_code-coded.ensures).1 in
    record {
      opener = one.ensures.opener ∙ l.invariant.opener;
      within = within_is l.from one.result l.out one.new.out l.invariant.within one.ensures.within;
      coded = subst (λ (z : OpenerState). AreCoded z (drop (l.index + 1) frames) c.next_code-coded.new.queue.items) (sym one.ensures.opener) coded;
      goes_on = one_more c.args.receiver.now c.args.at.now frames c.args.taken.now c.args.out.now l.receiver one.new.receiver l.index l.from one.result l.taken l.out _ one.new.out _ _ one.new.taken
          lt place l.invariant.within one.ensures.used (part_is l.from l.out) one.ensures.takes l.invariant.goes_on;
    }

pub returns : goal.returns
returns c =
    let l = c.loop-index in
    let over : length c.args.frames.now ≤ l.index = omega arith in
    ends c.args.receiver.now c.args.at.now c.args.frames.now c.args.taken.now c.args.out.now l.receiver l.index l.taken l.from l.out (drop_of_length-le c.args.frames.now over) l.invariant.goes_on
