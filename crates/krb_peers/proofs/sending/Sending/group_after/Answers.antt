-- The first group of what is left, which is there where a text is.
use Rattle.std.proofs.Common.{◌≡◌, ◌<◌, length, drop, take, ap, sym, rules, arith}
use Rattle.std.proofs.lemmas.List.{length-drop}
use Rattle.krb_record.specs.Groups.{IsFirstGroup}
use Rattle.krb_peers.specs.Sender.{Source}
use Rattle.krb_peers.specs.Sending.{source_of}
use Rattle.krb_peers.proofs.SendingLemmas.{first_group_is}
use Rattle.krb_peers.proofs.sending.Sending.group_after.Goals as goal

pub returns : goal.returns
returns g c =
    let source : Source = source_of g.S.Sealer.state c.args.self.now in
    let following : c.texts_after-rest.result.now ≡ drop c.args.passed source.texts = search rules in
    let some : 0 < length c.texts_after-rest.result.now = search rules in
    let long : length c.texts_after-rest.result.now ≡ length (drop c.args.passed source.texts) = ap length following in
    let below : c.args.passed < length source.texts = omega (arith, some, long, length-drop c.args.passed source.texts) in
    let first : IsFirstGroup source.batch (drop c.args.passed source.texts) c.group_end.result = rw following at c.group_end.ensures in
    let cut : c.split_at.result.0.now ≡ take c.group_end.result c.texts_after-rest.result.now = search rules in
    rw (cut, following) (sym (first_group_is source c.args.passed c.group_end.result below first))
