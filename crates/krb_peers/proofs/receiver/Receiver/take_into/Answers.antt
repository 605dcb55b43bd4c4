-- The answer is the verdict, and what follows is what a verdict leaves.
use Rattle.std.proofs.Common.{◌≡◌, Ok, Err, subst, rules}
use Rattle.krb_base.specs.Bytes.{AreBytes}
use Rattle.krb_record.specs.Record.{is_close}
use Rattle.krb_peers.specs.Verdicts.{Verdict, IsVerdict, record_of}
use Rattle.krb_peers.proofs.ReceiveLemmas.{received, received_refusal, verdict_is}
use Rattle.krb_peers.proofs.LoggedLemmas.{logs_next}
use Rattle.krb_peers.proofs.receiver.Receiver.take_into.Goals as goal

pub returns-in_ok-note-in-Ok : goal.returns-in_ok-note-in-Ok
returns-in_ok-note-in-Ok c =
    let bytes : AreBytes c.args.frame.now = record { small = λ i. (c.type_inv.frame i).fits } in
    let close : c.is_close-close.result ≡ is_close (record_of c.in-Ok.delivery) = search rules in
    let P : Verdict → Type 0 = λ v. IsVerdict c.args.self.now.opener c.args.self.now.demand c.args.now c.args.frame.now v in
    let told : P (Ok c.in-Ok.delivery) = subst P c.in-Ok.is c.in_ok-verdict.ensures.verdict in
    let is = received c.args.self.now c.args.log.now c.args.lane c.args.now c.args.frame.now bytes c.in-Ok.delivery c.is_close-close.result c.advance.new.self c.note.new.self told close c.advance.ensures c.in_ok-note-in-Ok.ensures.ok in
    let right = verdict_is c.args.self.now c.args.now c.args.frame.now bytes in
    record {
      verdict = right;
      receiver = is.receiver_is;
      log = is.log_is;
      unchanged = tt;
      unwritten = tt;
      logged = logs_next c.args.self.now c.args.log.now c.args.lane c.args.now c.args.frame.now c.advance.new.self c.note.new.self right is.receiver_is is.log_is;
    }

pub returns-in_ok-note-in-Err : goal.returns-in_ok-note-in-Err
returns-in_ok-note-in-Err c =
    let bytes : AreBytes c.args.frame.now = record { small = λ i. (c.type_inv.frame i).fits } in
    let P : Verdict → Type 0 = λ v. IsVerdict c.args.self.now.opener c.args.self.now.demand c.args.now c.args.frame.now v in
    let told : P (Err c.in-Err.refusal) = subst P c.in-Err.is c.in_ok-verdict.ensures.verdict in
    let is = received_refusal c.args.self.now c.args.log.now c.args.lane c.args.now c.args.frame.now bytes c.in-Err.refusal c.note-in-Err.new.self told c.in_ok-note-in-Err.ensures.ok in
    let right = verdict_is c.args.self.now c.args.now c.args.frame.now bytes in
    record {
      verdict = right;
      receiver = is.receiver_is;
      log = is.log_is;
      unchanged = tt;
      unwritten = tt;
      logged = logs_next c.args.self.now c.args.log.now c.args.lane c.args.now c.args.frame.now c.args.self.now c.note-in-Err.new.self right is.receiver_is is.log_is;
    }
