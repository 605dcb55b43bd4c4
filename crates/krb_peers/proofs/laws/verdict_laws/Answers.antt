use Rattle.std.proofs.Common.{◌≡◌, ◌+◌, length, arith}
use Rattle.krb_peers.proofs.VerdictLemmas.{right_verdict, one_verdict, verdicts_follow, follow_same, verdicts-push, AreVerdicts-push}
use Rattle.krb_peers.proofs.HeadlineLemmas.{same_frames}
use Rattle.krb_peers.proofs.laws.verdict_laws.Goals as goal

pub returns : goal.returns
returns c = record {
  one = λ opener start now frame v bytes. (
    λ is. one_verdict opener start now frame v bytes is,
    λ same. rw same (right_verdict opener start now frame bytes),
  );
  all = λ opener nows start frames answers bytes. (
    λ are. follow_same opener nows start 0 frames answers bytes are,
    λ same. rw same (verdicts_follow opener nows start 0 frames bytes),
  );
  goes_on = λ opener nows start frames answers frame v are is.
      let zero_more : 0 + length frames ≡ length frames = omega arith in
      AreVerdicts-push opener nows start 0 frames answers frame v are (rw zero_more is);
  next = λ opener nows start frames frame.
      let zero_more : 0 + length frames ≡ length frames = omega arith in
      rw zero_more at (verdicts-push opener nows start 0 frames frame);
  frames = λ source carried some others. same_frames source carried some others;
}
