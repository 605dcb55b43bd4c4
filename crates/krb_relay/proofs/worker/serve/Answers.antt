-- A worker whose End came back has a cause.
use Rattle.std.proofs.Common.{◌≡◌, ap, subst, sym, ◌∙◌, rules, List, ℕ}
use Rattle.krb_peers.specs.Sending.{source_of}
use Rattle.krb_relay.specs.Sent.{Sends}
use Rattle.krb_relay.proofs.SentLemmas.{sends_cut}
use Rattle.krb_relay.proofs.worker.serve.Goals as goal

pub returns : goal.returns
returns g c =
    let source = source_of g.S.Sealer.state c.args.sending in
    let done = c.send_all-sealed.result in
    let same : c.stop.result ≡ c.send_all-sealed.new.tx = search rules in
    let P : List (List ℕ) → Type 0 = λ fs. Sends source done.sealed fs done.cause in
    record {
      lane = ap (λ s. s.lane) same ∙ c.send_all-sealed.ensures.lane;
      sends = sends_cut source done.sealed c.stop.result.frames done.cause c.unwrap_or.result c.unwrap_or.ensures (subst P (ap (λ s. s.frames) (sym same)) c.send_all-sealed.ensures.sends);
    }
