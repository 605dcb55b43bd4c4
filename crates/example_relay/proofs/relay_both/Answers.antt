-- Each of the two is a sender.
use Rattle.std.specs.Prelude.{All}
use Rattle.std.proofs.Common.{[], ◌∷◌, sym, subst}
use Rattle.std.proofs.lemmas.List.Elements.{All-cons, All-nil}
use Rattle.krb_peers.specs.declared.sending.Sending.{Sending}
use Rattle.krb_peers.specs.Sending.{source_of, IsSender}
use Rattle.example_relay.proofs.relay_both.OwnLists.{own-1}
use Rattle.example_relay.proofs.relay_both.Goals as goal

pub relay-requires-clause-senders : goal.relay-requires-clause-senders
relay-requires-clause-senders g c κs within =
    let P : Sending _ → Type 0 = λ sending. IsSender (source_of (λ s. ((own-1.entry s.vtable).1.state s.value)) sending) in
    let first = c.in_ok-first.first in
    let second = c.in_ok-second.second in
    subst (λ sendings. All P sendings) (sym c.in_ok-sendings.ensures.items)
    (All-cons P first (second ∷ []) c.in_ok-first.ensures (All-cons P second [] c.in_ok-second.ensures (All-nil P)))
