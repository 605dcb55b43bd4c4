-- One lane more.
use Rattle.std.proofs.Common.{◌≡◌, ◌<◌, false, List, [], ◌∷◌, ◌++◌, length, slice_index_or, sym, subst, arith, length-append, suc, map, Some, option_map, refl, ap, ap₂, ◌∙◌}
use Rattle.std.specs.Prelude.{All}
use Rattle.std.proofs.lemmas.List.Elements.{All-append}
use Rattle.krb_seal.specs.Sealer.{SealerState}
use Rattle.krb_peers.specs.declared.receiver.Receiving.{Receiving}
use Rattle.krb_peers.specs.declared.sending.Sending.{Sending}
use Rattle.krb_peers.specs.Sending.{source_of, IsSender}
use Rattle.krb_peers.specs.Ends.{Ends, ends_of, lanes_of}
use Rattle.krb_job.specs.SenderKeys.{Sender}
use Rattle.krb_commands.specs.Ends.{AreReady, receiver_of, source_in, ends_with, ends_in}
use Rattle.std.proofs.lemmas.List.{map-append}

All-one : {X : Type 0} (P : X → Type 0) (x : X) → P x → All P (x ∷ [])
All-one P x h k d lt = let zero_is : 0 ≡ k = omega arith in subst (λ n. P (slice_index_or (x ∷ []) n d)) zero_is h

pub ready_more : {S : Type 0} (state : S → SealerState) (sendings sendings-now : List (Sending S)) (receivings receivings-now : List Receiving) (sending : Sending S) (receiving : Receiving)
    → AreReady state sendings receivings → sendings-now ≡ sendings ++ sending ∷ [] → receivings-now ≡ receivings ++ receiving ∷ []
    → IsSender (source_of state sending) → (state sending.sealer).wiped ≡ false → 0 < length receiving.nows.items
    → AreReady state sendings-now receivings-now
ready_more {S = S} state sendings sendings-now receivings receivings-now sending receiving h s-is r-is sender live moments =
    let P : List (Sending S) → Type 0 = λ l. AreReady state l receivings-now in
    let Q : List Receiving → Type 0 = λ l. AreReady state (sendings ++ sending ∷ []) l in
    let same = h.same in
    let grown : AreReady state (sendings ++ sending ∷ []) (receivings ++ receiving ∷ []) = record {
      same = omega (arith, same, length-append sendings (sending ∷ []), length-append receivings (receiving ∷ []));
      senders = All-append (λ x. IsSender (source_of state x)) sendings (sending ∷ []) h.senders (All-one (λ x. IsSender (source_of state x)) sending sender);
      live = All-append (λ x. (state x.sealer).wiped ≡ false) sendings (sending ∷ []) h.live (All-one (λ x. (state x.sealer).wiped ≡ false) sending live);
      moments = All-append (λ x. 0 < length x.nows.items) receivings (receiving ∷ []) h.moments (All-one (λ x. 0 < length x.nows.items) receiving moments);
    } in
    subst P (sym s-is) (subst Q (sym r-is) grown)

-- ---- what the lane is

lanes-push : {S : Type 0} (state : S → SealerState) (sendings : List (Sending S)) (receivings : List Receiving) (sending : Sending S) (receiving : Receiving) → length sendings ≡ length receivings
    → lanes_of state (sendings ++ sending ∷ []) (receivings ++ receiving ∷ []) ≡ lanes_of state sendings receivings ++ ends_of state (sending, receiving) ∷ []
lanes-push state [] [] sending receiving same = refl
lanes-push state [] (r ∷ rs) sending receiving same = absurd (let e = same in omega arith)
lanes-push state (s ∷ ss) [] sending receiving same = absurd (let e = same in omega arith)
lanes-push state (s ∷ ss) (r ∷ rs) sending receiving same = ap (λ l. ends_of state (s, r) ∷ l) (lanes-push state ss rs sending receiving (let e : suc (length ss) ≡ suc (length rs) = same in omega arith))

pub lane_more : {S : Type 0} (state : S → SealerState) (sendings sendings-now : List (Sending S)) (receivings receivings-now : List Receiving) (sending : Sending S) (receiving : Receiving) (sender : Sender) (sealer : SealerState)
    → length sendings ≡ length receivings → sendings-now ≡ sendings ++ sending ∷ [] → receivings-now ≡ receivings ++ receiving ∷ []
    → Some (source_of state sending) ≡ source_in sender sealer → receiving.receiver ≡ receiver_of sender → receiving.nows.items ≡ sender.traffic.nows
    → map Some (lanes_of state sendings-now receivings-now) ≡ map Some (lanes_of state sendings receivings) ++ ends_in sender sealer ∷ []
lane_more state sendings sendings-now receivings receivings-now sending receiving sender sealer same s-is r-is source receiver nows =
    let ends : Some (ends_of state (sending, receiving)) ≡ ends_in sender sealer =
    ap₂ (λ x y. let z : Ends = record { source = source_of state sending; receiver = x; nows = y } in Some z) receiver nows ∙ ap (option_map (ends_with sender)) source in
    ap₂ (λ a b. map Some (lanes_of state a b)) s-is r-is
    ∙ ap (map Some) (lanes-push state sendings receivings sending receiving same)
    ∙ map-append Some (lanes_of state sendings receivings) (ends_of state (sending, receiving) ∷ [])
    ∙ ap (λ o. map Some (lanes_of state sendings receivings) ++ o ∷ []) ends
