-- How a lane begins.
use Rattle.std.proofs.Common.{◌≡◌, ℕ, suc, true, List, [], ◌∷◌, ◌++◌, length, map, Result, Ok, Err, inr, refl, sym, ap, ap₂, subst, ◌∙◌, arith, append_assoc, append-nil, length-append, replicate, false}
use Rattle.std.proofs.lemmas.List.{map_push, map-append, length-map}
use Rattle.krb_peers.specs.Sending.{source_of}
use Rattle.std.specs.List.{zip}
use Rattle.std.specs.Prelude.{IfErr, IsErrAnd}
use Rattle.krb_base.specs.Limits.{lane_limit}
use Rattle.krb_seal.specs.Sealer.{SealerState}
use Rattle.krb_peers.specs.declared.receiver.Receiving.{Receiving}
use Rattle.krb_peers.specs.declared.sending.Sending.{Sending}
use Rattle.krb_peers.specs.declared.sending.Sent.{Sent}
use Rattle.krb_peers.specs.declared.start.StartError.{StartError}
use Rattle.krb_peers.specs.declared.log.Entry.{Entry}
use Rattle.krb_peers.specs.Log.{new_log, is_closed}
use Rattle.krb_peers.specs.LogState.{LogState}
use Rattle.krb_core.specs.Track.{TrackState}
use Rattle.krb_core.specs.Stepped.{IsRelay}
use Rattle.krb_peers.specs.Ends.{Ends, ends_of}
use Rattle.krb_peers.specs.StartError.{IsReason}
use Rattle.krb_core.specs.Start.{IsBegun, AreBegun, FailsToBegin}

-- one lane more begins
pub AreBegun-push : (capacity : ℕ) (lanes : List Ends) (tracks : List TrackState) (sents : List Sent) (ends : Ends) (track : TrackState) (sent : Sent)
    → AreBegun capacity lanes tracks sents → IsBegun ends capacity track sent → AreBegun capacity (lanes ++ ends ∷ []) (tracks ++ track ∷ []) (sents ++ sent ∷ [])
AreBegun-push capacity [] [] [] ends track sent h b = (b, tt)
AreBegun-push capacity [] [] (x ∷ xs) ends track sent h b = absurd h
AreBegun-push capacity [] (t ∷ ts) sents ends track sent h b = absurd h
AreBegun-push capacity (e ∷ es) [] sents ends track sent h b = absurd h
AreBegun-push capacity (e ∷ es) (t ∷ ts) [] ends track sent h b = absurd h
AreBegun-push capacity (e ∷ es) (t ∷ ts) (x ∷ xs) ends track sent h b = (h.0, AreBegun-push capacity es ts xs ends track sent h.1 b)

-- of a sender and its receiver, as the code holds them
pub lanes_begun : {S : Type 0} (state : S → SealerState) (capacity : ℕ) (lanes : List (Sending S × Receiving)) (tracks : List TrackState) (sents : List Sent) (pair : Sending S × Receiving) (track : TrackState) (sent : Sent)
    → AreBegun capacity (map (ends_of state) lanes) tracks sents → IsBegun (ends_of state pair) capacity track sent → AreBegun capacity (map (ends_of state) (lanes ++ pair ∷ [])) (tracks ++ track ∷ []) (sents ++ sent ∷ [])
lanes_begun state capacity lanes tracks sents pair track sent h b =
    rw (map_push (ends_of state) lanes pair) (AreBegun-push capacity (map (ends_of state) lanes) tracks sents (ends_of state pair) track sent h b)

-- as many lanes as senders
pub record SameLengths (n tracks sents : ℕ) : Type 0 where
  pub tracks_are : tracks ≡ n
  pub sents_are : sents ≡ n

pub AreBegun-length : (capacity : ℕ) (lanes : List Ends) (tracks : List TrackState) (sents : List Sent)
    → AreBegun capacity lanes tracks sents → SameLengths (length lanes) (length tracks) (length sents)
AreBegun-length capacity [] [] [] h = record { tracks_are = refl; sents_are = refl }
AreBegun-length capacity [] [] (x ∷ xs) h = absurd h
AreBegun-length capacity [] (t ∷ ts) sents h = absurd h
AreBegun-length capacity (e ∷ es) [] sents h = absurd h
AreBegun-length capacity (e ∷ es) (t ∷ ts) [] h = absurd h
AreBegun-length capacity (e ∷ es) (t ∷ ts) (x ∷ xs) h =
    let l = AreBegun-length capacity es ts xs h.1 in
    record { tracks_are = ap suc l.tracks_are; sents_are = ap suc l.sents_are }

pub lanes_begun-length : {S : Type 0} (state : S → SealerState) (capacity : ℕ) (lanes : List (Sending S × Receiving)) (tracks : List TrackState) (sents : List Sent)
    → AreBegun capacity (map (ends_of state) lanes) tracks sents → SameLengths (length lanes) (length tracks) (length sents)
lanes_begun-length state capacity lanes tracks sents h =
    rw (length-map lanes (ends_of state)) at (AreBegun-length capacity (map (ends_of state) lanes) tracks sents h)

pub length-zip : {A B : Type 0} (xs : List A) (ys : List B) → length xs ≡ length ys → length (zip xs ys) ≡ length xs
length-zip [] ys e = refl
length-zip (x ∷ xs) [] e = absurd (omega (arith, e))
length-zip (x ∷ xs) (y ∷ ys) e = ap suc (length-zip xs ys (omega (arith, e)))

-- a relay that begins: its log is empty, so nothing is shut
pub is_relay : (tracks : List TrackState) (log : LogState) (sents : List Sent) → length tracks ≡ log.lanes → length sents ≡ length tracks → log.entries ≡ [] → IsRelay tracks log sents
is_relay tracks log sents lanes sealed none = record {
  lanes = lanes;
  sealed = sealed;
  shut = λ lane track there shut. absurd (let e : is_closed lane [] ≡ true = subst (λ (entries : List Entry). is_closed lane entries ≡ true) none shut in cc);
}

-- what is left of two lists that go side by side
pub zip_next : {A B : Type 0} (whole done : List (A × B)) (xs rest : List A) (ys others : List B) (x : A) (y : B) → whole ≡ done ++ zip xs ys → xs ≡ x ∷ rest → ys ≡ y ∷ others
    → whole ≡ (done ++ (x, y) ∷ []) ++ zip rest others
zip_next whole done xs rest ys others x y e a b =
    e ∙ ap₂ (λ l r. done ++ zip l r) a b ∙ sym (append_assoc done ((x, y) ∷ []) (zip rest others))

-- where nothing is left, all went by
pub all_done : {A B : Type 0} (xs rest : List A) (ys others : List B) (done : List (A × B)) → length xs ≡ length ys → zip xs ys ≡ done ++ zip rest others → length rest ≡ length others → length rest ≡ 0
    → length done ≡ length xs
all_done xs rest ys others done same e left none =
    omega (arith, ap length e, length-zip xs ys same, length-append done (zip rest others), length-zip rest others left)

pub whole_done : {A B : Type 0} (whole done : List (A × B)) (rest : List A) (others : List B) → whole ≡ done ++ zip rest others → length rest ≡ 0 → whole ≡ done
whole_done whole done [] others e none = e ∙ append-nil done
whole_done whole done (x ∷ rest) others e none = absurd (omega (arith, none))

-- the log of a relay that begins is empty
pub is_new_log : (log : LogState) (count lanes : ℕ) → log.lanes ≡ count → log.entries ≡ [] → log.ended ≡ replicate lane_limit false → lanes ≡ count → log ≡ new_log lanes
is_new_log log count lanes l e d same =
    ap₂ (λ n es. let z : LogState = record { lanes = n; entries = es; ended = log.ended } in z) (l ∙ sym same) e
    ∙ ap (λ d. let z : LogState = record { lanes = lanes; entries = []; ended = d } in z) d

-- a lane that doesn't begin, after those that do
pub lane_fails : {S : Type 0} (state : S → SealerState) (capacity : ℕ) (lanes before following : List (Sending S × Receiving)) (pair : Sending S × Receiving) (tracks : List TrackState) (sents : List Sent) (lane : ℕ) (error : StartError)
    → lanes ≡ (before ++ pair ∷ []) ++ following → AreBegun capacity (map (ends_of state) before) tracks sents → lane ≡ length before → IsReason (source_of state (pair.0)) lane error
    → FailsToBegin capacity (map (ends_of state) lanes) error
lane_fails state capacity lanes before following pair tracks sents lane error e begun at reason =
    let f = ends_of state in
    let place : lane ≡ length (map f before) = at ∙ sym (length-map before f) in
    inr (record {
      before = map f before;
      ends = f pair;
      following = map f following;
      lanes_are = ap (map f) (e ∙ append_assoc before (pair ∷ []) following) ∙ map-append f before (pair ∷ following);
      tracks = tracks;
      sents = sents;
      begun = begun;
      reason = subst (λ (n : ℕ). IsReason (source_of state (pair.0)) n error) place reason;
    })

pub if_err : {A E : Type 0} (P : E → Type 0) (e : E) (r : Result A E) → IsErrAnd r (λ x. x ≡ e) → P e → IfErr r P
if_err P e (Ok x) h p = absurd h
if_err P e (Err x) h p = subst P (sym h) p
