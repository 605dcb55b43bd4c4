-- Each lane has its code.
use Rattle.std.proofs.Common.{◌≡◌, ◌∙◌, ◌<◌, ℕ, List, [], ◌∷◌, length, inl, inr, get_or, None, Some, Option, refl, sym, subst, ap, arith}
use Rattle.std.specs.Prelude.{IfSome}
use Rattle.std.proofs.lemmas.List.{get_or_past}
use Rattle.krb_digests.specs.Lanes.{message}
use Rattle.krb_digests.proofs.LaneLemmas.{each_message}
use Rattle.krb_keys.specs.BatchMac.{HoldsBatchKey}
use Rattle.krb_keys.specs.Hmac.{hmac96}
use Rattle.krb_seal.specs.declared.coded.Coded.{Coded}
use Rattle.krb_seal.specs.Covered.{bytes_of}
use Rattle.krb_peers.specs.declared.receiver.Receiving.{Receiving}
use Rattle.krb_relay.specs.declared.codes.Keyed.{Keyed}
use Rattle.krb_relay.specs.declared.waiting.Waiting.{Waiting}
use Rattle.krb_relay.specs.Codes.{IsCodedFirst, IsKeyed, coded_by}
use Rattle.krb_relay.proofs.OpeningLemmas.{side}
use Rattle.krb_relay.proofs.codes.codes.Goals as goal

same : (y : Option Coded) (o p : Option Keyed) (code : List ℕ) → y ≡ coded_by o code → o ≡ p → y ≡ coded_by p code
same y o p code is at = is ∙ ap (λ q. coded_by q code) at

one : (r : Receiving) (w : Waiting) (o : Option Keyed) (code : List ℕ) (y : Option Coded) (x : Coded) → y ≡ coded_by o code → IfSome o (IsKeyed r w)
    → ((k : Keyed) (key : List ℕ) → o ≡ Some k → HoldsBatchKey k.mac.now key → code ≡ hmac96 key (bytes_of k.covered)) → y ≡ Some x → IsCodedFirst r w x
one r w None code y x is keyed made at = absurd (let e : None ≡ Some x = sym is ∙ at in cc)
one r w (Some k) code y x is keyed made at =
    let z : Coded = record { covered = k.covered; code = code } in
    let e : Some z ≡ Some x = sym is ∙ at in
    let same : z ≡ x = cc in
    let P : Coded → Type 0 = λ v. IsCodedFirst r w v in
    let there : P z = λ frame rest frames. (keyed.covers frame rest frames, made k _ refl keyed.key) in
    subst P same there

pub returns-clause-codes : goal.returns-clause-codes
returns-clause-codes c lane r w lt x at =
    let rs : List Receiving = c.args.receivings.now in
    let ws : List Waiting = c.args.waiting.now in
    let codes : List (List ℕ) = c.codes_of-codes.result in
    let all : List (Option Coded) = c.coded.result ∷ c.coded-2.result ∷ c.coded-3.result ∷ c.coded-4.result ∷ c.coded-5.result ∷ c.coded-6.result ∷ c.coded-7.result ∷ c.coded-8.result ∷ [] in
    let P : ℕ → Type 0 = λ i. i < length rs → (y : Coded) → get_or all i None ≡ Some y → IsCodedFirst (get_or rs i r) (get_or ws i w) y in
    elim (side lane 8) [
      | inr past ↦ absurd (let e : None ≡ Some x = sym (get_or_past all lane None past) ∙ at in cc)
      | inl low ↦ each_message P
          (λ within y is. one (get_or rs 0 r) (get_or ws 0 w) c.keyed_at.result (message 0 codes) c.coded.result y (same c.coded.result c.take.result c.keyed_at.result (message 0 codes) c.coded.ensures c.take.ensures.value)
          (c.keyed_at.ensures r w within) (λ k key given held. c.codes_of-codes.ensures 0 k key (omega arith) given held) is)
          (λ within y is. one (get_or rs 1 r) (get_or ws 1 w) c.keyed_at-2.result (message 1 codes) c.coded-2.result y (same c.coded-2.result c.take-2.result c.keyed_at-2.result (message 1 codes) c.coded-2.ensures c.take-2.ensures.value)
          (c.keyed_at-2.ensures r w within) (λ k key given held. c.codes_of-codes.ensures 1 k key (omega arith) given held) is)
          (λ within y is. one (get_or rs 2 r) (get_or ws 2 w) c.keyed_at-3.result (message 2 codes) c.coded-3.result y (same c.coded-3.result c.take-3.result c.keyed_at-3.result (message 2 codes) c.coded-3.ensures c.take-3.ensures.value)
          (c.keyed_at-3.ensures r w within) (λ k key given held. c.codes_of-codes.ensures 2 k key (omega arith) given held) is)
          (λ within y is. one (get_or rs 3 r) (get_or ws 3 w) c.keyed_at-4.result (message 3 codes) c.coded-4.result y (same c.coded-4.result c.take-4.result c.keyed_at-4.result (message 3 codes) c.coded-4.ensures c.take-4.ensures.value)
          (c.keyed_at-4.ensures r w within) (λ k key given held. c.codes_of-codes.ensures 3 k key (omega arith) given held) is)
          (λ within y is. one (get_or rs 4 r) (get_or ws 4 w) c.keyed_at-5.result (message 4 codes) c.coded-5.result y (same c.coded-5.result c.take-5.result c.keyed_at-5.result (message 4 codes) c.coded-5.ensures c.take-5.ensures.value)
          (c.keyed_at-5.ensures r w within) (λ k key given held. c.codes_of-codes.ensures 4 k key (omega arith) given held) is)
          (λ within y is. one (get_or rs 5 r) (get_or ws 5 w) c.keyed_at-6.result (message 5 codes) c.coded-6.result y (same c.coded-6.result c.take-6.result c.keyed_at-6.result (message 5 codes) c.coded-6.ensures c.take-6.ensures.value)
          (c.keyed_at-6.ensures r w within) (λ k key given held. c.codes_of-codes.ensures 5 k key (omega arith) given held) is)
          (λ within y is. one (get_or rs 6 r) (get_or ws 6 w) c.keyed_at-7.result (message 6 codes) c.coded-7.result y (same c.coded-7.result c.take-7.result c.keyed_at-7.result (message 6 codes) c.coded-7.ensures c.take-7.ensures.value)
          (c.keyed_at-7.ensures r w within) (λ k key given held. c.codes_of-codes.ensures 6 k key (omega arith) given held) is)
          (λ within y is. one (get_or rs 7 r) (get_or ws 7 w) c.keyed_at-8.result (message 7 codes) c.coded-8.result y (same c.coded-8.result c.take-8.result c.keyed_at-8.result (message 7 codes) c.coded-8.ensures c.take-8.ensures.value)
          (c.keyed_at-8.ensures r w within) (λ k key given held. c.codes_of-codes.ensures 7 k key (omega arith) given held) is)
          lane low lt x at
    ]
