-- Each code is that of the bytes in its place, under the key in its place.
use Rattle.std.proofs.Common.{◌≡◌, ◌∙◌, ◌<◌, ℕ, List, length, get_or, None, Some, Option, sym, subst, ap, arith}
use Rattle.std.specs.Borrow.{Bor}
use Rattle.krb_digests.specs.Lanes.{message}
use Rattle.krb_digests.proofs.LaneLemmas.{each_message}
use Rattle.krb_keys.specs.BatchMac.{HoldsBatchKey}
use Rattle.krb_keys.specs.declared.batch_mac.BatchMac.{BatchMac}
use Rattle.krb_keys.specs.Hmac.{hmac96}
use Rattle.krb_seal.specs.Covered.{bytes_of}
use Rattle.krb_relay.specs.declared.codes.Keyed.{Keyed}
use Rattle.krb_relay.specs.Codes.{bytes_in}
use Rattle.krb_relay.proofs.OpeningLemmas.{within_default}
use Rattle.krb_relay.proofs.codes.codes_of.Goals as goal

one : (keyed : List (Option Keyed)) (i : ℕ) (d e : Option Keyed) (m : Bor BatchMac) (b : Bor (List ℕ)) (code : List ℕ) (k : Keyed) (key : List ℕ) → i < length keyed
    → ((k : Keyed) → get_or keyed i d ≡ Some k → m.now ≡ k.mac.now) → b.now ≡ bytes_in (get_or keyed i e) → ((other : List ℕ) → HoldsBatchKey m.now other → code ≡ hmac96 other b.now)
    → HoldsBatchKey k.mac.now key → get_or keyed i None ≡ Some k → code ≡ hmac96 key (bytes_of k.covered)
one keyed i d e m b code k key lt mac text made held at =
    let P : BatchMac → Type 0 = λ n. HoldsBatchKey n key in
    made key (subst P (sym (mac k (within_default keyed i d None lt ∙ at))) held) ∙ ap (λ t. hmac96 key t) (text ∙ ap (λ x. bytes_in x) (within_default keyed i e None lt ∙ at))

pub returns : goal.returns
returns c j k key lt at held =
    let keyed : List (Option Keyed) = c.args.keyed.now in
    let size : length keyed ≡ 8 = c.type_inv.keyed in
    let P : ℕ → Type 0 = λ i. get_or keyed i None ≡ Some k → message i c.hmac96_under.result ≡ hmac96 key (bytes_of k.covered) in
    each_message P
    (one keyed 0 c.index-keyed-0.result c.index-keyed-0-2.result c.mac_of.result c.bytes_in.result (message 0 c.hmac96_under.result) k key (omega (arith, size))
    c.mac_of.ensures c.bytes_in.ensures (λ other h. c.hmac96_under.ensures 0 other c.mac_of.result (omega arith) h) held)
    (one keyed 1 c.index-keyed-1.result c.index-keyed-1-2.result c.mac_of-2.result c.bytes_in-2.result (message 1 c.hmac96_under.result) k key (omega (arith, size))
    c.mac_of-2.ensures c.bytes_in-2.ensures (λ other h. c.hmac96_under.ensures 1 other c.mac_of-2.result (omega arith) h) held)
    (one keyed 2 c.index-keyed-2.result c.index-keyed-2-2.result c.mac_of-3.result c.bytes_in-3.result (message 2 c.hmac96_under.result) k key (omega (arith, size))
    c.mac_of-3.ensures c.bytes_in-3.ensures (λ other h. c.hmac96_under.ensures 2 other c.mac_of-3.result (omega arith) h) held)
    (one keyed 3 c.index-keyed-3.result c.index-keyed-3-2.result c.mac_of-4.result c.bytes_in-4.result (message 3 c.hmac96_under.result) k key (omega (arith, size))
    c.mac_of-4.ensures c.bytes_in-4.ensures (λ other h. c.hmac96_under.ensures 3 other c.mac_of-4.result (omega arith) h) held)
    (one keyed 4 c.index-keyed-4.result c.index-keyed-4-2.result c.mac_of-5.result c.bytes_in-5.result (message 4 c.hmac96_under.result) k key (omega (arith, size))
    c.mac_of-5.ensures c.bytes_in-5.ensures (λ other h. c.hmac96_under.ensures 4 other c.mac_of-5.result (omega arith) h) held)
    (one keyed 5 c.index-keyed-5.result c.index-keyed-5-2.result c.mac_of-6.result c.bytes_in-6.result (message 5 c.hmac96_under.result) k key (omega (arith, size))
    c.mac_of-6.ensures c.bytes_in-6.ensures (λ other h. c.hmac96_under.ensures 5 other c.mac_of-6.result (omega arith) h) held)
    (one keyed 6 c.index-keyed-6.result c.index-keyed-6-2.result c.mac_of-7.result c.bytes_in-7.result (message 6 c.hmac96_under.result) k key (omega (arith, size))
    c.mac_of-7.ensures c.bytes_in-7.ensures (λ other h. c.hmac96_under.ensures 6 other c.mac_of-7.result (omega arith) h) held)
    (one keyed 7 c.index-keyed-7.result c.index-keyed-7-2.result c.mac_of-8.result c.bytes_in-8.result (message 7 c.hmac96_under.result) k key (omega (arith, size))
    c.mac_of-8.ensures c.bytes_in-8.ensures (λ other h. c.hmac96_under.ensures 7 other c.mac_of-8.result (omega arith) h) held)
    j lt at
