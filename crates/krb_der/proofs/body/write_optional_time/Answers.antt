use Rattle.std.proofs.Common.{◌≡◌, ◌++◌, ℕ, List, [], ◌∷◌, refl, sym, ap, ◌∙◌, append_assoc}
use Rattle.std.proofs.lemmas.Result.{on_ok_weaker}
use Rattle.krb_tlv.specs.Length.{length_octets}
use Rattle.krb_tlv.specs.Element.{header, tagged, optional}
use Rattle.krb_time.specs.Time.{kerberos_time}
use Rattle.krb_der.specs.KerberosTime.{time}
use Rattle.krb_der.proofs.body.write_optional_time.Goals as goal

-- what stands before the text of a second
in_pieces : (tag s : ℕ) → tagged tag (time s) ≡ (tag ∷ 17 ∷ 0x18 ∷ 15 ∷ []) ++ kerberos_time s
unfolding tagged header length_octets kerberos_time
in_pieces tag s = refl

joined : (tag s : ℕ) (s0 s1 s2 text : List ℕ) → s1 ≡ s0 ++ (tag ∷ 17 ∷ 0x18 ∷ 15 ∷ []) → text ≡ kerberos_time s → s2 ≡ s1 ++ text → s2 ≡ s0 ++ tagged tag (time s)
joined tag s s0 s1 s2 text first is second =
    rw (second, first, is, in_pieces tag s) (append_assoc s0 (tag ∷ 17 ∷ 0x18 ∷ 15 ∷ []) (kerberos_time s))

pub returns-in_ok-put-in-Some : goal.returns-in_ok-put-in-Some
returns-in_ok-put-in-Some c =
    let s = c.in-Some.secs in
    let is = c.in_ok-put-in-Some.ensures in
    on_ok_weaker c.put-in-Some.result
    (λ e. joined c.args.tag s c.args.out.now c.put.new.self c.put-in-Some.new.self c.kerberos_time.result is c.kerberos_time.ensures e
    ∙ ap (λ o. c.args.out.now ++ optional c.args.tag time o) (sym c.in-Some.is)) c.put-in-Some.ensures
