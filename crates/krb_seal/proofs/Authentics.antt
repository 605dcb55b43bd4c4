-- Opening with demands and without.
use Rattle.std.proofs.Common.{◌≡◌, ℕ, ◌≤◌, ℤ, List, ◌++◌, length, drop, Ok, true, false, not, refl, sym, ap, subst, ◌∙◌, inl, inr, arith, length-append}
use Rattle.std.proofs.lemmas.Bool.{and_from, le-leb}
use Rattle.std.proofs.lemmas.List.{drop_at}
use Rattle.krb_aes.specs.Stealing.{cts}
use Rattle.krb_aes.specs.Keys.{expanded_key}
use Rattle.krb_aes.proofs.StealingLemmas.{length-cts}
use Rattle.krb_base.specs.Limits.{frame_limit}
use Rattle.krb_der.specs.declared.body.Body.{Body}
use Rattle.krb_der.specs.declared.safe.SafeMsg.{SafeMsg}
use Rattle.krb_der.specs.declared.private.PrivMsg.{PrivMsg}
use Rattle.krb_der.specs.declared.message.Message.{Message}
use Rattle.krb_der.specs.declared.message.Message.TheVariants as messages
use Rattle.krb_der.specs.Body.{part}
use Rattle.krb_der.specs.Message.{Spells, SpellsPart}
use Rattle.krb_seal.specs.declared.session.Mode.{Mode}
use Rattle.krb_seal.specs.declared.session.Mode.TheVariants.{Safe, Priv}
use Rattle.krb_seal.specs.declared.session.Session.{Session}
use Rattle.krb_seal.specs.declared.session.Expect.{Expect}
use Rattle.krb_etype.specs.Keys.{encryption_key, tag_of}
use Rattle.krb_etype.specs.Etype.{number_of}
use Rattle.krb_seal.specs.Seals.{Seals, body_of, safe_checksum, sealed_as, sealed_message, sealed_priv, sealed_safe}
use Rattle.krb_seal.specs.Opens.{OpenerState, Read, Decrypt, OpensText, OpensMessage, opener_of, safe_checks, priv_header, body_checks, is_safe}
use Rattle.krb_seal.specs.OpensParts.{OpensPart, frame_checks, text_checks}
use Rattle.krb_seal.specs.Authentic.{Authenticity, GivesBody, AuthenticText, AuthenticMessage, authentic_checks}
use Rattle.krb_seal.specs.Laws.{OpensTheAuthentic, SealedIsAuthentic}
use Rattle.krb_etype.proofs.Etypes.{int_is, own_checksum}
use Rattle.krb_seal.proofs.SealedFrames.{met_all, all_met, encrypts, short_part, bytes_same}
use Rattle.krb_seal.proofs.Checking.{priv_goes_on}

same_body : (a b : Body) → ◌≡◌ {A = Authenticity} (Ok a) (Ok b) → b ≡ a
same_body a b e = cc

-- ---- data come from an authentic body

abbrev pub FromBody : (Authenticity → Type 0) → OpenerState → ℕ → ℕ → List ℕ → Type 0
FromBody Gives o number now user = (b : Body) × Gives (Ok b) × OpensPart o.expect number now b (Ok user)

safe_from : (o : OpenerState) (number now : ℕ) (m : SafeMsg) (user : List ℕ) → OpensMessage o number now (messages.Safe m) (Ok user)
    → FromBody (AuthenticMessage o (messages.Safe m)) o number now user
safe_from o number now m user h =
    let a = met_all (safe_checks o number now m) (λ y. y ≡ Ok m.body.user_data) user h in
    let f = a.0 in let b = f.1.1.1 in (
      m.body,
      all_met (authentic_checks o m) (GivesBody m.body) (Ok m.body) (f.0, (f.1.0, (f.1.1.0, (b.1.1.1.0, tt)))) refl,
      all_met (body_checks o.expect number now m.body) (λ y. y ≡ Ok m.body.user_data) (Ok user) (b.0, (b.1.0, (b.1.1.0, tt))) a.1,
    )

part_from : (o : OpenerState) (number now : ℕ) (bytes user : List ℕ) → Read SpellsPart bytes (OpensPart o.expect number now) (Ok user)
    → FromBody (Read SpellsPart bytes GivesBody) o number now user
part_from o number now bytes user (inl r) = absurd cc
part_from o number now bytes user (inr r) = (r.0, inr (r.0, r.1, refl), r.2)

priv_from : (o : OpenerState) (number now : ℕ) (m : PrivMsg) (user : List ℕ) → OpensMessage o number now (messages.Priv m) (Ok user)
    → FromBody (AuthenticMessage o (messages.Priv m)) o number now user
priv_from o number now m user h =
    let a = met_all (priv_header o.etype o.expect m) (Decrypt o.key m.cipher (OpensText o number now)) user h in
    let d = a.1 in
    let c = met_all (text_checks o.key d.0 d.1) (Read SpellsPart (drop 16 d.0) (OpensPart o.expect number now)) user d.3 in
    let f = part_from o number now (drop 16 d.0) user c.1 in (
      f.0,
      all_met (priv_header o.etype o.expect m) (Decrypt o.key m.cipher (AuthenticText o.key)) (Ok f.0) a.0
          (d.0, d.1, d.2, all_met (text_checks o.key d.0 d.1) (Read SpellsPart (drop 16 d.0) GivesBody) (Ok f.0) c.0 f.1),
      f.2,
    )

message_from : (o : OpenerState) (number now : ℕ) (m : Message) (user : List ℕ) → OpensMessage o number now m (Ok user)
    → FromBody (AuthenticMessage o m) o number now user
message_from o number now (messages.Safe m) user h = safe_from o number now m user h
message_from o number now (messages.Priv m) user h = priv_from o number now m user h

frame_from : (o : OpenerState) (number now : ℕ) (bytes user : List ℕ) → Read Spells bytes (OpensMessage o number now) (Ok user)
    → FromBody (Read Spells bytes (AuthenticMessage o)) o number now user
frame_from o number now bytes user (inl r) = absurd cc
frame_from o number now bytes user (inr r) =
    let f = message_from o number now r.0 user r.2 in
    (f.0, inr (r.0, r.1, f.1), f.2)

-- ---- and an authentic body that passes its checks gives its data

safe_to : (o : OpenerState) (number now : ℕ) (m : SafeMsg) (b : Body) (user : List ℕ) → AuthenticMessage o (messages.Safe m) (Ok b) → OpensPart o.expect number now b (Ok user)
    → OpensMessage o number now (messages.Safe m) (Ok user)
safe_to o number now m b user h p =
    let a = met_all (authentic_checks o m) (GivesBody m.body) b h in
    let f = a.0 in
    let p' = subst (λ (z : Body). OpensPart o.expect number now z (Ok user)) (sym (same_body b m.body a.1)) p in
    let c = met_all (body_checks o.expect number now m.body) (λ y. y ≡ Ok m.body.user_data) user p' in
    let t = c.0 in
    all_met (safe_checks o number now m) (λ y. y ≡ Ok m.body.user_data) (Ok user) (f.0, (f.1.0, (f.1.1.0, (t.0, (t.1.0, (t.1.1.0, (f.1.1.1.0, tt))))))) c.1

message_to : (o : OpenerState) (number now : ℕ) (m : Message) (b : Body) (user : List ℕ) → AuthenticMessage o m (Ok b) → OpensPart o.expect number now b (Ok user)
    → OpensMessage o number now m (Ok user)
message_to o number now (messages.Safe m) b user h p = safe_to o number now m b user h p
message_to o number now (messages.Priv m) b user h p = priv_goes_on o number now m (Ok b) (Ok user) h p

frame_to : (o : OpenerState) (number now : ℕ) (bytes : List ℕ) (b : Body) (user : List ℕ) → Read Spells bytes (AuthenticMessage o) (Ok b) → OpensPart o.expect number now b (Ok user)
    → Read Spells bytes (OpensMessage o number now) (Ok user)
frame_to o number now bytes b user (inl r) p = absurd cc
frame_to o number now bytes b user (inr r) p = inr (r.0, r.1, message_to o number now r.0 b user r.2 p)

pub opens_the_authentic : OpensTheAuthentic
opens_the_authentic o number now bytes user = (
  λ h. (let a = met_all (frame_checks bytes) (Read Spells bytes (OpensMessage o number now)) user h in
      let f = frame_from o number now bytes user a.1 in
      (f.0, all_met (frame_checks bytes) (Read Spells bytes (AuthenticMessage o)) (Ok f.0) a.0 f.1, f.2)),
  λ g. (let a = met_all (frame_checks bytes) (Read Spells bytes (AuthenticMessage o)) g.0 g.1 in
      all_met (frame_checks bytes) (Read Spells bytes (OpensMessage o number now)) (Ok user) a.0 (frame_to o number now bytes g.0 user a.1 g.2)),
)

-- ---- a sealed frame

mode_authentic : (mode : Mode) (etype : ℤ) (key : List ℕ) (s : Session) (x : Expect) (q at : ℕ) (user conf bytes : List ℕ)
    → s.mode ≡ mode → (h : Seals etype key s q user at conf bytes) → s.mode ≡ x.mode
    → AuthenticMessage (opener_of etype key x) (sealed_as mode h.etype key conf (body_of s q user at)) (Ok (body_of s q user at))
mode_authentic Safe etype key s x q at user conf bytes e h g =
    let o : OpenerState = opener_of etype key x in
    let b : Body = body_of s q user at in
    let m : SafeMsg = sealed_safe h.etype key b in
    let is : is_safe x.mode ≡ true = ap is_safe (sym g ∙ e) in
    all_met (authentic_checks o m) (GivesBody b) (Ok b)
    (refl, (and_from _ _ is refl, (own_checksum h.etype etype h.known, (bytes_same (safe_checksum key m), tt)))) refl
mode_authentic Priv etype key s x q at user conf bytes e h g =
    let o : OpenerState = opener_of etype key x in
    let b : Body = body_of s q user at in
    let m : PrivMsg = sealed_priv h.etype key conf b in
    let text : List ℕ = conf ++ part b in
    let is : is_safe x.mode ≡ false = ap is_safe (sym g ∙ e) in
    let spelt : Spells (messages.Priv m) bytes = subst (λ (z : Mode). Spells (sealed_as z h.etype key conf b) bytes) e h.spelt in
    let own : SpellsPart b (part b) = record { in_range = h.body; spelt = refl; short = short_part h.etype key conf b bytes h.confounder spelt } in
    let w : List ℕ = expanded_key (encryption_key key) in
    let enc = encrypts etype key s q at user conf bytes e h in
    let long : 28 ≤ length m.cipher = omega (arith, length-append (cts w text) (tag_of key text), length-cts w text enc.long, enc.long, enc.size) in
    let back : drop 16 text ≡ part b = drop_at conf (part b) 16 h.confounder in
    let plain : AuthenticText key text (tag_of key text) (Ok b) =
    all_met (text_checks key text (tag_of key text)) (Read SpellsPart (drop 16 text) GivesBody) (Ok b) (bytes_same (tag_of key text), tt)
    (subst (λ (z : List ℕ). Read SpellsPart z GivesBody (Ok b)) (sym back) (inr (b, own, refl))) in
    all_met (priv_header o.etype o.expect m) (Decrypt o.key m.cipher (AuthenticText o.key)) (Ok b) (refl, (and_from _ _ (ap not is) refl, (int_is (number_of h.etype) etype h.known, (le-leb 28 (length m.cipher) long, tt)))) (text, tag_of key text, enc, plain)

pub sealed_is_authentic : SealedIsAuthentic
sealed_is_authentic etype key s x q at user conf bytes h g =
    let o : OpenerState = opener_of etype key x in
    all_met (frame_checks bytes) (Read Spells bytes (AuthenticMessage o)) (Ok (body_of s q user at)) (le-leb (length bytes) frame_limit h.spelt.short, tt)
    (inr (sealed_message h.etype key s q user at conf, h.spelt, mode_authentic s.mode etype key s x q at user conf bytes refl h g))
