-- What opening a sealed frame gives.
use Rattle.std.proofs.Common.{◌≡◌, ℕ, ◌*◌, ◌≤◌, ℤ, true, false, not, List, [], ◌∷◌, ◌++◌, length, drop, Option, Some, None, Result, Ok, refl, sym, ap, subst, ◌∙◌, inl, inr, arith, length-append}
use Rattle.std.specs.List.{concat}
use Rattle.std.specs.Ordering.{int_eq}
use Rattle.std.specs.Str.{bytes_eq}
use Rattle.std.proofs.lemmas.Bool.{and_from, eqb-true, eq-eqb, le-leb}
use Rattle.std.proofs.lemmas.Slice.Eq.{bytes_eq-Decides}
use Rattle.std.proofs.lemmas.List.{drop_at}
use Rattle.krb_aes.specs.Stealing.{cts}
use Rattle.krb_aes.specs.Keys.{expanded_key}
use Rattle.krb_aes.proofs.StealingLemmas.{length-cts}
use Rattle.krb_keys.proofs.HmacLemmas.{length-hmac96}
use Rattle.krb_base.specs.Limits.{frame_limit}
use Rattle.krb_der.specs.declared.address.HostAddress.{HostAddress}
use Rattle.krb_der.specs.declared.body.Body.{Body}
use Rattle.krb_der.specs.declared.private.PrivMsg.{PrivMsg}
use Rattle.krb_der.specs.declared.message.Message.{Message}
use Rattle.krb_der.specs.declared.message.Message.TheVariants as messages
use Rattle.krb_tlv.specs.Tag.{context, application}
use Rattle.krb_tlv.specs.UniversalTag.{sequence_tag, octet_string_tag}
use Rattle.krb_tlv.specs.Element.{tagged, octets, optional, sequence}
use Rattle.krb_tlv.specs.Integer.{integer, natural}
use Rattle.krb_der.specs.Moment.{micros_per_second, moment_of, secs_of, usec_of}
use Rattle.krb_der.specs.Address.{same_address}
use Rattle.krb_der.specs.Body.{part}
use Rattle.krb_der.specs.Private.{private_fields, encrypted_data, encrypted_fields}
use Rattle.krb_der.specs.Message.{private}
use Rattle.krb_der.specs.Message.{message, Spells, SpellsPart}
use Rattle.krb_der.proofs.Grammar.{messages_unique, parts_unique}
use Rattle.krb_tlv.proofs.Readers.{length-tagged}
use Rattle.krb_seal.specs.declared.session.Mode.{Mode}
use Rattle.krb_seal.specs.declared.session.Mode.TheVariants.{Safe, Priv}
use Rattle.krb_seal.specs.declared.session.Session.{Session}
use Rattle.krb_seal.specs.declared.session.Expect.{Expect}
use Rattle.krb_seal.specs.declared.refusal.Refusal.{Refusal}
use Rattle.krb_etype.specs.declared.etype.Etype.{Etype}
use Rattle.krb_etype.specs.Keys.{encryption_key, tag_of, encrypted, IsEncryption}
use Rattle.krb_etype.specs.Etype.{number_of}
use Rattle.krb_seal.specs.Seals.{safe_checksum, body_of, sealed_safe, sealed_priv, sealed_as, sealed_message, sealed, Seals}
use Rattle.krb_seal.specs.Opens.{OpenerState, Passes, Read, Decrypt, OpensText, OpensMessage, opener_of, safe_checks, priv_header, body_checks, receiver_fits, addresses_fit, is_current, is_number, is_safe}
use Rattle.std.specs.Int.{abs_diff}
use Rattle.krb_seal.specs.OpensParts.{Outcome, Checks, OpensPart, frame_checks, text_checks}
use Rattle.krb_seal.specs.Laws.{ReceiverAgrees, Agree, OneFrame, NowhereElse, AtItsNumber}
use Rattle.krb_etype.proofs.Etypes.{one_number, int_is, own_checksum}
use Rattle.krb_seal.proofs.CipherTexts.{one_text}

-- ---- checks that are met

abbrev pub AllMet : Checks → Type 0
AllMet [] = Unit {0}
AllMet ((met, r) ∷ rest) = (met ≡ true) × AllMet rest

-- where data comes out, every check is met
pub met_all : {A : Type 0} (checks : Checks) (Then : Result A Refusal → Type 0) (given : A) → Passes checks Then (Ok given) → AllMet checks × Then (Ok given)
met_all [] Then given p = (tt, p)
met_all ((true, r) ∷ rest) Then given p = let h = met_all rest Then given p in ((refl, h.0), h.1)
met_all ((false, r) ∷ rest) Then given p = absurd cc

pub all_met : {A : Type 0} (checks : Checks) (Then : Result A Refusal → Type 0) (outcome : Result A Refusal) → AllMet checks → Then outcome → Passes checks Then outcome
all_met [] Then outcome h p = p
all_met ((true, r) ∷ rest) Then outcome h p = all_met rest Then outcome h.1 p
all_met ((false, r) ∷ rest) Then outcome h p = absurd (let e : false ≡ true = h.0 in cc)

-- ---- what stands in a sealed message

pub same_data : (a b : List ℕ) → ◌≡◌ {A = Outcome} (Ok a) (Ok b) → a ≡ b
same_data a b e = cc

-- a field is no longer than the fields concat
concat_first : (a : List ℕ) (rest : List (List ℕ)) → length a ≤ length (concat (a ∷ rest))
concat_first a rest = omega (arith, length-append a (concat rest))

concat_rest : (a : List ℕ) (rest : List (List ℕ)) → length (concat rest) ≤ length (concat (a ∷ rest))
concat_rest a rest = omega (arith, length-append a (concat rest))

pub long_cipher : (m : PrivMsg) → length m.cipher ≤ length (private m)
unfolding encrypted_data
long_cipher m =
    let kvno : List ℕ = optional (context 1) natural m.kvno in
    let cipher : List ℕ = tagged (context 2) (octets m.cipher) in
    let fields : List (List ℕ) = encrypted_fields m.etype m.kvno m.cipher in
    let outer : List (List ℕ) = private_fields m in
    let inner : List ℕ = tagged (context 3) (encrypted_data m.etype m.kvno m.cipher) in
    omega (
      arith,
      length-tagged octet_string_tag m.cipher,
      length-tagged (context 2) (octets m.cipher),
      concat_first cipher [],
      concat_rest kvno (cipher ∷ []),
      concat_rest (tagged (context 0) (integer m.etype)) (kvno ∷ cipher ∷ []),
      length-tagged sequence_tag (concat fields),
      length-tagged (context 3) (sequence fields),
      concat_first inner [],
      concat_rest (tagged (context 1) (integer m.msg_type)) (inner ∷ []),
      concat_rest (tagged (context 0) (integer m.pvno)) (tagged (context 1) (integer m.msg_type) ∷ inner ∷ []),
      length-tagged sequence_tag (concat outer),
      length-tagged (application 21) (sequence outer),
    )

pub encrypts : (etype : ℤ) (key : List ℕ) (s : Session) (q at : ℕ) (user conf bytes : List ℕ)
    → s.mode ≡ Priv → Seals etype key s q user at conf bytes
    → IsEncryption key (encrypted key (conf ++ part (body_of s q user at))) (conf ++ part (body_of s q user at)) (tag_of key (conf ++ part (body_of s q user at)))
encrypts etype key s q at user conf bytes e h = record {
  bytes = h.plain e;
  long = omega (arith, h.confounder, length-append conf (part (body_of s q user at)));
  size = length-hmac96 _ (conf ++ part (body_of s q user at));
  image = refl;
}

pub short_part : (etype : Etype) (key conf : List ℕ) (b : Body) (bytes : List ℕ) → length conf ≡ 16 → Spells (messages.Priv (sealed_priv etype key conf b)) bytes → length (part b) ≤ frame_limit
short_part etype key conf b bytes size h =
    let m : PrivMsg = sealed_priv etype key conf b in
    let text : List ℕ = conf ++ part b in
    let w : List ℕ = expanded_key (encryption_key key) in
    let short : length (private m) ≤ frame_limit = subst (λ (z : List ℕ). length z ≤ frame_limit) h.spelt h.short in
    omega (arith, long_cipher m, length-append conf (part b), length-append (cts w text) (tag_of key text), length-cts w text (omega (arith, length-append conf (part b))))

-- ---- no data at another number

number_is : (number q : ℕ) (seq : Option ℕ) → seq ≡ Some q → is_number number seq ≡ true → number ≡ q
number_is number q seq e h =
    let t : is_number number (Some q) ≡ true = subst (λ (y : Option ℕ). is_number number y ≡ true) e h in
    sym (eqb-true q number t)

safe_nowhere : (o : OpenerState) (etype : Etype) (key : List ℕ) (b : Body) (q number now : ℕ) (given : List ℕ) → b.seq ≡ Some q
    → OpensMessage o number now (messages.Safe (sealed_safe etype key b)) (Ok given) → (number ≡ q) × (given ≡ b.user_data)
safe_nowhere o etype key b q number now given e h =
    let a = met_all (safe_checks o number now (sealed_safe etype key b)) (λ y. y ≡ Ok b.user_data) given h in
    (number_is number q b.seq e a.0.1.1.1.1.1.0, same_data given b.user_data a.1)

part_nowhere : (o : OpenerState) (b : Body) (q number now : ℕ) (given bytes : List ℕ) → b.seq ≡ Some q → SpellsPart b bytes
    → Read SpellsPart bytes (OpensPart o.expect number now) (Ok given) → (number ≡ q) × (given ≡ b.user_data)
part_nowhere o b q number now given bytes e own (inl r) = absurd cc
part_nowhere o b q number now given bytes e own (inr r) =
    let same : r.0 ≡ b = (parts_unique r.0 b bytes bytes [] [] r.1 own refl).0 in
    let then : OpensPart o.expect number now b (Ok given) = subst (λ (z : Body). OpensPart o.expect number now z (Ok given)) same r.2 in
    let a = met_all (body_checks o.expect number now b) (λ y. y ≡ Ok b.user_data) given then in
    (number_is number q b.seq e a.0.1.1.0, same_data given b.user_data a.1)

priv_nowhere : (o : OpenerState) (etype : Etype) (conf : List ℕ) (b : Body) (q number now : ℕ) (given : List ℕ) → b.seq ≡ Some q → length conf ≡ 16 → SpellsPart b (part b)
    → IsEncryption o.key (encrypted o.key (conf ++ part b)) (conf ++ part b) (tag_of o.key (conf ++ part b))
    → OpensMessage o number now (messages.Priv (sealed_priv etype o.key conf b)) (Ok given) → (number ≡ q) × (given ≡ b.user_data)
priv_nowhere o etype conf b q number now given e size own enc h =
    let m : PrivMsg = sealed_priv etype o.key conf b in
    let text : List ℕ = conf ++ part b in
    let a = met_all (priv_header o.etype o.expect m) (Decrypt o.key m.cipher (OpensText o number now)) given h in
    let d = a.1 in
    let same = one_text o.key m.cipher d.0 d.1 text (tag_of o.key text) d.2 enc in
    let then : OpensText o number now text d.1 (Ok given) = subst (λ (z : List ℕ). OpensText o number now z d.1 (Ok given)) same.0 d.3 in
    let c = met_all (text_checks o.key text d.1) (Read SpellsPart (drop 16 text) (OpensPart o.expect number now)) given then in
    let back : drop 16 text ≡ part b = drop_at conf (part b) 16 size in
    part_nowhere o b q number now given (part b) e own (subst (λ (z : List ℕ). Read SpellsPart z (OpensPart o.expect number now) (Ok given)) back c.1)

mode_nowhere : (mode : Mode) (etype : ℤ) (key : List ℕ) (s : Session) (x : Expect) (q at now number : ℕ) (user conf bytes given : List ℕ)
    → s.mode ≡ mode → (h : Seals etype key s q user at conf bytes)
    → OpensMessage (opener_of etype key x) number now (sealed_as mode h.etype key conf (body_of s q user at)) (Ok given) → (number ≡ q) × (given ≡ user)
mode_nowhere Safe etype key s x q at now number user conf bytes given e h p =
    safe_nowhere (opener_of etype key x) h.etype key (body_of s q user at) q number now given refl p
mode_nowhere Priv etype key s x q at now number user conf bytes given e h p =
    let spelt : Spells (messages.Priv (sealed_priv h.etype key conf (body_of s q user at))) bytes = subst (λ (z : Mode). Spells (sealed_as z h.etype key conf (body_of s q user at)) bytes) e h.spelt in
    let own : SpellsPart (body_of s q user at) (part (body_of s q user at)) = record { in_range = h.body; spelt = refl; short = short_part h.etype key conf (body_of s q user at) bytes h.confounder spelt } in
    priv_nowhere (opener_of etype key x) h.etype conf (body_of s q user at) q number now given refl h.confounder own (encrypts etype key s q at user conf bytes e h) p

pub nowhere_else : NowhereElse
nowhere_else etype key s x q at now number user conf bytes given h p =
    let o : OpenerState = opener_of etype key x in
    let a = met_all (frame_checks bytes) (Read Spells bytes (OpensMessage o number now)) given p in
    read_back a.1
  where
    read_back : Read Spells bytes (OpensMessage (opener_of etype key x) number now) (Ok given) → (number ≡ q) × (given ≡ user)
    read_back (inl r) = absurd cc
    read_back (inr r) =
        let m : Message = sealed_message h.etype key s q user at conf in
        let same : r.0 ≡ m = (messages_unique r.0 m bytes bytes [] [] r.1 h.spelt refl).0 in
        mode_nowhere s.mode etype key s x q at now number user conf bytes given refl h (subst (λ (z : Message). OpensMessage (opener_of etype key x) number now z (Ok given)) same r.2)

-- ---- the data at its own number

int_same : (a : ℤ) → int_eq a a ≡ true
int_same a = int_is a a refl

pub bytes_same : (a : List ℕ) → bytes_eq a a ≡ true
bytes_same a = (bytes_eq-Decides a a).1 refl

address_same : (a b : HostAddress) → a ≡ b → same_address a b ≡ true
address_same a b e = subst (λ (z : HostAddress). same_address a z ≡ true) e (and_from _ _ (int_same a.kind) (bytes_same a.bytes))

receiver_same : (x : Expect) (r : Option HostAddress) → ReceiverAgrees x r → receiver_fits x r ≡ true
receiver_same x None e = ap not e
receiver_same x (Some a) e = address_same a x.r_addr e

addresses_same : (s : Session) (x : Expect) (q at now : ℕ) (user : List ℕ) → Agree s x at now → addresses_fit x (body_of s q user at) ≡ true
addresses_same s x q at now user h = and_from _ _ (address_same s.s_addr x.s_addr h.sender) (receiver_same x s.r_addr h.receiver)

current_same : (s : Session) (x : Expect) (at now : ℕ) → Agree s x at now → is_current x now (Some (secs_of at)) (Some (usec_of at)) ≡ true
current_same s x at now h =
    let back : moment_of (secs_of at) (usec_of at) ≡ at = omega arith in
    le-leb _ _ (subst (λ (z : ℕ). abs_diff now z ≤ micros_per_second * x.skew) (sym back) h.current)

mode_opens : (mode : Mode) (etype : ℤ) (key : List ℕ) (s : Session) (x : Expect) (q at now : ℕ) (user conf bytes : List ℕ)
    → s.mode ≡ mode → (h : Seals etype key s q user at conf bytes) → Agree s x at now
    → OpensMessage (opener_of etype key x) q now (sealed_as mode h.etype key conf (body_of s q user at)) (Ok user)
mode_opens Safe etype key s x q at now user conf bytes e h g =
    let o : OpenerState = opener_of etype key x in
    let b : Body = body_of s q user at in
    let is : is_safe x.mode ≡ true = ap is_safe (sym g.mode ∙ e) in
    all_met (safe_checks o q now (sealed_safe h.etype key b)) (λ y. y ≡ Ok b.user_data) (Ok user)
    (refl, (and_from _ _ is refl, (own_checksum h.etype etype h.known, (addresses_same s x q at now user g, (current_same s x at now g, (eq-eqb q q refl, (bytes_same (safe_checksum key (sealed_safe h.etype key b)), tt))))))) refl
mode_opens Priv etype key s x q at now user conf bytes e h g =
    let o : OpenerState = opener_of etype key x in
    let b : Body = body_of s q user at in
    let m : PrivMsg = sealed_priv h.etype key conf b in
    let text : List ℕ = conf ++ part b in
    let is : is_safe x.mode ≡ false = ap is_safe (sym g.mode ∙ e) in
    let spelt : Spells (messages.Priv m) bytes = subst (λ (z : Mode). Spells (sealed_as z h.etype key conf b) bytes) e h.spelt in
    let own : SpellsPart b (part b) = record { in_range = h.body; spelt = refl; short = short_part h.etype key conf b bytes h.confounder spelt } in
    let w : List ℕ = expanded_key (encryption_key key) in
    let enc = encrypts etype key s q at user conf bytes e h in
    let long : 28 ≤ length m.cipher = omega (arith, length-append (cts w text) (tag_of key text), length-cts w text enc.long, enc.long, enc.size) in
    let back : drop 16 text ≡ part b = drop_at conf (part b) 16 h.confounder in
    let inside : Read SpellsPart (part b) (OpensPart o.expect q now) (Ok user) =
    inr (b, own, all_met (body_checks o.expect q now b) (λ y. y ≡ Ok b.user_data) (Ok user) (addresses_same s x q at now user g, (current_same s x at now g, (eq-eqb q q refl, tt))) refl) in
    let plain : OpensText o q now text (tag_of key text) (Ok user) =
    all_met (text_checks o.key text (tag_of key text)) (Read SpellsPart (drop 16 text) (OpensPart o.expect q now)) (Ok user) (bytes_same (tag_of key text), tt)
    (subst (λ (z : List ℕ). Read SpellsPart z (OpensPart o.expect q now) (Ok user)) (sym back) inside) in
    all_met (priv_header o.etype o.expect m) (Decrypt o.key m.cipher (OpensText o q now)) (Ok user) (refl, (and_from _ _ (ap not is) refl, (int_is (number_of h.etype) etype h.known, (le-leb 28 (length m.cipher) long, tt)))) (text, tag_of key text, enc, plain)

pub at_its_number : AtItsNumber
at_its_number etype key s x q at now user conf bytes h g =
    let o : OpenerState = opener_of etype key x in
    all_met (frame_checks bytes) (Read Spells bytes (OpensMessage o q now)) (Ok user) (le-leb (length bytes) frame_limit h.spelt.short, tt)
    (inr (sealed_message h.etype key s q user at conf, h.spelt, mode_opens s.mode etype key s x q at now user conf bytes refl h g))

-- a sealed frame is the bytes of its message
pub one_frame : OneFrame
unfolding sealed
one_frame etype key s q user at conf bytes h =
    h.spelt.spelt ∙ ap (λ (z : Etype). message (sealed_message z key s q user at conf)) (one_number h.etype etype h.known)

-- two frames that seal one message are the same bytes
pub same_frame : (etype : ℤ) (key : List ℕ) (s : Session) (q : ℕ) (user : List ℕ) (at : ℕ) (conf a b : List ℕ)
    → Seals etype key s q user at conf a → Seals etype key s q user at conf b → a ≡ b
same_frame etype key s q user at conf a b h g =
    h.spelt.spelt ∙ ap (λ (z : Etype). message (sealed_message z key s q user at conf)) (one_number h.etype g.etype (h.known ∙ sym g.known)) ∙ sym g.spelt.spelt
