-- A frame that comes back to its maker is refused by its sender's address.
use Rattle.std.proofs.Common.{◌≡◌, ◌≤◌, ℕ, ℤ, Bool, true, false, not, List, [], ◌∷◌, ◌++◌, length, drop, Result, Ok, Err, refl, sym, ap, ap₂, subst, ◌∙◌, inr, arith, length-append}
use Rattle.std.specs.Prelude.{◌&&◌, nat_eq}
use Rattle.std.specs.Ordering.{int_eq}
use Rattle.std.specs.Str.{bytes_eq}
use Rattle.std.proofs.lemmas.Bool.{and_from, and_parts, eqb-true, le-leb}
use Rattle.std.proofs.lemmas.Bool.Decides.{Decides-int_eq}
use Rattle.std.proofs.lemmas.List.{drop_at}
use Rattle.std.proofs.lemmas.Slice.Eq.{bytes_eq-Decides}
use Rattle.krb_aes.specs.Stealing.{cts}
use Rattle.krb_aes.specs.Keys.{expanded_key}
use Rattle.krb_aes.proofs.StealingLemmas.{length-cts}
use Rattle.krb_base.specs.Limits.{frame_limit}
use Rattle.krb_der.specs.declared.address.HostAddress.{HostAddress}
use Rattle.krb_der.specs.declared.body.Body.{Body}
use Rattle.krb_der.specs.declared.private.PrivMsg.{PrivMsg}
use Rattle.krb_der.specs.declared.message.Message.TheVariants as messages
use Rattle.krb_der.specs.Address.{same_address}
use Rattle.krb_der.specs.Body.{part}
use Rattle.krb_der.specs.Message.{Spells, SpellsPart}
use Rattle.krb_etype.specs.Etype.{number_of}
use Rattle.krb_etype.specs.Keys.{encryption_key, tag_of}
use Rattle.krb_etype.proofs.Etypes.{int_is, own_checksum}
use Rattle.krb_seal.specs.declared.refusal.Refusal.{Refusal}
use Rattle.krb_seal.specs.declared.refusal.Refusal.TheVariants.{BadAddr, Skew, BadOrder, Modified}
use Rattle.krb_seal.specs.declared.session.Mode.{Mode}
use Rattle.krb_seal.specs.declared.session.Mode.TheVariants.{Safe, Priv}
use Rattle.krb_seal.specs.declared.session.Session.{Session}
use Rattle.krb_seal.specs.declared.session.Expect.{Expect}
use Rattle.krb_seal.specs.Authentic.{Authenticity, Authenticates, GivesBody}
use Rattle.krb_seal.specs.Opens.{OpenerState, Opens, OpensMessage, OpensText, Passes, Read, Decrypt, addresses_fit, is_current, is_number, is_safe, opener_of, priv_header, receiver_fits, safe_header}
use Rattle.krb_seal.specs.OpensParts.{Checks, Outcome, OpensPart, checksum_checks, frame_checks, text_checks}
use Rattle.krb_seal.specs.Seals.{Seals, body_of, sealed_as, sealed_message, sealed_priv, sealed_safe}
use Rattle.krb_seal.proofs.Authentics.{sealed_is_authentic}
use Rattle.krb_seal.proofs.Outcomes.{one_authenticity, outcomes_unique, passes_unique}
use Rattle.krb_seal.proofs.SealedFrames.{AllMet, all_met, bytes_same, encrypts, short_part}
use Rattle.krb_structs.specs.declared.demand.KrbDemand.{KrbDemand}
use Rattle.krb_structs.specs.Demand.{AsDemanded, all_have_room, demand_checks, needs_meet, number_meets, receiver_meets, sender_meets, time_meets}
use Rattle.krb_structs.specs.Session.{address_of}
use Rattle.krb_laws.specs.Reflection.{OpenersRefuseOwn, PeersRefuseOwn, AddressesTell}

-- ---- another address

same_host : (a b : HostAddress) → a.kind ≡ b.kind → a.bytes ≡ b.bytes → a ≡ b
same_host a b kinds bytes = ap₂ (λ k l. record { kind = k; bytes = l }) kinds bytes

differs : (a b : HostAddress) → ¬ (a ≡ b) → same_address a b ≡ false
differs a b other = by_test (same_address a b) refl
  where
    by_test : (t : Bool) → same_address a b ≡ t → same_address a b ≡ false
    by_test false is = is
    by_test true is =
        let both = and_parts (int_eq a.kind b.kind) (bytes_eq a.bytes b.bytes) is in
        absurd (other (same_host a b ((Decides-int_eq a.kind b.kind).0 both.0) ((bytes_eq-Decides a.bytes b.bytes).0 both.1)))

neither : (a b : Bool) → a ≡ false → (a && b) ≡ false
neither a b e = rw e refl

-- ---- the first check that isn't met

fails_here : {A : Type 0} (met : Checks) (test : Bool) (r : Refusal) (rest : Checks) (Then : Result A Refusal → Type 0) → AllMet met → test ≡ false → Passes (met ++ (test, r) ∷ rest) Then (Err r)
fails_here [] true r rest Then all e = absurd (let wrong : true ≡ false = e in cc)
fails_here [] false r rest Then all e = refl
fails_here ((true, s) ∷ met) test r rest Then all e = fails_here met test r rest Then all.1 e
fails_here ((false, s) ∷ met) test r rest Then all e = absurd (let wrong : false ≡ true = all.0 in cc)

-- ---- an opener

module _ (etype : ℤ) (key : List ℕ) (s : Session) (x : Expect) (q at now number : ℕ) (user conf bytes : List ℕ) (other : ¬ (s.s_addr ≡ x.s_addr)) where
  abbrev o : OpenerState
  o = opener_of etype key x

  abbrev b : Body
  b = body_of s q user at

  misfit : addresses_fit x b ≡ false
  misfit = neither (same_address s.s_addr x.s_addr) (receiver_fits x s.r_addr) (differs s.s_addr x.s_addr other)

  mode_refuses : (mode : Mode) → s.mode ≡ mode → x.mode ≡ mode → (h : Seals etype key s q user at conf bytes) → OpensMessage o number now (sealed_as mode h.etype key conf b) (Err BadAddr)
  mode_refuses Safe e g h =
      let m = sealed_safe h.etype key b in
      let is : is_safe x.mode ≡ true = ap is_safe g in
      let rest : Checks = (is_current x now b.time b.usec, Skew) ∷ (is_number number b.seq, BadOrder) ∷ checksum_checks key m in
      fails_here (safe_header etype x m) (addresses_fit x b) BadAddr rest (λ y. y ≡ Ok b.user_data)
      (refl, (and_from _ _ is refl, (own_checksum h.etype etype h.known, tt))) misfit
  mode_refuses Priv e g h =
      let m : PrivMsg = sealed_priv h.etype key conf b in
      let text : List ℕ = conf ++ part b in
      let is : is_safe x.mode ≡ false = ap is_safe g in
      let spelt : Spells (messages.Priv m) bytes = subst (λ (z : Mode). Spells (sealed_as z h.etype key conf b) bytes) e h.spelt in
      let own : SpellsPart b (part b) = record { in_range = h.body; spelt = refl; short = short_part h.etype key conf b bytes h.confounder spelt } in
      let w : List ℕ = expanded_key (encryption_key key) in
      let enc = encrypts etype key s q at user conf bytes e h in
      let long : 28 ≤ length m.cipher = omega (arith, length-append (cts w text) (tag_of key text), length-cts w text enc.long, enc.long, enc.size) in
      let back : drop 16 text ≡ part b = drop_at conf (part b) 16 h.confounder in
      let rest : Checks = (is_current x now b.time b.usec, Skew) ∷ (is_number number b.seq, BadOrder) ∷ [] in
      let inside : Read SpellsPart (part b) (OpensPart o.expect number now) (Err BadAddr) =
      inr (b, own, fails_here [] (addresses_fit x b) BadAddr rest (λ y. y ≡ Ok b.user_data) tt misfit) in
      let plain : OpensText o number now text (tag_of key text) (Err BadAddr) =
      all_met (text_checks o.key text (tag_of key text)) (Read SpellsPart (drop 16 text) (OpensPart o.expect number now)) (Err BadAddr) (bytes_same (tag_of key text), tt)
      (subst (λ (z : List ℕ). Read SpellsPart z (OpensPart o.expect number now) (Err BadAddr)) (sym back) inside) in
      all_met (priv_header o.etype o.expect m) (Decrypt o.key m.cipher (OpensText o number now)) (Err BadAddr) (refl, (and_from _ _ (ap not is) refl, (int_is (number_of h.etype) etype h.known, (le-leb 28 (length m.cipher) long, tt)))) (text, tag_of key text, enc, plain)

  refused : Seals etype key s q user at conf bytes → s.mode ≡ x.mode → Opens o number now bytes (Err BadAddr)
  refused h mode =
      all_met (frame_checks bytes) (Read Spells bytes (OpensMessage o number now)) (Err BadAddr) (le-leb (length bytes) frame_limit h.spelt.short, tt)
      (inr (sealed_message h.etype key s q user at conf, h.spelt, mode_refuses s.mode refl (sym mode) h))

pub openers_refuse : OpenersRefuseOwn
openers_refuse etype key s x q at now number user conf frame outcome seals mode other =
    let no = refused etype key s x q at now number user conf frame other seals mode in (
      λ is. outcomes_unique (opener_of etype key x) number now frame outcome (Err BadAddr) is no,
      λ is. subst (λ (y : Outcome). Opens (opener_of etype key x) number now frame y) (sym is) no,
    )

-- ---- demands

same_body : (a b : Body) → ◌≡◌ {A = Authenticity} (Ok a) (Ok b) → a ≡ b
same_body a b e = cc

unequal : (a b : ℕ) → ¬ (a ≡ b) → nat_eq a b ≡ false
unequal a b other = by_test (nat_eq a b) refl
  where
    by_test : (t : Bool) → nat_eq a b ≡ t → nat_eq a b ≡ false
    by_test false is = is
    by_test true is = absurd (other (eqb-true a b is))

-- both tests of the addresses have one refusal
room_or_not : (room test : Bool) (rest : Checks) (Then : Authenticity → Type 0) → test ≡ false → Passes ((room, BadAddr) ∷ (test, BadAddr) ∷ rest) Then (Err BadAddr)
room_or_not true test rest Then e = fails_here [] test BadAddr rest Then tt e
room_or_not false test rest Then e = refl

module _ (d : KrbDemand) (now : ℕ) (b : Body) (asked : ¬ (d.how_sender ≡ 0)) (other : ¬ (b.s_addr ≡ address_of d.sender)) where
  unmet : sender_meets d b.s_addr ≡ false
  unmet = rw (unequal d.how_sender 0 asked) (differs b.s_addr (address_of d.sender) other)

  not_as_demanded : AsDemanded d now (Ok b) (Err BadAddr)
  not_as_demanded =
      room_or_not (all_have_room b.s_addr b.r_addr) (sender_meets d b.s_addr && receiver_meets d b.r_addr)
      ((time_meets d now b, Skew) ∷ (number_meets d b.seq, BadOrder) ∷ (needs_meet d b, Modified) ∷ []) (GivesBody b) (neither (sender_meets d b.s_addr) (receiver_meets d b.r_addr) unmet)

  only_bad : (outcome : Authenticity) → AsDemanded d now (Ok b) outcome → outcome ≡ Err BadAddr
  only_bad outcome is = passes_unique (demand_checks d now b) (GivesBody b) (λ y z p r. p ∙ sym r) outcome (Err BadAddr) is not_as_demanded

pub peers_refuse : PeersRefuseOwn
peers_refuse etype key s x d q at now user conf frame outcome seals mode asked other =
    let b : Body = body_of s q user at in
    let o : OpenerState = opener_of etype key x in
    let its : Authenticates o frame (Ok b) = sealed_is_authentic etype key s x q at user conf frame seals mode in (
      λ is. only_bad d now b asked other outcome (subst (λ (y : Authenticity). AsDemanded d now y outcome) (one_authenticity o frame is.0 (Ok b) is.1 its) is.2),
      λ is. (Ok b, its, subst (λ (y : Authenticity). AsDemanded d now (Ok b) y) (sym is) (not_as_demanded d now b asked other)),
    )

-- ---- the refusal by addresses

abbrev Tests : Bool → Bool → Bool → Bool → Bool → Checks
Tests room addresses current number needs = (room, BadAddr) ∷ (addresses, BadAddr) ∷ (current, Skew) ∷ (number, BadOrder) ∷ (needs, Modified) ∷ []

by_addresses : (room addresses current number needs : Bool) (b : Body) → Passes (Tests room addresses current number needs) (GivesBody b) (Err BadAddr) → (room && addresses) ≡ false
by_addresses false addresses current number needs b p = refl
by_addresses true false current number needs b p = refl
by_addresses true true false number needs b p = absurd (let e : ◌≡◌ {A = Authenticity} (Err BadAddr) (Err Skew) = p in cc)
by_addresses true true true false needs b p = absurd (let e : ◌≡◌ {A = Authenticity} (Err BadAddr) (Err BadOrder) = p in cc)
by_addresses true true true true false b p = absurd (let e : ◌≡◌ {A = Authenticity} (Err BadAddr) (Err Modified) = p in cc)
by_addresses true true true true true b p = absurd (let e : ◌≡◌ {A = Authenticity} (Err BadAddr) (Ok b) = p in cc)

to_refusal : (room addresses current number needs : Bool) (b : Body) → (room && addresses) ≡ false → Passes (Tests room addresses current number needs) (GivesBody b) (Err BadAddr)
to_refusal false addresses current number needs b e = refl
to_refusal true false current number needs b e = refl
to_refusal true true current number needs b e = absurd (let wrong : true ≡ false = e in cc)

pub addresses_tell : AddressesTell
addresses_tell etype key s x d q at now user conf frame seals mode =
    let b : Body = body_of s q user at in
    let o : OpenerState = opener_of etype key x in
    let its : Authenticates o frame (Ok b) = sealed_is_authentic etype key s x q at user conf frame seals mode in
    let room = all_have_room s.s_addr s.r_addr in
    let fit = sender_meets d s.s_addr && receiver_meets d s.r_addr in (
      λ is. by_addresses room fit (time_meets d now b) (number_meets d b.seq) (needs_meet d b) b (subst (λ (y : Authenticity). AsDemanded d now y (Err BadAddr)) (one_authenticity o frame is.0 (Ok b) is.1 its) is.2),
      λ unfit. (Ok b, its, to_refusal room fit (time_meets d now b) (number_meets d b.seq) (needs_meet d b) b unfit),
    )
