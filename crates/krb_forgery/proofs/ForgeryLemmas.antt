-- From a frame that opens to bytes and their code.
use Rattle.std.proofs.Common.{◌≡◌, ℕ, ◌+◌, ◌≤◌, ℤ, pos, true, false, not, ◌&&◌, List, [], ◌++◌, length, drop, Option, Some, None, Ok, refl, sym, ap, subst, ◌∙◌, inl, inr, arith, slice_get, zero-add}
use Rattle.std.specs.Ordering.{int_eq}
use Rattle.std.specs.Str.{bytes_eq}
use Rattle.std.proofs.lemmas.Bool.{and_parts, eqb-true, false≢true, true≢false}
use Rattle.std.proofs.lemmas.List.{drop_at}
use Rattle.std.proofs.lemmas.Slice.Eq.{bytes_eq-Decides}
use Rattle.krb_der.specs.declared.body.Body.{Body}
use Rattle.krb_der.specs.declared.message.Message.{Message}
use Rattle.krb_der.specs.declared.message.Message.TheVariants as messages
use Rattle.krb_der.specs.declared.private.PrivMsg.{PrivMsg}
use Rattle.krb_der.specs.declared.safe.SafeMsg.{SafeMsg}
use Rattle.krb_der.specs.Address.{same_address}
use Rattle.krb_der.specs.Body.{part}
use Rattle.krb_der.specs.Message.{Spells, SpellsPart, safe, safe_input}
use Rattle.krb_der.proofs.Grammar.{messages_unique, parts_unique}
use Rattle.krb_der.proofs.Sizes.{shorter_input}
use Rattle.krb_etype.specs.declared.etype.Etype.{Etype}
use Rattle.krb_etype.specs.CodeKey.{code_key}
use Rattle.krb_etype.specs.Keys.{tag_of}
use Rattle.krb_keys.specs.Hmac.{hmac96}
use Rattle.krb_peers.specs.declared.delivery.Delivery.{Delivery}
use Rattle.krb_peers.specs.Attempt.{Attempt, IsAttempt, IsAttemptAfter, demand_at}
use Rattle.krb_peers.specs.Moments.{moment_at}
use Rattle.krb_peers.specs.Verdicts.{Carries, events_from, record_of}
use Rattle.krb_peers.proofs.ClaimLemmas.{frames_headline_of}
use Rattle.krb_record.specs.declared.record.Record.{Record}
use Rattle.krb_record.specs.Record.{SpellsRecord, bytes_of}
use Rattle.krb_seal.specs.declared.session.Expect.{Expect}
use Rattle.krb_seal.specs.declared.session.Mode.{Mode}
use Rattle.krb_seal.specs.declared.session.Mode.TheVariants.{Safe, Priv}
use Rattle.krb_seal.specs.Mode.{purpose_of}
use Rattle.krb_seal.specs.Covered.{code_key_of}
use Rattle.krb_seal.specs.Opens.{Decrypt, OpenerState, Opens, OpensMessage, OpensText, Read, addresses_fit, body_checks, is_number, is_safe, priv_header, receiver_fits, safe_checks}
use Rattle.krb_seal.specs.OpensParts.{OpensPart, frame_checks, text_checks}
use Rattle.krb_seal.specs.Sealer.{SealerState}
use Rattle.krb_seal.specs.Seals.{body_of, safe_checksum, sealed_as, sealed_priv, sealed_safe, unsigned}
use Rattle.krb_seal.proofs.SealedFrames.{met_all, same_data, short_part}
use Rattle.krb_forgery.specs.Forgery.{Accepts, Breaks, BreaksFindBytes, HasSameKey, HeadlineWhereNoneFound, IsCoded, IsCodedOfOne, IsTry, NoneFound, NoneFoundIsNoForgery, NoneIsReflected, OpensAsSealed, OpensCodedBytes, Shows, coded_as}

-- ---- what the checks say

equal_bytes : (a b : List ℕ) → bytes_eq a b ≡ true → a ≡ b
equal_bytes a b is = (bytes_eq-Decides a b).0 is

safe_mode : (mode : Mode) (other : _) → (is_safe mode && other) ≡ true → mode ≡ Safe
safe_mode Safe other is = refl
safe_mode Priv other is = absurd (false≢true is)

priv_mode : (mode : Mode) (other : _) → (not (is_safe mode) && other) ≡ true → mode ≡ Priv
priv_mode Safe other is = absurd (false≢true is)
priv_mode Priv other is = refl

number_is : (number q : ℕ) (seq : Option ℕ) → seq ≡ Some q → is_number number seq ≡ true → number ≡ q
number_is number q seq e h =
    let t : is_number number (Some q) ≡ true = subst (λ (y : Option ℕ). is_number number y ≡ true) e h in
    sym (eqb-true q number t)

-- ---- KRB-SAFE: what is under the code says the body

abbrev empty : SafeMsg → SafeMsg
empty m = record m { cksum_type = pos 0; checksum = [] }

empty_spells : (m : SafeMsg) (frame : List ℕ) → Spells (messages.Safe m) frame → Spells (messages.Safe (empty m)) (safe_input m)
empty_spells m frame spells =
    let same : length frame ≡ length (safe m) = ap length spells.spelt in
    record {
      in_range = record {
        pvno = spells.in_range.pvno;
        msg_type = spells.in_range.msg_type;
        body = spells.in_range.body;
        cksum_type = omega arith;
      };
      spelt = refl;
      short = omega (arith, shorter_input m, same, spells.short);
    }

body_in : Body → Message → Body
body_in other (messages.Safe m) = m.body
body_in other (messages.Priv m) = other

same_body : (m other : SafeMsg) (frame made : List ℕ) → Spells (messages.Safe m) frame → Spells (messages.Safe other) made
    → safe_input m ≡ safe_input other → m.body ≡ other.body
unfolding body_in
same_body m other frame made one two same =
    ap (body_in m.body) (messages_unique (messages.Safe (empty m)) (messages.Safe (empty other)) (safe_input m) (safe_input other) [] []
    (empty_spells m frame one) (empty_spells other made two) (ap (λ (l : List ℕ). l ++ []) same)).0

-- what follows where its bytes were coded
abbrev Follows : OpenerState → ℕ → List ℕ → List ℕ → Type 0
Follows o number user bytes =
    (maker : SealerState) (q : ℕ) (content : List ℕ) → HasSameKey maker o → IsCoded maker q content bytes
    → OpensAsSealed o number user maker q content

abbrev Found : OpenerState → ℕ → List ℕ → List ℕ → Type 0
Found o number frame user = (bytes : List ℕ) × ((code : List ℕ) × Shows o frame bytes code × Follows o number user bytes)

sender_is : (x : Expect) (b : Body) → addresses_fit x b ≡ true → same_address b.s_addr x.s_addr ≡ true
sender_is x b is = (and_parts (same_address b.s_addr x.s_addr) (receiver_fits x b.r_addr) is).0

-- a body of what somebody sealed
opens_as : (o : OpenerState) (number : ℕ) (user : List ℕ) (b : Body) (maker : SealerState) (q at : ℕ) (content : List ℕ)
    → b ≡ body_of maker.session q content at → addresses_fit o.expect b ≡ true → is_number number b.seq ≡ true → user ≡ b.user_data
    → OpensAsSealed o number user maker q content
opens_as o number user b maker q at content same fits numbered given = record {
  number_is = number_is number q b.seq (ap (λ (z : Body). z.seq) same) numbered;
  user_is = given ∙ ap (λ (z : Body). z.user_data) same;
  sender = subst (λ (z : Body). same_address z.s_addr o.expect.s_addr ≡ true) same (sender_is o.expect b fits);
}

safe_follows : (o : OpenerState) (m : SafeMsg) (number : ℕ) (frame user : List ℕ) → o.expect.mode ≡ Safe
    → Spells (messages.Safe m) frame → addresses_fit o.expect m.body ≡ true → is_number number m.body.seq ≡ true → user ≡ m.body.user_data
    → Follows o number user (safe_input m)
safe_follows o m number frame user mode spells fits numbered given maker q content has coded =
    let etype : Etype = coded.seals.etype in
    let its : maker.session.mode ≡ Safe = has.mode ∙ mode in
    let b : Body = body_of maker.session q content coded.at in
    let is : safe_input m ≡ safe_input (unsigned etype b) = subst (λ (z : Mode). safe_input m ≡ coded_as z etype coded.confounder b) its coded.is in
    let spelt : Spells (messages.Safe (sealed_safe etype maker.key b)) coded.frame = subst (λ (z : Mode). Spells (sealed_as z etype maker.key coded.confounder b) coded.frame) its coded.seals.spelt in
    let same : m.body ≡ b = same_body m (sealed_safe etype maker.key b) frame coded.frame spells spelt is in
    opens_as o number user m.body maker q coded.at content same fits numbered given

safe_shows : (o : OpenerState) (number now : ℕ) (frame user : List ℕ) (m : SafeMsg)
    → Spells (messages.Safe m) frame → OpensMessage o number now (messages.Safe m) (Ok user) → Found o number frame user
safe_shows o number now frame user m spells opens =
    let c = met_all (safe_checks o number now m) (λ y. y ≡ Ok m.body.user_data) user opens in
    let mode : o.expect.mode ≡ Safe = safe_mode o.expect.mode (int_eq m.msg_type (pos 20)) c.0.1.0 in
    let code_is : m.checksum ≡ safe_checksum o.key m = equal_bytes m.checksum (safe_checksum o.key m) c.0.1.1.1.1.1.1.0 in (
      safe_input m,
      (
        m.checksum,
        record {
          has = record { message = messages.Safe m; spells = spells; has = (refl, refl) };
          is_code = subst (λ (z : Mode). m.checksum ≡ hmac96 (code_key (purpose_of z) o.key) (safe_input m)) (sym mode) code_is;
        },
        safe_follows o m number frame user mode spells c.0.1.1.1.0 c.0.1.1.1.1.1.0 (same_data user m.body.user_data c.1),
      ),
    )

-- ---- KRB-PRIV: so does its text

part_follows : (o : OpenerState) (number now : ℕ) (user bytes : List ℕ) (b : Body) (maker : SealerState) (q at : ℕ) (content : List ℕ)
    → b ≡ body_of maker.session q content at → SpellsPart b bytes
    → Read SpellsPart bytes (OpensPart o.expect number now) (Ok user) → OpensAsSealed o number user maker q content
part_follows o number now user bytes b maker q at content is own (inl r) = absurd cc
part_follows o number now user bytes b maker q at content is own (inr r) =
    let same : r.0 ≡ b = (parts_unique r.0 b bytes bytes [] [] r.1 own refl).0 in
    let a = met_all (body_checks o.expect number now r.0) (λ y. y ≡ Ok r.0.user_data) user r.2 in
    opens_as o number user r.0 maker q at content (same ∙ is) a.0.0 a.0.1.1.0 (same_data user r.0.user_data a.1)

priv_follows : (o : OpenerState) (number now : ℕ) (text user : List ℕ) → o.expect.mode ≡ Priv
    → Read SpellsPart (drop 16 text) (OpensPart o.expect number now) (Ok user) → Follows o number user text
priv_follows o number now text user mode inside maker q content has coded =
    let etype : Etype = coded.seals.etype in
    let conf : List ℕ = coded.confounder in
    let its : maker.session.mode ≡ Priv = has.mode ∙ mode in
    let b : Body = body_of maker.session q content coded.at in
    let is : text ≡ conf ++ part b = subst (λ (z : Mode). text ≡ coded_as z etype conf b) its coded.is in
    let spelt : Spells (messages.Priv (sealed_priv etype maker.key conf b)) coded.frame = subst (λ (z : Mode). Spells (sealed_as z etype maker.key conf b) coded.frame) its coded.seals.spelt in
    let own : SpellsPart b (part b) = record { in_range = coded.seals.body; spelt = refl; short = short_part etype maker.key conf b coded.frame coded.seals.confounder spelt } in
    let back : drop 16 text ≡ part b = ap (λ (z : List ℕ). drop 16 z) is ∙ drop_at conf (part b) 16 coded.seals.confounder in
    part_follows o number now user (part b) b maker q coded.at content refl own (subst (λ (z : List ℕ). Read SpellsPart z (OpensPart o.expect number now) (Ok user)) back inside)

priv_shows : (o : OpenerState) (number now : ℕ) (frame user : List ℕ) (m : PrivMsg)
    → Spells (messages.Priv m) frame → OpensMessage o number now (messages.Priv m) (Ok user) → Found o number frame user
priv_shows o number now frame user m spells opens =
    let c = met_all (priv_header o.etype o.expect m) (Decrypt o.key m.cipher (OpensText o number now)) user opens in
    let mode : o.expect.mode ≡ Priv = priv_mode o.expect.mode (int_eq m.msg_type (pos 21)) c.0.1.0 in
    let d = c.1 in
    let t = met_all (text_checks o.key d.0 d.1) (Read SpellsPart (drop 16 d.0) (OpensPart o.expect number now)) user d.3 in
    let code_is : d.1 ≡ tag_of o.key d.0 = equal_bytes d.1 (tag_of o.key d.0) t.0.0 in (
      d.0,
      (
        d.1,
        record {
          has = record { message = messages.Priv m; spells = spells; has = d.2 };
          is_code = subst (λ (z : Mode). d.1 ≡ hmac96 (code_key (purpose_of z) o.key) d.0) (sym mode) code_is;
        },
        priv_follows o number now d.0 user mode t.1,
      ),
    )

-- ---- any frame that opens

pub opens_coded_bytes : OpensCodedBytes
opens_coded_bytes o number now frame user opens =
    of_read (met_all (frame_checks frame) (Read Spells frame (OpensMessage o number now)) user opens).1
  where
    of_message : (m : Message) → Spells m frame → OpensMessage o number now m (Ok user) → Found o number frame user
    of_message (messages.Safe m) spells p = safe_shows o number now frame user m spells p
    of_message (messages.Priv m) spells p = priv_shows o number now frame user m spells p

    of_read : Read Spells frame (OpensMessage o number now) (Ok user) → Found o number frame user
    of_read (inl r) = absurd cc
    of_read (inr r) = of_message r.0 r.1 r.2

pub none_is_reflected : NoneIsReflected
none_is_reflected o number now frame user opens =
    let found = opens_coded_bytes o number now frame user opens in (
      found.0,
      (
        found.1.0,
        found.1.1,
        λ maker q content has other coded.
            true≢false (sym (found.1.2 maker q content has coded).sender ∙ other),
      ),
    )

-- ---- a receiver

module _ (sealer : SealerState) (records : List Record) (attempt : Attempt) (is : IsTry sealer records attempt) where
  abbrev its : OpenerState
  its = attempt.receiver.opener

  same_key : HasSameKey sealer its
  same_key = record { key = sym is.has_key.key; mode = is.mode }

  -- what an accepted frame carries
  carries : (place : ℕ) (frame : List ℕ) (d : Delivery) → Accepts attempt place frame d
      → Carries its (demand_at attempt place) (moment_at attempt.nows place) frame d
  carries place frame d accepts =
      subst (λ (n : ℕ). Carries its (demand_at attempt place) (moment_at attempt.nows n) frame d) (zero-add place)
      (is.judged.each place frame (Ok d) accepts.took accepts.verdict)

  -- where its bytes were coded of one of the records, it carries the record of its number
  carried : (place : ℕ) (frame : List ℕ) (d : Delivery) (user bytes : List ℕ) → SpellsRecord (record_of d) user
      → Follows its (demand_at attempt place).expected user bytes → IsCodedOfOne sealer records bytes
      → (k : ℕ) → (demand_at attempt place).expected ≡ sealer.next + k → slice_get records k ≡ Some (record_of d)
  carried place frame d user bytes spells follows one k at =
      let opened = follows sealer (sealer.next + one.k) (bytes_of one.record_k) same_key one.coded in
      let same : one.k ≡ k = omega (arith, at, opened.number_is) in
      let read : one.record_k ≡ record_of d = is.are.readable one.k one.record_k one.there (record_of d) (subst (λ u. SpellsRecord (record_of d) u) opened.user_is spells) in
      subst (λ n. slice_get records n ≡ Some (record_of d)) same (one.there ∙ ap (λ r. Some r) read)

  finds : (place : ℕ) (frame : List ℕ) (d : Delivery) → Breaks sealer records attempt place frame d
      → (bytes : List ℕ) × ((code : List ℕ) × Shows its frame bytes code × (IsCodedOfOne sealer records bytes → ⊥))
  finds place frame d breaks =
      let c = carries place frame d breaks.accepts in
      let found = opens_coded_bytes its (demand_at attempt place).expected (moment_at attempt.nows place) frame c.1.0 c.1.1 in
      (found.0, (found.1.0, found.1.1, λ one. breaks.not_carried (carried place frame d c.1.0 found.0 c.1.2 found.1.2 one)))

  is_attempt : NoneFound sealer records attempt → IsAttempt sealer records attempt
  is_attempt none = record {
    has_key = is.has_key;
    judged = is.judged;
    no_forgery = λ place frame d took verdict.
        let accepts : Accepts attempt place frame d = record { took = took; verdict = verdict } in
        let c = carries place frame d accepts in
        let found = opens_coded_bytes its (demand_at attempt place).expected (moment_at attempt.nows place) frame c.1.0 c.1.1 in
        inr (carried place frame d c.1.0 found.0 c.1.2 found.1.2 (none place frame d found.0 found.1.0 accepts found.1.1));
  }

pub breaks_find_bytes : BreaksFindBytes
breaks_find_bytes sealer records attempt place frame d is breaks = finds sealer records attempt is place frame d breaks

pub none_found : NoneFoundIsNoForgery
none_found sealer records attempt is none = is_attempt sealer records attempt is none

pub headline_where_none_found : HeadlineWhereNoneFound
headline_where_none_found sealer records first attempt is begins none =
    let after : IsAttemptAfter sealer records first attempt = record { are = is.are; tries = none_found sealer records attempt is none; begins = begins } in
    let claims = frames_headline_of sealer records first attempt (events_from attempt.verdicts) is.judged refl in
    (claims.delivered_prefix after, claims.all_where_closed after)
