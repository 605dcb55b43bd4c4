-- A frame of data within the limits.
use Rattle.std.proofs.Common.{◌≡◌, ℕ, ◌+◌, ◌≤◌, List, [], ◌∷◌, ◌++◌, length, Option, Some, None, refl, sym, subst, arith, length-append}
use Rattle.std.specs.Prelude.{IfSome}
use Rattle.std.specs.List.{flat_map}
use Rattle.krb_base.specs.Bytes.{AreBytes}
use Rattle.krb_base.specs.Limits.{user_data_limit}
use Rattle.krb_keys.proofs.HmacLemmas.{length-hmac96}
use Rattle.krb_der.specs.declared.address.HostAddress.{HostAddress}
use Rattle.krb_der.specs.declared.body.Body.{Body}
use Rattle.krb_der.specs.declared.safe.SafeMsg.{SafeMsg}
use Rattle.krb_der.specs.declared.private.PrivMsg.{PrivMsg}
use Rattle.krb_der.specs.Body.{IsBody, part}
use Rattle.krb_der.specs.Message.{Spells, message, safe_input}
use Rattle.krb_der.proofs.Sizes.{small_part, small_safe, small_private}
use Rattle.krb_etype.specs.declared.etype.Etype.{Etype}
use Rattle.krb_etype.specs.declared.etype.Etype.TheVariants as etypes
use Rattle.krb_etype.specs.Etype.{number_of, checksum_number}
use Rattle.krb_etype.specs.Keys.{checksum_key, encrypted}
use Rattle.krb_seal.specs.declared.session.Mode.{Mode}
use Rattle.krb_seal.specs.declared.session.Mode.TheVariants.{Safe, Priv}
use Rattle.krb_seal.specs.declared.session.Session.{Session}
use Rattle.krb_seal.specs.Seals.{Seals, sealed, sealed_as, sealed_safe, sealed_priv, unsigned, body_of}
use Rattle.krb_seal.proofs.Frames.{optional-small, length-encrypted}
use Rattle.krb_seal.proofs.SealedFrames.{one_frame}
use Rattle.krb_tlv.specs.Integer.{IsInt32}
use Rattle.krb_seal.specs.Exists.{IsHost, HasHosts, CanBeSealed, OneFrameExists}
use Rattle.krb_seal.proofs.BytesLemmas.{joined, of_part}

safe_type : (e : Etype) → IsInt32 (checksum_number e)
safe_type etypes.Aes128 = omega arith
safe_type etypes.Aes256 = omega arith

priv_type : (e : Etype) → IsInt32 (number_of e)
priv_type etypes.Aes128 = omega arith
priv_type etypes.Aes256 = omega arith

kinds : (o : Option HostAddress) → IfSome o IsHost → IfSome o (λ a. IsInt32 a.kind)
kinds None h = tt
kinds (Some a) h = h.kind

module _ (etype : Etype) (key : List ℕ) (s : Session) (number at : ℕ) (user conf : List ℕ) (hosts : HasHosts s) (can : CanBeSealed number at user conf) where
  abbrev b : Body
  b = body_of s number user at

  is_body : IsBody b
  is_body = record {
    time = omega (arith, can.moment);
    usec = omega (arith, can.moment);
    seq = omega (arith, can.number);
    s_addr = hosts.sender.kind;
    r_addr = kinds s.r_addr hosts.receiver;
  }

  short_body : length (part b) ≤ user_data_limit + 280
  short_body = omega (arith, small_part b, can.few, (hosts.short).sender, optional-small s.r_addr (hosts.short).receiver)

  plain : AreBytes (conf ++ part b)
  plain = joined conf (part b) can.drawn (of_part b is_body can.bytes hosts.sender hosts.receiver (omega (arith, short_body)))

  spelt_as : (mode : Mode) → Spells (sealed_as mode etype key conf b) (message (sealed_as mode etype key conf b))
  spelt_as Safe =
      let m : SafeMsg = sealed_safe etype key b in
      let sum : length m.checksum ≡ 12 = length-hmac96 (checksum_key key) (safe_input (unsigned etype b)) in
      record {
        in_range = record { pvno = omega arith; msg_type = omega arith; body = is_body; cksum_type = safe_type etype };
        spelt = refl;
        short = omega (arith, small_safe m, sum, can.few, (hosts.short).sender, optional-small s.r_addr (hosts.short).receiver);
      }
  spelt_as Priv =
      let m : PrivMsg = sealed_priv etype key conf b in
      let long : length (encrypted key (conf ++ part b)) ≡ length (conf ++ part b) + 12 = length-encrypted key (conf ++ part b) (omega (arith, length-append conf (part b), can.confounder)) in
      record {
        in_range = record { pvno = omega arith; msg_type = omega arith; etype = priv_type etype; kvno = tt };
        spelt = refl;
        short = omega (arith, small_private m, long, length-append conf (part b), can.confounder, short_body);
      }

  pub seals_it : Seals (number_of etype) key s number user at conf (message (sealed_as s.mode etype key conf b))
  seals_it = record { etype = etype; known = refl; body = is_body; confounder = can.confounder; plain = λ e. plain; spelt = spelt_as s.mode }

pub one_exists : OneFrameExists
unfolding sealed
one_exists etype key s number at user conf frame hosts can = (
  λ seals. one_frame etype key s number user at conf frame seals,
  λ is. subst (λ (f : List ℕ). Seals (number_of etype) key s number user at conf f) (sym is) (seals_it etype key s number at user conf hosts can),
)
