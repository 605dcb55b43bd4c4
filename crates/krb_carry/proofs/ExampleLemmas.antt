-- Two frames of one number, under any key.
use Rattle.std.proofs.Common.{◌≡◌, ◌≢◌, ℕ, zero, suc, ◌<◌, List, [], ◌∷◌, replicate, refl, arith}
use Rattle.std.specs.Prelude.{slice_index}
use Rattle.krb_base.specs.Bytes.{AreBytes}
use Rattle.krb_etype.specs.declared.etype.Etype.{Etype}
use Rattle.krb_record.specs.declared.record.Record.TheVariants.{Text}
use Rattle.krb_record.specs.Record.{FitsLimits, bytes_of}
use Rattle.krb_seal.specs.Exists.{HasHosts, CanBeSealed}
use Rattle.krb_seal.specs.Seals.{sealed}
use Rattle.krb_seal.specs.Sealer.{SealerState}
use Rattle.krb_seal.proofs.ExistsLemmas.{one_exists}
use Rattle.krb_peers.specs.Session.{Sealed, SealsAt}
use Rattle.krb_carry.specs.HistoryLaws.{OneHistory}
use Rattle.krb_carry.specs.CopiesLaws.{example_sealer, ForkExists}
use Rattle.krb_carry.proofs.ForkLemmas.{forks_happen}

-- ---- bytes

no_bytes : AreBytes []
no_bytes = record { small = λ i. omega arith }

one_byte : (b : ℕ) (bytes : List ℕ) → b < 256 → AreBytes bytes → AreBytes (b ∷ bytes)
one_byte b bytes lt are = record { small = each }
  where
    each : (i : ℕ) → slice_index (b ∷ bytes) i < 256
    each zero = lt
    each (suc i) = are.small i

zeros : (n : ℕ) → AreBytes (replicate n 0)
zeros zero = no_bytes
zeros (suc n) = one_byte 0 (replicate n 0) (omega arith) (zeros n)

-- ---- the frames

module _ (etype : Etype) (key : List ℕ) where
  abbrev sealer : SealerState
  sealer = example_sealer etype key

  hosts : HasHosts sealer.session
  hosts = record {
    short = record { sender = omega arith; receiver = λ a is. absurd (let e = is in cc) };
    sender = record {
      kind = omega arith;
      bytes = one_byte 10 _ (omega arith) (one_byte 0 _ (omega arith) (one_byte 0 _ (omega arith) (one_byte 1 _ (omega arith) no_bytes)));
    };
    receiver = tt;
  }

  abbrev frame_of : ℕ → Sealed
  frame_of b = record {
    carried = Text (b ∷ []);
    at = 0;
    frame = sealed etype key sealer.session 0 (bytes_of (Text (b ∷ []))) 0 (replicate 16 0);
  }

  can_be : (b : ℕ) → b < 256 → CanBeSealed 0 0 (bytes_of (Text (b ∷ []))) (replicate 16 0)
  can_be b lt = record {
    number = omega arith;
    moment = omega arith;
    few = omega arith;
    bytes = one_byte _ _ (omega arith) (one_byte b _ lt no_bytes);
    confounder = refl;
    drawn = zeros 16;
  }

  is_sealed : (b : ℕ) → b < 256 → SealsAt sealer 0 (frame_of b)
  is_sealed b lt = record {
    confounder = replicate 16 0;
    seals = (one_exists etype key sealer.session 0 0 (bytes_of (Text (b ∷ []))) (replicate 16 0) (frame_of b).frame hosts (can_be b lt)).1 refl;
  }

  fits : (b : ℕ) → FitsLimits (Text (b ∷ []))
  fits b = omega arith

  differ : (one other : ℕ) → one < other → one ∷ [] ≢ other ∷ []
  differ one other less same =
      let e : one ∷ [] ≡ other ∷ [] = same in
      let head : one ≡ other = cc in
      omega (arith, head, less)

pub fork_exists : OneHistory → ForkExists
fork_exists alike etype key =
    let one = frame_of etype key 1 in
    let other = frame_of etype key 2 in (
      one,
      other,
      forks_happen alike (example_sealer etype key) (1 ∷ []) (2 ∷ []) one other (differ etype key 1 2 (omega arith)) refl refl (fits etype key 1) (fits etype key 2)
          (is_sealed etype key 1 (omega arith)) (is_sealed etype key 2 (omega arith)),
    )
