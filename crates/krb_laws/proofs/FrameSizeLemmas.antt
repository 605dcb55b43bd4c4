-- Zeros can be sealed, so there are frames of each size.
use Rattle.std.proofs.Common.{◌≡◌, ◌<◌, ℕ, ℤ, get_or, replicate, refl, sym, subst, ◌∙◌, inl, inr, arith}
use Rattle.std.proofs.lemmas.Bool.{cases_lt}
use Rattle.std.proofs.lemmas.List.{get_or_past, get_or-replicate, length-replicate}
use Rattle.krb_base.specs.Bytes.{AreBytes}
use Rattle.krb_etype.specs.Etype.{confounder_size}
use Rattle.krb_seal.specs.Exists.{CanBeSealed}
use Rattle.krb_seal.specs.Sealer.{SealerState}
use Rattle.krb_seal.specs.Seals.{Seals, sealed}
use Rattle.krb_seal.proofs.ExistsLemmas.{one_exists}
use Rattle.krb_laws.specs.FrameSizes.{CanSealNext, NextFrame, OneFits, OneFrameSize, OneHasTheSize}

zeros : (n : ℕ) → AreBytes (replicate n 0)
zeros n = record { small = small }
  where
    byte : (k : ℕ) → k ≡ 0 → k < 256
    byte k is = omega (arith, is)

    small : (i : ℕ) → get_or (replicate n 0) i 0 < 256
    small i = elim (cases_lt i n) [
      | inl within ↦ byte (get_or (replicate n 0) i 0) (get_or-replicate n i 0 0 within)
      | inr past ↦ byte (get_or (replicate n 0) i 0) (get_or_past (replicate n 0) i 0 (omega (arith, past, length-replicate {A = ℕ} n 0)))
    ]

next_frame : (s : SealerState) (n at : ℕ) → CanSealNext s n at → NextFrame s n at
next_frame s n at can =
    let user = replicate n 0 in
    let conf = replicate confounder_size 0 in
    let frame = sealed can.etype s.key s.session s.next user at conf in
    let its : CanBeSealed s.next at user conf = record {
      number = can.left;
      moment = can.moment;
      few = omega (arith, can.few, length-replicate {A = ℕ} n 0);
      bytes = zeros n;
      confounder = length-replicate {A = ℕ} confounder_size 0;
      drawn = zeros confounder_size;
    } in
    record {
      user = user;
      confounder = conf;
      frame = frame;
      long = length-replicate {A = ℕ} n 0;
      seals = subst (λ (t : ℤ). Seals t s.key s.session s.next user at conf frame) can.known ((one_exists can.etype s.key s.session s.next at user conf frame can.hosts its).1 refl);
    }

pub one_has_the_size : OneHasTheSize
one_has_the_size s n at size can all =
    let it = next_frame s n at can in
    (it, all it.user it.confounder it.frame it.long it.seals)

pub one_size : OneFrameSize
one_size s n at size other can all too =
    let it = next_frame s n at can in
    sym (all it.user it.confounder it.frame it.long it.seals) ∙ too it.user it.confounder it.frame it.long it.seals

pub one_fits : OneFits
one_fits s n at room can fit =
    let it = next_frame s n at can in
    (it, fit s it.user at it.confounder it.frame can.hosts.short it.long it.seals)
