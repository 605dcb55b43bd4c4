-- What a call in C answers is a verdict, or none.
use Rattle.std.proofs.Common.{◌≡◌, ℕ, List, Option, Some, None, Ok, Err, inl, inr, sym, ◌∙◌, arith}
use Rattle.krb_seal.specs.declared.refusal.Refusal.{Refusal}
use Rattle.krb_seal.specs.declared.refusal.Refusal.TheVariants as refusals
use Rattle.krb_seal.specs.Refusal.{code_of}
use Rattle.krb_peers.specs.ReceiverState.{ReceiverState}
use Rattle.krb_peers.specs.Verdicts.{Verdict, IsVerdict}
use Rattle.krb_structs.specs.Moment.{micros_of}
use Rattle.krb_structs.specs.Reasons.{VerdictAnswer}
use Rattle.krb_peers.specs.Calls.{Moves}
use Rattle.krb_laws.specs.InC.{AnswersCode, AcceptsSome, CallsAreTakesInC}
use Rattle.krb_peers.proofs.CallLemmas.{refused_still}

-- no refusal has the number 0
some_code : (r : Refusal) → ¬ (code_of r ≡ 0)
some_code refusals.FieldTooLong e = omega (arith, e)
some_code refusals.Malformed e = omega (arith, e)
some_code refusals.BadVersion e = omega (arith, e)
some_code refusals.MsgType e = omega (arith, e)
some_code refusals.EtypeNoSupp e = omega (arith, e)
some_code refusals.BadIntegrity e = omega (arith, e)
some_code refusals.InappCksum e = omega (arith, e)
some_code refusals.BadAddr e = omega (arith, e)
some_code refusals.Skew e = omega (arith, e)
some_code refusals.BadOrder e = omega (arith, e)
some_code refusals.Modified e = omega (arith, e)
some_code refusals.BadRecord e = omega (arith, e)
some_code refusals.AfterClose e = omega (arith, e)
some_code refusals.Memory e = omega (arith, e)

module _ (before after : ReceiverState) (now : ℕ) (frame : List ℕ) (room code : ℕ) (accepts : code ≡ 0 → AcceptsSome before now frame after) (still : ¬ (code ≡ 0) → after ≡ before) where
  abbrev Is : Type 0
  Is = (verdict : Option Verdict) × AnswersCode code verdict × Moves before now frame verdict after

  by_verdict : (v : Verdict) → IsVerdict before.opener before.demand now frame v → VerdictAnswer v room code → Is
  by_verdict (Ok d) is (inl no_room) = (None, inr (inl no_room.1), still (λ e. omega (arith, e, no_room.1)))
  by_verdict (Ok d) is (inr done) =
      let w = accepts done.1 in
      (Some (Ok w.1.1.0), done.1, (w.1.1.1, w.1.1.3))
  by_verdict (Err r) is answer = (Some (Err r), answer, (is, still (λ e. some_code r (sym answer ∙ e)) ∙ sym (refused_still before r)))

pub are_takes_in_c : CallsAreTakesInC
are_takes_in_c before after at frame room code (inl bad) accepts still = (None, inr (inr (inr bad.1)), still (λ e. omega (arith, e, bad.1)))
are_takes_in_c before after at frame room code (inr (zeros, inl bad)) accepts still = (None, inr (inr (inl bad.1)), still (λ e. omega (arith, e, bad.1)))
are_takes_in_c before after at frame room code (inr (zeros, inr (is_moment, inl memory))) accepts still = (None, inl memory.0, still (λ e. omega (arith, e, memory.0)))
are_takes_in_c before after at frame room code (inr (zeros, inr (is_moment, inr (v, is, answer)))) accepts still = by_verdict before after (micros_of at) frame room code accepts still v is answer
