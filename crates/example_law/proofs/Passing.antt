-- The law at a frame that was sealed and opened.
use Rattle.std.specs.Prelude.{◌≡◌, ℕ, List, Ok}
use Rattle.std.proofs.Common.{inl, inr, sym, subst}
use Rattle.krb_seal.specs.Laws.{NowhereElse}
use Rattle.krb_seal.specs.Opens.{OpenerState, Opens}
use Rattle.krb_seal.specs.Sealer.{SealerState, SealsNext}
use Rattle.krb_seal.specs.Seals.{Seals}
use Rattle.krb_seal.specs.Unseals.{OrMemory}

-- an Ok is no want of memory
opened :
    (o : OpenerState) (number now : ℕ) (frame given : List ℕ)
    → OrMemory (Opens o number now frame) (Ok given) → Opens o number now frame (Ok given)
opened o number now frame given (inl e) = absurd (cc e)
opened o number now frame given (inr opens) = opens

-- what comes out is what was sealed, at its number
pub passes :
    (o : OpenerState) (s : SealerState) (user : List ℕ) (number at now : ℕ) (conf frame bytes given : List ℕ)
    → NowhereElse → o.etype ≡ s.etype → o.key ≡ s.key → SealsNext s user at conf frame → bytes ≡ frame
    → OrMemory (Opens o number now bytes) (Ok given) → (number ≡ s.next) × (given ≡ user)
passes o s user number at now conf frame bytes given law etype key sealed same answer =
    let under = subst (λ k. Seals s.etype k s.session s.next user at conf frame) (sym key) sealed in
    let seals = subst (λ e. Seals e o.key s.session s.next user at conf frame) (sym etype) under in
    law o.etype o.key s.session o.expect s.next at now number user conf frame given seals
    (opened o number now frame given (subst (λ b. OrMemory (Opens o number now b) (Ok given)) same answer))
