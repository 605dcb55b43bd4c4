-- A sender as the code holds it.
use Rattle.std.specs.Prelude.{◌≡◌, ◌≤◌, ◌<◌, ℕ, ◌+◌, ◌-◌, ◌*◌, ◌==◌, if◌then◌else◌, List, length}
use Rattle.std.specs.Prelude.{take, option_map, None, true, ◌⊎◌, Result, IfOk, IfErr, OnOk, OnErr, IsErr}
use Rattle.std.specs.Global.{Vec}
use Rattle.krb_base.specs.Limits.{last_number}
use Rattle.krb_seal.specs.Sealer.{SealerState}
use Rattle.krb_seal.specs.declared.seal_error.SealError.{SealError}
use Rattle.krb_seal.specs.declared.seal_error.SealError.TheVariants.{Wiped, Memory}
use Rattle.krb_peers.specs.declared.sending.Sending.{Sending}
use Rattle.krb_peers.specs.declared.sending.Sent.{Sent}
use Rattle.krb_peers.specs.declared.sending.Ending.TheVariants.{Done, LastNumber}
use Rattle.krb_peers.specs.Draws.{after_words}
use Rattle.krb_peers.specs.Plan.{contents}
use Rattle.krb_peers.specs.Sender.{Source, IsWithinLimits, sealed_texts, records, AreFrames}
use Rattle.krb_peers.specs.Verdicts.{AllBytes}

-- the sender that a `Sending` is, where `state` says what contracts see of its sealer
abbrev pub source_of : {S : Type 0} → (S → SealerState) → Sending S → Source
source_of state sending = record {
  sealer = state sending.sealer;
  texts = sending.texts.items;
  batch = sending.batch;
  ats = sending.ats.items;
  draws = sending.draws;
  plan = option_map (λ plan. plan.items) sending.plan;
}

-- how many texts of a sender are sealed
abbrev pub sealed_of : Source → ℕ
sealed_of source = length (sealed_texts source)

-- how many texts of how many a sender seals, and why no more
abbrev pub sent_of : Source → Sent
sent_of source = record {
  sealed = sealed_of source;
  texts = length source.texts;
  ending = if sealed_of source == length source.texts then Done else LastNumber;
}

-- the same sender before its last k frames, but for its draws
abbrev pub before : ℕ → Source → Source
before k source = record source { sealer = record source.sealer { next = source.sealer.next - k } }

-- and after its next k frames, under four words each
abbrev pub source_after : ℕ → Source → Source
source_after k source = record source {
  sealer = record source.sealer { next = source.sealer.next + k };
  draws = after_words (4 * k) source.draws;
}

-- the same sender without a plan
abbrev pub unplanned : Source → Source
unplanned source = record source { plan = None }

-- the limits of a sender: no text is too long, not too many go together, there is a timestamp, and
-- a number is left for the close
pub record IsSender (source : Source) : Type 0 where
  pub limits : IsWithinLimits source
  pub ats : 0 < length source.ats
  pub next : source.sealer.next ≤ last_number

-- these are the frames of the first k records of a sender, which is in this state then
pub record HasSealed (source : Source) (k : ℕ) (frames : List (List ℕ))
    (now : Source) : Type 0 where
  pub sealed : AreFrames source (take k (records source)) frames
  pub state : now ≡ source_after k source

-- the sender sealed its first `count` records, as these frames
pub record HasSealedSome (source : Source) (count : ℕ) : Type 0 where
  pub few : count ≤ length (records source)
  pub frames : List (List ℕ)
  pub are : AreFrames source (take count (records source)) frames

-- the sealer stands after the sender's first `count` records, which were sealed
pub record StandsAfterSome (source : Source) (sealer : SealerState) : Type 0 where
  pub count : ℕ
  pub some : HasSealedSome source count
  pub is : sealer ≡ (source_after count source).sealer

-- what it is to seal all records of a sender: its frames, or why not all were sealed
pub record SealsAll {S : Type 0} (state : S → SealerState) (old now : Sending S)
    (result : Result (Vec (Vec ℕ)) SealError) : Type 0 where
  pub frames : IfOk result (λ frames. AreFrames (source_of state old)
      (records (source_of state old)) (contents frames.items))
  pub bytes : IfOk result (λ frames. AllBytes (contents frames.items))
  pub source_after : OnOk result
      (source_of state now ≡ source_after (length (records (source_of state old))) (source_of state old))
  pub stopped : OnErr result (StandsAfterSome (source_of state old) (state now.sealer))
  pub wiped : (state old.sealer).wiped ≡ true → IsErr result
  pub errors : IfErr result (λ e.
      ((e ≡ Wiped) × ((state old.sealer).wiped ≡ true)) ⊎ (e ≡ Memory))
  pub texts : now.texts ≡ old.texts
  pub batch : now.batch ≡ old.batch
  pub ats : now.ats ≡ old.ats
  pub plan : now.plan ≡ old.plan
