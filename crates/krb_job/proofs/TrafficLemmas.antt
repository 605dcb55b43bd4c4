-- The checks of what is sent or opened, one after the other.
use Rattle.std.proofs.Common.{◌≡◌, ℕ, Bool, List, [], Option, None, Result, Ok, IsErr, refl, ap}
use Rattle.std.specs.Result.{IsErrAnd}
use Rattle.toml.specs.Data.{Members}
use Rattle.krb_base.specs.Limits.{batch_limit}
use Rattle.krb_record.specs.declared.plan.Emit.{Emit}
use Rattle.krb_job.specs.declared.place.Place.{Place}
use Rattle.krb_job.specs.declared.place.Place.TheVariants.{Seed, At, Now, Texts, Batch, Plan, Frames}
use Rattle.krb_job.specs.declared.place.KeyError.{KeyError}
use Rattle.krb_job.specs.declared.place.KeyError.TheVariants as errors
use Rattle.krb_job.specs.declared.job.Command.{Command}
use Rattle.krb_job.specs.declared.job.SenderJob.{SenderJob}
use Rattle.krb_job.specs.Checks.{RefusesAs, Gives}
use Rattle.krb_job.specs.Values.{number_of, seed_of}
use Rattle.krb_job.specs.Lists.{moments_of, texts_of, plan_of, frames_of}
use Rattle.krb_job.specs.Keys.{needed, optional, only_if, some}
use Rattle.krb_job.specs.SenderKeys.{Protection, Parties, Traffic, traffic_of, sender_with, seals, opens}
use Rattle.krb_job.specs.SenderView.{sender_view}
use Rattle.krb_job.proofs.FailLemmas.{err_gives}

sender_fails : (protection : Protection) (parties : Parties) (e : KeyError) (traffic : Result Traffic Place)
    → RefusesAs e traffic → RefusesAs e (sender_with protection parties traffic)
sender_fails protection parties (errors.Bad p) traffic failed = ap (sender_with protection parties) failed
sender_fails protection parties errors.Memory traffic failed = tt

-- what refuses the traffic refuses the sender
pub err_traffic : (protection : Protection) (parties : Parties) (command : Command) (ms : Members) (r : Result SenderJob KeyError) (e : KeyError)
    → IsErr r × IsErrAnd r (λ x. x ≡ e) → RefusesAs e (traffic_of command ms) → Gives sender_view r (sender_with protection parties (traffic_of command ms))
err_traffic protection parties command ms r e same failed =
    err_gives sender_view r e (sender_with protection parties (traffic_of command ms)) same (sender_fails protection parties e (traffic_of command ms) failed)

abbrev Seeds : Bool → Members → Result (Option (List ℕ)) Place
Seeds b ms = only_if b None Seed (needed Seed (some seed_of) ms) ms

abbrev Ats : Bool → Members → Result (List ℕ) Place
Ats b ms = only_if b [] At (needed At moments_of ms) ms

abbrev Nows : Members → Result (List ℕ) Place
Nows ms = needed Now moments_of ms

abbrev AllTexts : Bool → Members → Result (List (List ℕ)) Place
AllTexts b ms = only_if b [] Texts (needed Texts texts_of ms) ms

abbrev Batches : Bool → Members → Result (ℕ) Place
Batches b ms = only_if b 1 Batch (optional 1 Batch (number_of 1 batch_limit) ms) ms

abbrev Plans : Bool → Members → Result (Option (List Emit)) Place
Plans b ms = only_if b None Plan (optional None Plan (some plan_of) ms) ms

abbrev AllFrames : Bool → Members → Result (List (List ℕ)) Place
AllFrames o ms = only_if o [] Frames (needed Frames frames_of ms) ms

-- the first check that fails refuses the traffic
module _ (command : Command) (ms : Members) (b : Bool) (sealing : b ≡ seals command) where
  pub seed_fails : (e : KeyError) → RefusesAs e (Seeds b ms) → RefusesAs e (traffic_of command ms)
  unfolding traffic_of
  seed_fails (errors.Bad p) failed = rw (← sealing, failed) refl
  seed_fails errors.Memory failed = tt

  pub ats_fails : (seed : Option (List ℕ)) (e : KeyError) → Seeds b ms ≡ Ok seed → RefusesAs e (Ats b ms) → RefusesAs e (traffic_of command ms)
  unfolding traffic_of
  ats_fails seed (errors.Bad p) is_seed failed = rw (← sealing, is_seed, failed) refl
  ats_fails seed errors.Memory is_seed failed = tt

  pub nows_fails : (seed : Option (List ℕ)) (ats : List ℕ) (e : KeyError) → Seeds b ms ≡ Ok seed → Ats b ms ≡ Ok ats → RefusesAs e (Nows ms) → RefusesAs e (traffic_of command ms)
  unfolding traffic_of
  nows_fails seed ats (errors.Bad p) is_seed is_ats failed = rw (← sealing, is_seed, is_ats, failed) refl
  nows_fails seed ats errors.Memory is_seed is_ats failed = tt

  pub texts_fails : (seed : Option (List ℕ)) (ats : List ℕ) (nows : List ℕ) (e : KeyError) → Seeds b ms ≡ Ok seed → Ats b ms ≡ Ok ats → Nows ms ≡ Ok nows → RefusesAs e (AllTexts b ms) → RefusesAs e (traffic_of command ms)
  unfolding traffic_of
  texts_fails seed ats nows (errors.Bad p) is_seed is_ats is_nows failed = rw (← sealing, is_seed, is_ats, is_nows, failed) refl
  texts_fails seed ats nows errors.Memory is_seed is_ats is_nows failed = tt

  pub batch_fails : (seed : Option (List ℕ)) (ats : List ℕ) (nows : List ℕ) (texts : List (List ℕ)) (e : KeyError) → Seeds b ms ≡ Ok seed → Ats b ms ≡ Ok ats → Nows ms ≡ Ok nows → AllTexts b ms ≡ Ok texts → RefusesAs e (Batches b ms) → RefusesAs e (traffic_of command ms)
  unfolding traffic_of
  batch_fails seed ats nows texts (errors.Bad p) is_seed is_ats is_nows is_texts failed = rw (← sealing, is_seed, is_ats, is_nows, is_texts, failed) refl
  batch_fails seed ats nows texts errors.Memory is_seed is_ats is_nows is_texts failed = tt

  pub plan_fails : (seed : Option (List ℕ)) (ats : List ℕ) (nows : List ℕ) (texts : List (List ℕ)) (batch : ℕ) (e : KeyError) → Seeds b ms ≡ Ok seed → Ats b ms ≡ Ok ats → Nows ms ≡ Ok nows → AllTexts b ms ≡ Ok texts → Batches b ms ≡ Ok batch → RefusesAs e (Plans b ms) → RefusesAs e (traffic_of command ms)
  unfolding traffic_of
  plan_fails seed ats nows texts batch (errors.Bad p) is_seed is_ats is_nows is_texts is_batch failed = rw (← sealing, is_seed, is_ats, is_nows, is_texts, is_batch, failed) refl
  plan_fails seed ats nows texts batch errors.Memory is_seed is_ats is_nows is_texts is_batch failed = tt

  pub frames_fails : (o : Bool) (opening : o ≡ opens command) (seed : Option (List ℕ)) (ats : List ℕ) (nows : List ℕ) (texts : List (List ℕ)) (batch : ℕ) (plan : Option (List Emit)) (e : KeyError) → Seeds b ms ≡ Ok seed → Ats b ms ≡ Ok ats → Nows ms ≡ Ok nows → AllTexts b ms ≡ Ok texts → Batches b ms ≡ Ok batch → Plans b ms ≡ Ok plan → RefusesAs e (AllFrames o ms) → RefusesAs e (traffic_of command ms)
  unfolding traffic_of
  frames_fails o opening seed ats nows texts batch plan (errors.Bad p) is_seed is_ats is_nows is_texts is_batch is_plan failed = rw (← sealing, ← opening, is_seed, is_ats, is_nows, is_texts, is_batch, is_plan, failed) refl
  frames_fails o opening seed ats nows texts batch plan errors.Memory is_seed is_ats is_nows is_texts is_batch is_plan failed = tt

  pub traffic_passes : (o : Bool) (opening : o ≡ opens command) (seed : Option (List ℕ)) (ats : List ℕ) (nows : List ℕ) (texts : List (List ℕ)) (batch : ℕ) (plan : Option (List Emit)) (frames : List (List ℕ)) → Seeds b ms ≡ Ok seed → Ats b ms ≡ Ok ats → Nows ms ≡ Ok nows → AllTexts b ms ≡ Ok texts → Batches b ms ≡ Ok batch → Plans b ms ≡ Ok plan → AllFrames o ms ≡ Ok frames
      → traffic_of command ms ≡ Ok (record { seed = seed; ats = ats; nows = nows; texts = texts; batch = batch; plan = plan; frames = frames })
  unfolding traffic_of
  traffic_passes o opening seed ats nows texts batch plan frames is_seed is_ats is_nows is_texts is_batch is_plan is_frames = rw (← sealing, ← opening, is_seed, is_ats, is_nows, is_texts, is_batch, is_plan, is_frames) refl
