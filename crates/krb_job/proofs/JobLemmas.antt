-- The senders one after another.
use Rattle.std.proofs.Common.{◌≡◌, ℕ, ◌+◌, ◌<◌, ◌≤◌, List, [], ◌∷◌, ◌++◌, length, drop, map, get_or, All, refl, sym, ap, ◌∙◌, append_assoc, Result, Ok, Err, IsErr}
use Rattle.std.proofs.lemmas.List.{at_drop_all, append-nil}
use Rattle.std.proofs.lemmas.List.Elements.{All-nil, All-cons, All-append}
use Rattle.std.specs.Result.{IsErrAnd}
use Rattle.toml.specs.Data.{Items}
use Rattle.toml.specs.View.{view, items_view}
use Rattle.toml.specs.declared.value.Value.{Value}
use Rattle.toml.proofs.Views.{items_view-drop}
use Rattle.krb_job.specs.declared.job.Command.{Command}
use Rattle.krb_job.specs.declared.job.SenderJob.{SenderJob}
use Rattle.krb_job.specs.declared.bad_input.BadInput.{BadInput}
use Rattle.krb_job.specs.declared.bad_input.JobError.{JobError}
use Rattle.krb_job.specs.declared.bad_input.JobError.TheVariants as errors
use Rattle.krb_job.specs.Checks.{◌>>=◌}
use Rattle.krb_job.specs.SenderKeys.{Sender}
use Rattle.krb_job.specs.SenderView.{sender_view, keys_of}
use Rattle.krb_job.specs.Job.{sender_at, senders_from, FailsJob, GivesJob}

-- these, and then the others
abbrev pub after_ok : List Sender → Result (List Sender) BadInput → Result (List Sender) BadInput
after_ok done (Ok xs) = Ok (done ++ xs)
after_ok done (Err e) = Err e

after_ok-one : (done : List Sender) (s : Sender) (r : Result (List Sender) BadInput)
    → after_ok done (r >>= λ xs. Ok (s ∷ xs)) ≡ after_ok (done ++ s ∷ []) r
after_ok-one done s (Ok xs) = ap Ok (sym (append_assoc done (s ∷ []) xs))
after_ok-one done s (Err e) = refl

senders_at : (command : Command) (vs : List Value) (j : ℕ) (earlier : List (List ℕ)) (v : Value) → j < length vs → get_or vs j v ≡ v
    → senders_from command j earlier (items_view (drop j vs))
    ≡ (sender_at command j earlier (view v) >>= λ s. senders_from command (j + 1) (earlier ++ s.protection.key ∷ []) (items_view (drop (j + 1) vs)) >>= λ others. Ok (s ∷ others))
senders_at command vs j earlier v within at =
    ap (senders_from command j earlier) (items_view-drop vs j v within)
    ∙ ap (λ w. sender_at command j earlier (view w) >>= λ s. senders_from command (j + 1) (earlier ++ s.protection.key ∷ []) (items_view (drop (j + 1) vs)) >>= λ others. Ok (s ∷ others)) at

keys_of-more : (done : List SenderJob) (s : SenderJob) → keys_of (done ++ s ∷ []) ≡ keys_of done ++ s.key ∷ []
keys_of-more [] s = refl
keys_of-more (x ∷ done) s = ap (λ ks. x.key ∷ ks) (keys_of-more done s)

views-more : (done : List SenderJob) (s : SenderJob) → map sender_view (done ++ s ∷ []) ≡ map sender_view done ++ sender_view s ∷ []
views-more [] s = refl
views-more (x ∷ done) s = ap (λ ks. sender_view x ∷ ks) (views-more done s)

pub senders_more : (command : Command) (vs : List Value) (j : ℕ) (v : Value) (done : List SenderJob) (s : SenderJob)
    → j < length vs → get_or vs j v ≡ v → sender_at command j (keys_of done) (view v) ≡ Ok (sender_view s)
    → senders_from command 0 [] (items_view vs) ≡ after_ok (map sender_view done) (senders_from command j (keys_of done) (items_view (drop j vs)))
    → senders_from command 0 [] (items_view vs) ≡ after_ok (map sender_view (done ++ s ∷ [])) (senders_from command (j + 1) (keys_of (done ++ s ∷ [])) (items_view (drop (j + 1) vs)))
senders_more command vs j v done s within at is so_far =
    let step = senders_at command vs j (keys_of done) v within at ∙ ap (λ r. r >>= λ t. senders_from command (j + 1) (keys_of done ++ t.protection.key ∷ []) (items_view (drop (j + 1) vs)) >>= λ others. Ok (t ∷ others)) is in
    rw (views-more done s, keys_of-more done s)
    (so_far ∙ ap (after_ok (map sender_view done)) step ∙ after_ok-one (map sender_view done) (sender_view s) (senders_from command (j + 1) (keys_of done ++ s.key ∷ []) (items_view (drop (j + 1) vs))))

-- what holds of each before, and of one more
pub All-more : {A : Type 0} (P : A → Type 0) (xs : List A) (x : A) → All P xs → P x → All P (xs ++ x ∷ [])
All-more P xs x before one = All-append P xs (x ∷ []) before (All-cons P x [] one (All-nil P))

-- an error that is passed on says of the checks what it said before
pub err_gives-job : {X Y : Type 0} (view : X → Y) (r : Result X JobError) (e : JobError) (checks : Result Y BadInput)
    → IsErr r × IsErrAnd r (λ x. x ≡ e) → FailsJob e checks → GivesJob view r checks
err_gives-job view (Ok x) e checks same failed = absurd same.1
err_gives-job view (Err x) e checks same failed = rw same.1 failed

after_ok-none : (r : Result (List Sender) BadInput) → r ≡ after_ok [] r
after_ok-none (Ok xs) = refl
after_ok-none (Err e) = refl

-- no sender before the first
pub senders_none : (command : Command) (ds : Items) (done : List SenderJob) → done ≡ []
    → senders_from command 0 [] ds ≡ after_ok (map sender_view done) (senders_from command 0 (keys_of done) ds)
senders_none command ds done empty = rw empty (after_ok-none (senders_from command 0 [] ds))

-- a sender that isn't one
pub senders_stop : (command : Command) (vs : List Value) (j : ℕ) (v : Value) (done : List SenderJob) (e : JobError)
    → j < length vs → get_or vs j v ≡ v → FailsJob e (sender_at command j (keys_of done) (view v))
    → senders_from command 0 [] (items_view vs) ≡ after_ok (map sender_view done) (senders_from command j (keys_of done) (items_view (drop j vs)))
    → FailsJob e (senders_from command 0 [] (items_view vs))
senders_stop command vs j v done (errors.Bad b) within at failed so_far =
    let step = senders_at command vs j (keys_of done) v within at ∙ ap (λ r. r >>= λ t. senders_from command (j + 1) (keys_of done ++ t.protection.key ∷ []) (items_view (drop (j + 1) vs)) >>= λ others. Ok (t ∷ others)) failed in
    so_far ∙ ap (after_ok (map sender_view done)) step
senders_stop command vs j v done errors.Memory within at failed so_far = tt

-- the senders were all read
pub senders_all : (command : Command) (vs : List Value) (j : ℕ) (done : List SenderJob) → length vs ≤ j
    → senders_from command 0 [] (items_view vs) ≡ after_ok (map sender_view done) (senders_from command j (keys_of done) (items_view (drop j vs)))
    → senders_from command 0 [] (items_view vs) ≡ Ok (map sender_view done)
senders_all command vs j done past so_far =
    so_far ∙ at_drop_all (λ (us : List Value). after_ok (map sender_view done) (senders_from command j (keys_of done) (items_view us))) vs j past
    ∙ ap Ok (append-nil (map sender_view done))
