-- What was read is what the input tells.
use Rattle.std.proofs.lemmas.Bool.{true≢false}
use Rattle.std.proofs.lemmas.Str.{IsUtf8-from_is_utf8, is_utf8-from_IsUtf8}
use Rattle.std.specs.Str.{is_utf8}
use Rattle.toml.specs.Parse.{parse_document}
use Rattle.std.proofs.Common.{Bool, true, false, ◌≡◌, refl, inr, List, ℕ, ◌++◌, Option, Some, None, Result, Ok, Err, OnOk, OnErr, sym, ap, subst, ◌∙◌, append-nil}
use Rattle.std.specs.Result.{IsErrAnd}
use Rattle.toml.specs.Data.{Members}
use Rattle.krb_job.specs.declared.job.Command.{Command}
use Rattle.krb_job.specs.declared.job.Job.{Job as ReadJob}
use Rattle.krb_job.specs.declared.job.SenderJob.{SenderJob}
use Rattle.krb_job.specs.declared.bad_input.BadInput.{BadInput}
use Rattle.krb_job.specs.declared.bad_input.BadInput.TheVariants as bad
use Rattle.krb_job.specs.declared.bad_input.JobError.{JobError}
use Rattle.krb_job.specs.declared.bad_input.JobError.TheVariants as job
use Rattle.krb_job.specs.Job.{job_of, job_view, IsTree, GivesJob}
use Rattle.krb_job.specs.SenderView.{sender_view}
use Rattle.krb_seal.specs.Sealer.{SealerState}
use Rattle.krb_peers.specs.Sender.{Source}
use Rattle.krb_commands.specs.declared.fault.Fault.{Fault}
use Rattle.krb_commands.specs.declared.fault.Fault.TheVariants as fault
use Rattle.krb_commands.specs.Fault.{of_job}
use Rattle.krb_commands.specs.Input.{ReadsAll}
use Rattle.krb_commands.specs.Ends as ends
use Rattle.krb_commands.specs.Sealed.{PrintsSealed, PrintsSealedPrefix}
use Rattle.krb_commands.specs.Opened.{PrintsOpenedPrefix}
use Rattle.krb_commands.specs.Parsed.{Parsed, parsed_at, parsed_of, IsParsed, HasOneSender}
use Rattle.krb_commands.specs.Jobs.{SealsSender, SealsSenderPrefix, OpensParsedPrefix}

-- a reader that was read to its end gave all that it had
parsed_read : (command : Command) (old new : Option (List ℕ)) (bytes : List ℕ) (parsed : Parsed) → ReadsAll old new bytes → IsParsed command old parsed → parsed ≡ parsed_of command bytes
parsed_read command None new bytes parsed all is = absurd is
parsed_read command (Some xs) None bytes parsed all is = absurd all.0
parsed_read command (Some xs) (Some ys) bytes parsed all is =
    let e : xs ≡ bytes = all.0 ∙ ap (λ l. bytes ++ l) all.1 ∙ append-nil bytes in is ∙ ap (parsed_of command) e

gives_at : (command : Command) (bytes : List ℕ) (r : Result ReadJob JobError) (utf8 : Bool) (document : Option Members)
    → ((ms : Members) → IsTree bytes ms → GivesJob job_view r (job_of command ms))
    → (((ms : Members) → ¬ IsTree bytes ms) → GivesJob job_view r (Err bad.Toml))
    → is_utf8 bytes ≡ utf8 → parse_document bytes ≡ document → GivesJob job_view r (parsed_at command utf8 document)
gives_at command bytes r true (Some ms) some none text parsed = some ms (IsUtf8-from_is_utf8 bytes text, parsed)
gives_at command bytes r true None some none text parsed = none (λ ms tree. let e = tree.1 in absurd cc)
gives_at command bytes r false document some none text parsed = none (λ ms tree. true≢false (sym (is_utf8-from_IsUtf8 bytes tree.0) ∙ text))

gives_parsed : (command : Command) (bytes : List ℕ) (r : Result ReadJob JobError)
    → ((ms : Members) → IsTree bytes ms → GivesJob job_view r (job_of command ms))
    → (((ms : Members) → ¬ IsTree bytes ms) → GivesJob job_view r (Err bad.Toml))
    → GivesJob job_view r (parsed_of command bytes)
unfolding parsed_of
gives_parsed command bytes r some none = gives_at command bytes r (is_utf8 bytes) (parse_document bytes) some none refl refl

-- what reading a job answered is what the input tells
pub reads_parsed : (command : Command) (old new : Option (List ℕ)) (bytes seen : List ℕ) (parsed : Parsed) (r : Result ReadJob JobError)
    → ReadsAll old new bytes → seen ≡ bytes
    → ((ms : Members) → IsTree seen ms → GivesJob job_view r (job_of command ms))
    → (((ms : Members) → ¬ IsTree seen ms) → GivesJob job_view r (Err bad.Toml))
    → IsParsed command old parsed → GivesJob job_view r parsed
reads_parsed command old new bytes seen parsed r all same some none is =
    let e : parsed ≡ parsed_of command seen = parsed_read command old new bytes parsed all is ∙ ap (parsed_of command) (sym same) in
    subst (λ t. GivesJob job_view r t) (sym e) (gives_parsed command seen r some none)

pub job_parsed : (parsed : Parsed) (r : Result ReadJob JobError) (job : ReadJob) → r ≡ Ok job → GivesJob job_view r parsed → parsed ≡ Ok (job_view job)
job_parsed parsed r job is gives = let P : Result ReadJob JobError → Type 0 = λ x. GivesJob job_view x parsed in subst P is gives

parsed_bad : {X : Type 0} (parsed : Parsed) (e : JobError) (out : Result X Fault) (b : BadInput)
    → GivesJob {X = ReadJob} job_view (Err e) parsed → IsErrAnd out (λ f. f ≡ of_job e) → out ≡ Err (fault.BadInput b) → parsed ≡ Err b
parsed_bad parsed (job.Bad d) (Err f) b gives passed is = let g = gives in let p = passed in let i = is in cc
parsed_bad parsed (job.Bad d) (Ok x) b gives passed is = absurd passed
parsed_bad parsed job.Memory (Err f) b gives passed is = let p = passed in let i = is in absurd cc
parsed_bad parsed job.Memory (Ok x) b gives passed is = absurd passed

-- a check that isn't passed is passed on
pub bad_parsed : {X : Type 0} (parsed : Parsed) (r : Result ReadJob JobError) (e : JobError) (out : Result X Fault) (b : BadInput)
    → r ≡ Err e → GivesJob job_view r parsed → IsErrAnd out (λ f. f ≡ of_job e) → out ≡ Err (fault.BadInput b) → parsed ≡ Err b
bad_parsed parsed r e out b is gives passed named =
    let P : Result ReadJob JobError → Type 0 = λ x. GivesJob job_view x parsed in
    parsed_bad parsed e out b (subst P is gives) passed named

-- the source that was made is the one that is parsed
pub source_parsed : (sender : SenderJob) (state : SealerState) (source : Source) → state ≡ ends.sealer_of (sender_view sender)
    → Some source ≡ ends.source_in (sender_view sender) state → ends.source_stated (sender_view sender) ≡ Some source
source_parsed sender state source made is = sym (is ∙ ap (ends.source_in (sender_view sender)) made)

pub sealed_parsed : (sender : SenderJob) (state : SealerState) (source : Source) (r : Result ℕ Fault) (old new : Option (List ℕ)) → state ≡ ends.sealer_of (sender_view sender)
    → Some source ≡ ends.source_in (sender_view sender) state → OnOk r (PrintsSealed source old new) → OnOk r (SealsSender (sender_view sender) old new)
sealed_parsed sender state source (Ok x) old new made is printed = (source, source_parsed sender state source made is, printed)
sealed_parsed sender state source (Err x) old new made is printed = tt

pub prefix_parsed : (sender : SenderJob) (state : SealerState) (source : Source) (r : Result ℕ Fault) (old new : Option (List ℕ)) → state ≡ ends.sealer_of (sender_view sender)
    → Some source ≡ ends.source_in (sender_view sender) state → OnErr r (PrintsSealedPrefix source old new) → OnErr r (SealsSenderPrefix (sender_view sender) old new)
prefix_parsed sender state source (Ok x) old new made is printed = tt
prefix_parsed sender state source (Err x) old new made is printed = inr (source, source_parsed sender state source made is, printed)

-- what was opened of the one sender, after a fault
pub opened_parsed : (parsed : Parsed) (sender : SenderJob) (frames : List (List ℕ)) (r : Result ℕ Fault) (old new : Option (List ℕ)) → HasOneSender parsed (sender_view sender) → frames ≡ sender.frames.items
    → OnErr r (PrintsOpenedPrefix (ends.receiver_of (sender_view sender)) sender.nows.items frames old new) → OnErr r (OpensParsedPrefix parsed old new)
opened_parsed parsed sender frames (Ok x) old new tells same printed = tt
opened_parsed parsed sender frames (Err x) old new tells same printed =
    inr (sender_view sender, tells, subst (λ l. PrintsOpenedPrefix (ends.receiver_of (sender_view sender)) sender.nows.items l old new) same printed)
