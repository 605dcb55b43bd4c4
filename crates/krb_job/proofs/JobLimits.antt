-- What the checks of a whole job let through keeps its limits.
use Rattle.std.proofs.Common.{◌≡◌, ◌≤◌, ℕ, ◌+◌, nat_le, pos, negsuc, lit≤, Bool, true, false, ◌&&◌, List, [], ◌∷◌, ◌++◌, length, map, codes, Option, Some, None, Result, Ok, Err, IfOk, refl, sym, ap, ◌∙◌, arith}
use Rattle.std.proofs.lemmas.Bool.Decides.{nat_tests}
use Rattle.std.proofs.lemmas.List.{length-map}
use Rattle.krb_base.specs.Limits.{capacity_limit, lane_limit}
use Rattle.toml.specs.Data.{Data, string, integer, float, boolean, datetime, array, table, Items, no_items, item, Members, get_member}
use Rattle.krb_job.specs.declared.bad_input.BadInput.{BadInput}
use Rattle.krb_job.specs.declared.bad_input.JobError.{JobError}
use Rattle.krb_job.specs.declared.job.Job.{Job as ReadJob}
use Rattle.krb_job.specs.declared.bad_input.BadInput.TheVariants as bad
use Rattle.krb_job.specs.declared.job.SenderJob.{SenderJob}
use Rattle.krb_job.specs.declared.job.Command.{Command}
use Rattle.krb_job.specs.declared.job.Command.TheVariants.{Seal, Open, Relay}
use Rattle.krb_job.specs.Checks.{◌>>=◌}
use Rattle.krb_job.specs.Values.{number_of}
use Rattle.krb_job.specs.Lists.{count}
use Rattle.krb_job.specs.SenderKeys.{Sender}
use Rattle.krb_job.specs.Job.{Job, capacity_of, capacity_if_there, are_tables, are_senders, most_senders, senders_if_there, items_of_senders, sender_at, senders_from, GivesJob, job_view, has_top_keys, if_top_known, job_of}
use Rattle.krb_job.specs.SenderView.{sender_view}
use Rattle.krb_job.proofs.Given.{checked, given, within}

-- a test of both bounds
between : (low n high : ℕ) → (nat_le low n && nat_le n high) ≡ true → (low ≤ n) × (n ≤ high)
between low n high e = (grind (arith, nat_tests), grind (arith, nat_tests))

-- a number that was read is in its range
number-within : (low high : ℕ) (d : Data) (n : ℕ) → number_of low high d ≡ Some n → (low ≤ n) × (n ≤ high)
number-within low high (integer (pos m)) n e = let fit = within (nat_le low m && nat_le m high) m n e in rw (← fit.1) (between low m high fit.0)
number-within low high (integer (negsuc m)) n e = absurd cc
number-within low high (string text) n e = absurd cc
number-within low high (float x) n e = absurd cc
number-within low high (boolean x) n e = absurd cc
number-within low high (datetime dt) n e = absurd cc
number-within low high (array ds) n e = absurd cc
number-within low high (table ms) n e = absurd cc

-- so is the capacity, which is 1 where it is absent
capacity-within : (o : Option Data) (n : ℕ) → capacity_if_there o ≡ Some n → (1 ≤ n) × (n ≤ capacity_limit)
capacity-within None n e = let same : 1 ≡ n = cc in (omega arith, omega arith)
capacity-within (Some d) n e = number-within 1 capacity_limit d n e

-- the capacity of a job
pub capacity_fits : (ms : Members) (n : ℕ) → capacity_of ms ≡ Ok n → (1 ≤ n) × (n ≤ capacity_limit)
capacity_fits ms n e = let o = get_member (codes "capacity") ms in capacity-within o n (given (capacity_if_there o) bad.Capacity n e)

and_right : (a b : Bool) → (a && b) ≡ true → b ≡ true
and_right true b e = e
and_right false b e = absurd cc

-- a list of senders that passed has as many as the command allows
count-within : (command : Command) (o : Option Data) (ds : Items) → senders_if_there command o ≡ Some ds → (1 ≤ count ds) × (count ds ≤ most_senders command)
count-within command None ds e = absurd cc
count-within command (Some (array es)) ds e =
    let fit = within (are_senders command es) es ds e in
    rw (← fit.1) (between 1 (count es) (most_senders command) (and_right (are_tables es) (nat_le 1 (count es) && nat_le (count es) (most_senders command)) fit.0))
count-within command (Some (string text)) ds e = absurd cc
count-within command (Some (integer z)) ds e = absurd cc
count-within command (Some (float x)) ds e = absurd cc
count-within command (Some (boolean x)) ds e = absurd cc
count-within command (Some (datetime dt)) ds e = absurd cc
count-within command (Some (table ms)) ds e = absurd cc

-- the list of a job
count_fits : (command : Command) (ms : Members) (ds : Items) → items_of_senders command ms ≡ Ok ds → (1 ≤ count ds) × (count ds ≤ most_senders command)
count_fits command ms ds e = let o = get_member (codes "sender") ms in count-within command o ds (given (senders_if_there command o) bad.Sender ds e)

-- no command allows more than `relay`
most_senders-≤ : (command : Command) → most_senders command ≤ lane_limit
most_senders-≤ Seal = lit≤ tt
most_senders-≤ Open = lit≤ tt
most_senders-≤ Relay = lit≤ tt

-- each item gives one sender
length-senders : (command : Command) (j : ℕ) (earlier : List (List ℕ)) (ds : Items) (senders : List Sender)
    → senders_from command j earlier ds ≡ Ok senders → length senders ≡ count ds
length-senders command j earlier no_items senders e = let same : [] ≡ senders = cc in rw (← same) refl
length-senders command j earlier (item d ds) senders e =
    let first = checked (sender_at command j earlier d) (λ s. senders_from command (j + 1) (earlier ++ s.protection.key ∷ []) ds >>= λ others. Ok (s ∷ others)) senders e in
    let others = checked (senders_from command (j + 1) (earlier ++ first.0.protection.key ∷ []) ds) (λ others. Ok (first.0 ∷ others)) senders first.2 in
    let same : first.0 ∷ others.0 ≡ senders = cc in
    rw (← same) (grind (arith, length-senders command (j + 1) (earlier ++ first.0.protection.key ∷ []) ds others.0 others.1))

-- as many senders were read as the command allows
senders-count : (command : Command) (ms : Members) (ds : Items) (senders : List Sender)
    → items_of_senders command ms ≡ Ok ds → senders_from command 0 [] ds ≡ Ok senders → (1 ≤ length senders) × (length senders ≤ most_senders command)
senders-count command ms ds senders there read = rw (length-senders command 0 [] ds senders read) (count_fits command ms ds there)

-- a job has one sender at least, and no more than the limit
pub senders_fit : (command : Command) (ms : Members) (ds : Items) (senders : List SenderJob)
    → items_of_senders command ms ≡ Ok ds → senders_from command 0 [] ds ≡ Ok (map sender_view senders) → (1 ≤ length senders) × (length senders ≤ lane_limit)
senders_fit command ms ds senders there read =
    let fits = rw (length-map senders sender_view) at (senders-count command ms ds (map sender_view senders) there read) in
    let most = most_senders-≤ command in
    (fits.0, omega arith)

-- two values of one answer are one
value-ok : {A E : Type 0} (x y : A) → ◌≡◌ {A = Result A E} (Ok x) (Ok y) → x ≡ y
value-ok x y e = cc

-- what passed the check of the top keys is what was read
top_known-ok : (known : Bool) (r : Result (List Sender) BadInput) (senders : List Sender) → if_top_known known r ≡ Ok senders → r ≡ Ok senders
top_known-ok true r senders e = e
top_known-ok false r senders e = absurd cc

-- what a job is made of
parts_of-job : (command : Command) (ms : Members) (job : Job) → job_of command ms ≡ Ok job
    → (ds : Items) × (items_of_senders command ms ≡ Ok ds) × (senders_from command 0 [] ds ≡ Ok job.senders)
unfolding job_of
parts_of-job command ms job e =
    let capacity = checked (capacity_of ms) _ job e in
    let items = checked (items_of_senders command ms) _ job capacity.2 in
    let senders = checked (if_top_known (has_top_keys ms) (senders_from command 0 [] items.0)) _ job items.2 in
    let same : senders.0 ≡ job.senders = ap (λ (x : Job). x.senders) (value-ok _ job senders.2) in
    (items.0, items.1, top_known-ok (has_top_keys ms) (senders_from command 0 [] items.0) senders.0 senders.1 ∙ ap Ok same)

-- a command of one sender has one
one_of-job : (command : Command) (ms : Members) (job : Job) → most_senders command ≡ 1 → job_of command ms ≡ Ok job → length job.senders ≡ 1
one_of-job command ms job one e =
    let parts = parts_of-job command ms job e in
    let fits = senders-count command ms parts.0 job.senders parts.1 parts.2 in
    omega arith

-- what holds of each job that the checks give holds of the one that was read
pub of_checks : {X Y : Type 0} (view : X → Y) (r : Result X JobError) (checks : Result Y BadInput) (Q : X → Type 0)
    → GivesJob view r checks → ((x : X) → checks ≡ Ok (view x) → Q x) → IfOk r Q
of_checks view (Ok x) checks Q gives holds = holds x gives
of_checks view (Err e) checks Q gives holds = tt

-- the same of the job that was read
pub one_read : (command : Command) (ms : Members) (job : ReadJob) → most_senders command ≡ 1 → job_of command ms ≡ Ok (job_view job) → length job.senders.items ≡ 1
one_read command ms job one e = sym (length-map job.senders.items sender_view) ∙ one_of-job command ms (job_view job) one e
