-- The keys of senders.
use Rattle.std.proofs.Common.{◌≡◌, ℕ, ◌||◌, List, [], ◌∷◌, refl, ap}
use Rattle.std.specs.List.{list_any}
use Rattle.std.specs.Str.{bytes_eq}
use Rattle.krb_job.specs.declared.job.SenderJob.{SenderJob}
use Rattle.krb_job.specs.SenderView.{keys_of}

pub used-keys : (key : List ℕ) (senders : List SenderJob) → list_any (λ s. bytes_eq key s.key) senders ≡ list_any (bytes_eq key) (keys_of senders)
used-keys key [] = refl
used-keys key (s ∷ senders) = ap (λ b. bytes_eq key s.key || b) (used-keys key senders)
