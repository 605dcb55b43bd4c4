-- A queue that C holds.
use Rattle.std.specs.Prelude.{ℕ, ◌==◌, List, [], ◌∷◌, Option, Some, None, if◌then◌else◌}
use Rattle.krb_seal.specs.declared.refusal.Refusal.TheVariants.{Memory}
use Rattle.krb_structs.specs.declared.fault.Fault.TheVariants.{Refused}
use Rattle.krb_structs.specs.Fault.{fault_code}
use Rattle.krb_c.specs.declared.held_queue.HeldQueue.{HeldQueue}

-- the sessions that wait: none, where the handle holds nothing
abbrev pub waiting : Option HeldQueue → List ℕ
waiting None = []
waiting (Some held) = held.queue

-- the session that was served, if the answer is that one was
abbrev pub served : ℕ → ℕ → List ℕ
served answer session = if answer == 0 then [] else session ∷ []

abbrev pub out_of_memory : ℕ
out_of_memory = fault_code (Refused Memory)
