use Rattle.std.proofs.Common.{◌≡◌, true, false, arith}
use Rattle.std.proofs.lemmas.Grind.{common_steps}
use Rattle.std.specs.List.{list_any}
use Rattle.std.specs.Str.{bytes_eq}
use Rattle.krb_job.specs.SenderView.{keys_of}
use Rattle.krb_job.proofs.SenderLemmas.{used-keys}
use Rattle.krb_job.proofs.sender.key.Goals as goal

pub returns-then-is_used : goal.returns-then-is_used
returns-then-is_used c =
    let used : list_any (bytes_eq c.in_ok-key.key) (keys_of c.args.earlier.now) ≡ true = grind (arith, common_steps, used-keys c.in_ok-key.key c.args.earlier.now) in
    grind (arith, common_steps, used)

pub returns-else-is_used : goal.returns-else-is_used
returns-else-is_used c =
    let unused : list_any (bytes_eq c.in_ok-key.key) (keys_of c.args.earlier.now) ≡ false = grind (arith, common_steps, used-keys c.in_ok-key.key c.args.earlier.now) in
    grind (arith, common_steps, unused)
