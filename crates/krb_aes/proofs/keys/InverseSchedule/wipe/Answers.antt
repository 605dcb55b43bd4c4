use Rattle.std.proofs.Common.{List, ℕ, length, replicate, ap, ◌∙◌}
use Rattle.krb_aes.proofs.KeyLemmas.{wiped_words}
use Rattle.krb_aes.proofs.keys.InverseSchedule.wipe.Goals as goal

pub returns : goal.returns
returns c =
    rw c.wipe_words.ensures
    (wiped_words c.self.inside.wide c.self.inside.words c.self.told.0 ∙ ap (λ (x : List ℕ). replicate (length x) 0) c.self.view_is)
