-- The end is taken where more than all frames are.
use Rattle.std.proofs.Common.{◌≡◌, length, nat_lt, subst, sym, ap, ◌∙◌, arith}
use Rattle.krb_base.specs.Lane.{has_end}
use Rattle.krb_core.specs.Track.{TrackState}
use Rattle.krb_core.proofs.TrackLemmas.{done_by}
use Rattle.krb_core.proofs.track.Track.is_done.Goals as goal

pub returns : goal.returns
returns c =
    let old = c.self.inside in
    let many : length old.wire ≡ c.len.result = omega arith in
    let P : TrackState → Type 0 = λ t. nat_lt c.len.result old.taken ≡ has_end t.lane.got in
    subst P c.self.view_is (ap (λ n. nat_lt n old.taken) (sym many) ∙ done_by old.wire old.taken)
