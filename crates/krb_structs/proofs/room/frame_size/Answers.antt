use Rattle.std.proofs.Common.{rules, ◌≡◌, ℕ, subst, sym}
use Rattle.krb_structs.specs.Room.{FitsFrames, frame_room}
use Rattle.krb_structs.proofs.RoomLemmas.{fits_frames}
use Rattle.krb_structs.proofs.room.frame_size.Goals as goal

pub returns-clause-law : goal.returns-clause-law
returns-clause-law c =
    let n = c.args.len in
    let value : c.min.result ≡ frame_room n = search rules in
    let law = c.size_laws.ensures in
    subst (λ (room : ℕ). FitsFrames n room) (sym value) (fits_frames law.part law.safe law.private n)
