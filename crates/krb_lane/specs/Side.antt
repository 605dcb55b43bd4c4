-- What a contract sees of an end of a lane.
use Rattle.std.specs.Prelude.{◌≡◌, ◌++◌, ℕ, Bool, true, false, List, [], ◌∷◌, length}
use Rattle.atomic_table.specs.Seated.{TableId}
use Rattle.atomic_table.specs.declared.badge.Badge.{Badge}
use Rattle.crossbeam_channel.specs.Claims.{Pass, view, IsSeatAt}
use Rattle.crossbeam_channel.specs.Ends.{ruled_capacity}
use Rattle.crossbeam_channel.specs.declared.flavors.array.Doing.{Doing}
use Rattle.crossbeam_channel.specs.declared.flavors.array.Rows.{Rows}
use Rattle.krb_lane.specs.Items.{frames_of, has_end}
use Rattle.crossbeam_channel.specs.declared.flavors.array.Key.{Key}
use Rattle.krb_lane.specs.declared.item.Item.{Item}
use Rattle.krb_lane.specs.declared.item.Item.TheVariants.{Frame, End}
use Rattle.krb_lane.specs.declared.rule.Hand.{Hand}

-- which lane it is
pub record LaneId : Type 0 where
  pub table : TableId
  pub key : Badge (Key Item)

-- an end of a lane: the bytes of the frames that this end sent or got, and whether it sent or got
-- End
pub record Side : Type 0 where
  pub lane : LaneId
  pub capacity : ℕ
  pub frames : List (List ℕ)
  pub ended : Bool

abbrev pub lane_of : Pass Item Hand → LaneId
lane_of p = record { table = p.table_id; key = p.me.0.of }

-- what a receive that gives an item leaves: a frame has the number of frames got before as its
-- index
abbrev pub Takes : Side → Side → Item → Type 0
Takes old new (Frame i b) =
    (old.ended ≡ false) × (i ≡ length old.frames)
    × (new ≡ record old { frames = old.frames ++ b ∷ [] })
Takes old new End = new ≡ record old { ended = true }

module _
    {Q M L A : Type 0} (c : Rows (Badge (Key Item)) (Doing Item Hand) Q M (Key Item) L A)
    (p : Pass Item Hand) where
  -- p is the sender's pass of the channel c, and has sent `count` frames
  pub record IsSender (count : ℕ) : Type 0 where
    pub seat : IsSeatAt c p
    pub sends : (view p).sends ≡ true
    pub counted : count ≡ length (frames_of (view p).sent)

  -- the capacity is the channel's, and End is not sent
  pub record IsOpen : Type 0 where
    pub room : ruled_capacity c ≡ (view p).capacity
    pub unended : has_end (view p).sent ≡ false

  -- p is the receiver's pass of the channel c
  pub record IsReceiver (count : ℕ) (ended : Bool) : Type 0 where
    pub seat : IsSeatAt c p
    pub takes : (view p).takes ≡ true
    pub counted : count ≡ length (frames_of (view p).got)
    pub ends : has_end (view p).got ≡ ended

abbrev pub sent_side : Pass Item Hand → Side
sent_side p =
    record {
      lane = lane_of p;
      capacity = (view p).capacity;
      frames = frames_of (view p).sent;
      ended = has_end (view p).sent;
    }

abbrev pub got_side : Pass Item Hand → Side
got_side p =
    record {
      lane = lane_of p;
      capacity = (view p).capacity;
      frames = frames_of (view p).got;
      ended = has_end (view p).got;
    }
