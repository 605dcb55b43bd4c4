-- What a receipt says, and what a sender finds by it.
use Rattle.std.specs.Prelude.{◌≡◌, ◌≢◌, ℕ, ◌-◌, ◌<◌, ◌≤◌, ◌+◌, List, length, take}
use Rattle.krb_carry.specs.History.{no_history, with_frames}
use Rattle.krb_carry.specs.declared.receipt.Finding.{Finding}
use Rattle.krb_carry.specs.declared.receipt.Finding.TheVariants.{Repeat, Delivered, Older, Forked}
use Rattle.krb_carry.specs.declared.receipt.Receipt.{Receipt}

-- the frames below a number, of these, which begin at the first number
abbrev pub below : ℕ → List (List ℕ) → ℕ → List (List ℕ)
below first frames number = take (number - first) frames

-- their digest
abbrev pub history_of : List (List ℕ) → List ℕ
history_of frames = with_frames no_history frames

abbrev pub history_below : ℕ → List (List ℕ) → ℕ → List ℕ
history_below first frames number = history_of (below first frames number)

-- A true receipt: all frames below its number took effect, and it has their digest.
pub record IsTrue (first : ℕ) (took : List (List ℕ)) (receipt : Receipt) : Type 0 where
  pub took_effect : receipt.number ≤ first + length took
  pub history : receipt.history ≡ history_below first took receipt.number

-- What a sender finds. It took all below `done` for delivered and seals `next` next, and its own frames
-- below the receipt's number have the digest `own`.
abbrev pub Finds : ℕ → ℕ → List ℕ → Receipt → Finding → Type 0
Finds done next own receipt Repeat = receipt.number ≤ done
Finds done next own receipt Older = (done < receipt.number) × (next < receipt.number)
Finds done next own receipt Delivered =
    (done < receipt.number) × (receipt.number ≤ next) × (own ≡ receipt.history)
Finds done next own receipt Forked =
    (done < receipt.number) × (receipt.number ≤ next) × (own ≢ receipt.history)
