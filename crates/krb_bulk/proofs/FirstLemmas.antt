-- One frame more, and four.
use Rattle.std.proofs.Common.{◌≡◌, ℕ, suc, ◌+◌, ◌<◌, ◌≤◌, List, [], ◌∷◌, ◌++◌, length, take, sym, subst, arith, length-append}
use Rattle.std.proofs.lemmas.List.{take_all}
use Rattle.std.specs.Global.{Vec}
use Rattle.krb_bulk.specs.declared.bulk.Bulk.{Bulk}
use Rattle.krb_bulk.specs.declared.unsealed.Unsealed.{Unsealed}
use Rattle.krb_bulk.specs.declared.four.Four.{Four}
use Rattle.krb_bulk.specs.Four.{AreFrom}
use Rattle.krb_bulk.specs.Many.{SealsInTurn}
use Rattle.krb_bulk.specs.BulkInside.{SealsAt, SealsFirst, sealer_of}
use Rattle.krb_bulk.proofs.TurnLemmas.{seals_more}

length-more : (fs : List (Vec ℕ)) (f : Vec ℕ) → length (fs ++ f ∷ []) ≡ suc (length fs)
length-more fs f = omega (arith, length-append fs (f ∷ []))

-- no frames
pub no_first : (b : Bulk) (fs : List (Vec ℕ)) → length fs ≡ 0 → SealsFirst b fs
no_first b [] is = (omega arith, tt)
no_first b (f ∷ fs) is = absurd (omega (arith, is))

-- the frames of all messages
pub all_first : (b : Bulk) (fs : List (Vec ℕ)) → SealsFirst b fs → length b.messages.now ≤ length fs → SealsInTurn (sealer_of b) b.messages.now fs
all_first b fs h le = subst (λ (ms : List Unsealed). SealsInTurn (sealer_of b) ms fs) (take_all (length fs) b.messages.now le) h.1

-- the frame of the next message, behind those of the first
pub first_more : (b : Bulk) (fs : List (Vec ℕ)) (f : Vec ℕ) (n : ℕ) → n ≡ length fs → n < length b.messages.now → SealsFirst b fs → SealsAt b n f.items
    → SealsFirst b (fs ++ f ∷ [])
first_more b fs f n is lt h at =
    let here : SealsAt b (length fs) f.items = subst (λ (k : ℕ). SealsAt b k f.items) is at in (
      omega (arith, length-more fs f, is, lt),
      subst (λ (k : ℕ). SealsInTurn (sealer_of b) (take k b.messages.now) (fs ++ f ∷ [])) (sym (length-more fs f))
          (seals_more (sealer_of b) b.messages.now fs f (omega (arith, is, lt)) h.1 here),
    )

-- those of the next four
pub four_more : (b : Bulk) (fs : List (Vec ℕ)) (four : Four (Vec ℕ)) (n : ℕ) → n ≡ length fs → n + 4 ≤ length b.messages.now → SealsFirst b fs
    → AreFrom (λ k v. SealsAt b k v.items) n four → SealsFirst b (fs ++ four.a ∷ [] ++ four.b ∷ [] ++ four.c ∷ [] ++ four.d ∷ [])
four_more b fs four n is le h each =
    let first : List (Vec ℕ) = fs ++ four.a ∷ [] in
    let second : List (Vec ℕ) = first ++ four.b ∷ [] in
    let third : List (Vec ℕ) = second ++ four.c ∷ [] in
    let one : n + 1 ≡ length first = omega (arith, is, length-more fs four.a) in
    let two : n + 2 ≡ length second = omega (arith, one, length-more first four.b) in
    let three : n + 3 ≡ length third = omega (arith, two, length-more second four.c) in
    first_more b third four.d (n + 3) three (omega (arith, le))
    (first_more b second four.c (n + 2) two (omega (arith, le))
    (first_more b first four.b (n + 1) one (omega (arith, le))
    (first_more b fs four.a n is (omega (arith, le)) h each.a) each.b) each.c) each.d
