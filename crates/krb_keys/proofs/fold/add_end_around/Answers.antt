use Rattle.std.proofs.Common.{◌≡◌, List, ℕ, ◌+◌, ◌*◌, ◌^◌, ◌<◌, ◌≤◌, length, get_or, replicate, take, ap, ◌∙◌, arith}
use Rattle.std.proofs.lemmas.List.{take-replicate}
use Rattle.krb_keys.specs.Nfold.{number}
use Rattle.krb_keys.proofs.NumberLemmas.{around_is, number-lt, number-zeros}
use Rattle.krb_keys.proofs.fold.add_end_around.Goals as goal

second_sum : (first last : List ℕ) (n m c d : ℕ) → m ≡ n → n ≤ 64
    → number last + d * 256 ^ m ≡ number first + number (take m (replicate 64 0)) + c
    → number last + d * 256 ^ n ≡ number first + 0 + c
second_sum first last n m c d e room h =
    let zeros : number (take m (replicate 64 0)) ≡ 0 =
    ap number (take-replicate m 64 0 (omega arith)) ∙ number-zeros m in
    rw e at (h ∙ ap (λ (x : ℕ). number first + x + c) zeros)

number-lt_at : (xs : List ℕ) (n : ℕ) → length xs ≡ n → ((i : ℕ) → get_or xs i 0 < 256) → number xs < 256 ^ n
number-lt_at xs n e h = rw e at (number-lt xs h)

pub returns : goal.returns
returns c =
    let n : ℕ = length c.args.out.now in
    let t = second_sum c.add_with_carry-carry.new.out c.add_with_carry-last.new.out n _ c.add_with_carry-carry.result c.add_with_carry-last.result c.add_with_carry-carry.auto.out c.requires.room c.add_with_carry-last.ensures.sum in
    around_is (number c.args.out.now) (number c.args.piece.now)
    c.add_with_carry-carry.result c.add_with_carry-last.result (number c.add_with_carry-carry.new.out)
    (number c.add_with_carry-last.new.out) (256 ^ n)
    c.add_with_carry-carry.ensures.fitted (number-lt_at c.args.piece.now n c.requires.same
    (λ i. (c.type_inv.piece i).fits))
    c.add_with_carry-carry.ensures.fits c.add_with_carry-carry.ensures.small c.add_with_carry-last.ensures.small
    c.add_with_carry-carry.ensures.sum t
