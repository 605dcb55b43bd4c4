use Rattle.std.proofs.Common.{◌≡◌, ℕ, ◌+◌, ◌≤◌, List, ◌++◌, length, take, replicate, sym, ap, ap₂, ◌∙◌, arith}
use Rattle.std.proofs.Math.Seq.{take-append_seam}
use Rattle.std.proofs.lemmas.List.{take-replicate, length-replicate}
use Rattle.krb_keys.specs.Nfold.{number, nfold}
use Rattle.krb_keys.specs.Stream.{around, stream_byte}
use Rattle.krb_keys.proofs.SumLemmas.{sum_none, sum_more, sum_all}
use Rattle.krb_keys.proofs.fold.nfold.Goals as goal

front : (piece rest : List ℕ) (n : ℕ) → length piece ≡ n → take n (piece ++ rest) ≡ piece
front piece rest n e = ap (λ (k : ℕ). take k (piece ++ rest)) (sym e) ∙ take-append_seam piece rest

length_zeros : (n : ℕ) → n ≤ 64 → length {A = ℕ} (take n (replicate 64 0)) ≡ n
length_zeros n h = ap (length {A = ℕ}) (take-replicate n 64 0 h) ∙ length-replicate n 0

pub loop-p-init : goal.loop-p-init
loop-p-init c =
    let zeros : c.fill.new.self ≡ replicate (length c.args.out.now) 0 = c.fill.ensures.after (λ y h. h) in
    record {
      sum = ap number (zeros ∙ ap (λ (k : ℕ). replicate k 0) (sym c.fill.ensures.len))
          ∙ sum_none (length c.fill.new.self) (stream_byte c.args.input.now);
      bytes = λ i. (c.type_inv.out i).fits;
    }

pub loop-p-preserved : goal.loop-p-preserved
loop-p-preserved c =
    let n : ℕ = length c.fill.new.self in
    let piece : List ℕ = c.fill_piece.new.piece in
    let len : length piece ≡ n = c.fill_piece.auto.piece ∙ length_zeros n (omega arith) in
    record {
      sum = sum_more c.args.input.now c.loop-p.out piece c.add_end_around.new.out n c.loop-p.p (omega arith)
          len c.fill_piece.ensures c.loop-p.invariant.sum
          (c.add_end_around.ensures ∙ ap₂ (λ (k x : ℕ). around k (number c.loop-p.out + x)) c.loop-p.auto.out
          (ap number (front piece _ n len)));
      bytes = λ i. (c.type_inv.out i).fits;
    }

pub returns : goal.returns
returns c =
    let n : ℕ = length c.fill.new.self in
    sum_all c.args.input.now c.loop-p.out n c.repetitions.result c.loop-p.p
    (λ i. (c.type_inv.input i).fits)
    c.loop-p.invariant.bytes c.requires.some c.loop-p.auto.out c.repetitions.ensures.value c.repetitions.ensures.whole (omega arith) c.loop-p.invariant.sum
    ∙ ap (λ (k : ℕ). nfold k c.args.input.now) c.fill.ensures.len
