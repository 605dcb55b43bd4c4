-- The code that may be given is that of the frame that waits first.
use Rattle.std.proofs.Common.{◌∙◌, ◌-◌, ℕ, List, refl, sym, subst, arith}
use Rattle.krb_seal.specs.Covered.{IsCodedFrame}
use Rattle.krb_relay.proofs.OpeningLemmas.{begins_with, judges_frame}
use Rattle.krb_relay.proofs.together.judge_first.Goals as goal

pub judge-requires-clause-coded : goal.judge-requires-clause-coded
judge-requires-clause-coded c x given =
    let frames : List (List ℕ) = c.args.waiting.now.frames.items in
    let frame : List ℕ = c.in_ok-frame.frame.now in
    let some = c.in_ok-frame.ensures.variant.0 refl in
    let len = c.args.waiting.now.frames.ok.0 in
    let begins = begins_with frames frame (omega (arith, some, len)) c.in_ok-frame.ensures.lookup in
    let P : List ℕ → Type 0 = λ f. IsCodedFrame c.args.receiving.now.receiver.opener f x in
    subst P (sym c.as_slice.ensures) (c.requires.coded x given frame begins.0 begins.1)

pub returns : goal.returns
returns c place at =
    let frames : List (List ℕ) = c.args.waiting.now.frames.items in
    let frame : List ℕ = c.in_ok-frame.frame.now in
    let some = c.in_ok-frame.ensures.variant.0 refl in
    let len = c.args.waiting.now.frames.ok.0 in
    let count = c.len.ensures ∙ len in
    let begins = begins_with frames frame (omega (arith, some, len)) c.in_ok-frame.ensures.lookup in
    judges_frame c.args.receiving.now (c.args.waiting.now.came - c.len.result) place frames begins.0 frame c.as_slice.result.now c.judge.result c.judge.new.receiving begins.1 c.as_slice.ensures
    (omega (arith, at, count)) c.judge.ensures
