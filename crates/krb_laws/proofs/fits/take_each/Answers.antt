-- One call more, which takes the next frame, and its answer.
use Rattle.std.proofs.Common.{◌≡◌, ◌∙◌, ◌<◌, ◌+◌, ◌++◌, ◌∷◌, [], ap, sym, subst, refl, arith, ℕ, List, Vec, length, take, get_or}
use Rattle.std.proofs.lemmas.List.{length-set, map_more, map_push, take_more_set}
use Rattle.std.proofs.lemmas.List.Elements.{All-push}
use Rattle.krb_peers.specs.Calls.{Answers, Call}
use Rattle.krb_peers.specs.Plan.{contents}
use Rattle.krb_peers.specs.Verdicts.{Verdict}
use Rattle.krb_laws.specs.TakenFrames.{AreAnswers, frames_of}
use Rattle.krb_laws.proofs.fits.take_each.Goals as goal

one_more : {A : Type 0} (frames : List (Vec ℕ A)) (i : ℕ) (item : Vec ℕ A) (calls : List Call) (call : Call)
    → i < length frames → item ≡ get_or frames i item → call.frame ≡ item.items
    → frames_of calls ≡ contents (take i frames) → frames_of (calls ++ call ∷ []) ≡ contents (take (i + 1) frames)
one_more frames i item calls call within at is so_far =
    map_push (λ (made : Call). made.frame) calls call
    ∙ ap (λ l. l ++ call.frame ∷ []) so_far
    ∙ ap (λ l. contents (take i frames) ++ l ∷ []) (is ∙ ap (λ v. v.items) at)
    ∙ sym (map_more (λ v. v.items) frames i item within)

answers_more : (answers : List Verdict) (calls : List Call) (answer : Verdict) (call : Call) → AreAnswers answers calls → Answers answer call.answer → AreAnswers (answers ++ answer ∷ []) (calls ++ call ∷ [])
answers_more [] [] answer call are one = (one, tt)
answers_more [] (c ∷ calls) answer call are one = absurd are
answers_more (a ∷ answers) [] answer call are one = absurd are
answers_more (a ∷ answers) (c ∷ calls) answer call are one = (are.0, answers_more answers calls answer call are.1 one)

pub loop-k-preserved : goal.loop-k-preserved
loop-k-preserved c =
    let laws = c.calls_laws.ensures in
    let before = c.loop-k.receiver in
    let after = c.take.new.self in
    let k = c.loop-k.k in
    let so_far = c.loop-k.invariant.0 in
    let frame = c.as_slice.result.now in
    let is = laws.take before after c.args.now frame c.take.result c.take.ensures.verdict c.take.ensures.after in
    let call : Call = record { frame = frame; now = c.args.now; answer = is.0 } in
    let written = take_more_set c.loop-k.answers k c.take.result (omega (arith, c.loop-k-test.true, c.loop-k.invariant.1)) in
    let answered = answers_more (take k c.loop-k.answers) so_far.0 c.take.result call so_far.4 is.1 in (
      (
        so_far.0 ++ call ∷ [],
        laws.goes_on c.args.receiver.now before after so_far.0 call so_far.1 is.2,
        one_more c.args.frames.now k c.index-frames-k.result so_far.0 call c.loop-k-test.true c.index-frames-k.is c.as_slice.ensures.value so_far.2,
        All-push (λ (made : Call). made.now ≡ c.args.now) so_far.0 call so_far.3 refl,
        subst (λ l. AreAnswers l (so_far.0 ++ call ∷ [])) (sym written) answered,
      ),
      length-set c.loop-k.answers k c.take.result ∙ c.loop-k.invariant.1,
    )
