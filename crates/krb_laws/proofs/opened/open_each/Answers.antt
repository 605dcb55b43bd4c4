-- One frame more, and its answer.
use Rattle.std.proofs.Common.{◌≡◌, ◌∙◌, ◌<◌, ◌≤◌, ◌+◌, ◌++◌, ◌∷◌, [], ap, sym, subst, arith, ℕ, List, Vec, Result, length, take, get_or, set}
use Rattle.std.proofs.lemmas.List.{length-set, map_more, take_all, take_more_set}
use Rattle.krb_peers.specs.Plan.{contents}
use Rattle.krb_structs.specs.declared.fault.Fault.{Fault}
use Rattle.krb_structs.specs.declared.moment.KrbMoment.{KrbMoment}
use Rattle.krb_structs.specs.Peer.{PeerState}
use Rattle.krb_laws.specs.OpenedFrames.{OpensEach, OpensFrame}
use Rattle.krb_laws.proofs.OpenedLemmas.{are_calls, in_order, opens_more}
use Rattle.krb_laws.proofs.opened.open_each.Goals as goal

frames_more : {A : Type 0} (frames : List (Vec ℕ A)) (k : ℕ) (item : Vec ℕ A) (frame : List ℕ) → k < length frames → item ≡ get_or frames k item → frame ≡ item.items
    → contents (take (k + 1) frames) ≡ contents (take k frames) ++ frame ∷ []
frames_more frames k item frame within at is =
    map_more (λ v. v.items) frames k item within ∙ ap (λ l. contents (take k frames) ++ l ∷ []) (sym (is ∙ ap (λ v. v.items) at))

opened_one_more : {A B : Type 0} (frames : List (Vec ℕ A)) (answers : List (Result (Vec ℕ B) Fault)) (k : ℕ) (item : Vec ℕ A) (frame : List ℕ) (answer : Result (Vec ℕ B) Fault) (p q r : PeerState) (at : KrbMoment)
    → k < length frames → length answers ≡ length frames → item ≡ get_or frames k item → frame ≡ item.items
    → OpensEach p at (contents (take k frames)) (take k answers) q → OpensFrame q at frame answer r
    → OpensEach p at (contents (take (k + 1) frames)) (take (k + 1) (set answers k answer)) r
opened_one_more {A} {B} frames answers k item frame answer p q r at within long is framed are one =
    let more : OpensEach p at (contents (take k frames) ++ frame ∷ []) (take k answers ++ answer ∷ []) r = opens_more p q r at (contents (take k frames)) (take k answers) frame answer are one in
    let written : take (k + 1) (set answers k answer) ≡ take k answers ++ answer ∷ [] = take_more_set answers k answer (omega (arith, within, long)) in
    let written_more : OpensEach p at (contents (take k frames) ++ frame ∷ []) (take (k + 1) (set answers k answer)) r = subst (λ (l : List (Result (Vec ℕ B) Fault)). OpensEach p at (contents (take k frames) ++ frame ∷ []) l r) (sym written) more in
    subst (λ (l : List (List ℕ)). OpensEach p at l (take (k + 1) (set answers k answer)) r) (sym (frames_more frames k item frame within is framed)) written_more

-- all of them, at the end of the loop
all_opened : {A B : Type 0} (frames : List (Vec ℕ A)) (answers : List (Result (Vec ℕ B) Fault)) (k : ℕ) (p q : PeerState) (at : KrbMoment) → length frames ≤ k → length answers ≡ length frames
    → OpensEach p at (contents (take k frames)) (take k answers) q → OpensEach p at (contents frames) answers q
all_opened {A} {B} frames answers k p q at past long are =
    let framed : OpensEach p at (contents frames) (take k answers) q = subst (λ (l : List (Vec ℕ A)). OpensEach p at (contents l) (take k answers) q) (take_all k frames past) are in
    subst (λ (l : List (Result (Vec ℕ B) Fault)). OpensEach p at (contents frames) l q) (take_all k answers (omega (arith, past, long))) framed

pub loop-k-preserved : goal.loop-k-preserved
loop-k-preserved c = (
  opened_one_more c.args.frames.now c.loop-k.answers c.loop-k.k c.index-frames-k.result c.as_slice.result.now c.open_frame.result c.args.peer.now c.loop-k.peer c.open_frame.new.peer c.args.at.now
      c.loop-k-test.true c.loop-k.invariant.1 c.index-frames-k.is c.as_slice.ensures.value c.loop-k.invariant.0 c.open_frame.ensures,
  length-set c.loop-k.answers c.loop-k.k c.open_frame.result ∙ c.loop-k.invariant.1,
)

pub returns-clause-headline : goal.returns-clause-headline
returns-clause-headline c =
    in_order c.export_laws.ensures c.args.peer.now c.loop-k.peer c.args.at.now (contents c.args.frames.now) c.loop-k.answers
    (all_opened c.args.frames.now c.loop-k.answers c.loop-k.k c.args.peer.now c.loop-k.peer c.args.at.now c.loop-k-test.false c.loop-k.invariant.1 c.loop-k.invariant.0)

pub returns-clause-calls : goal.returns-clause-calls
returns-clause-calls c =
    are_calls c.args.peer.now c.loop-k.peer c.args.at.now (contents c.args.frames.now) c.loop-k.answers
    (all_opened c.args.frames.now c.loop-k.answers c.loop-k.k c.args.peer.now c.loop-k.peer c.args.at.now c.loop-k-test.false c.loop-k.invariant.1 c.loop-k.invariant.0)
