-- What a peer opens of frames that come one after another.
use Rattle.std.proofs.Common.{◌≡◌, ◌⊎◌, ℕ, ℤ, suc, ◌+◌, ◌-◌, ◌≤◌, List, [], ◌∷◌, ◌++◌, length, take, drop, slice_get, Vec, Some, Result, Ok, Err, refl, sym, ap, subst, ◌∙◌, inl, inr, arith, append_assoc, length-append}
use Rattle.std.specs.List.{drop-map}
use Rattle.std.proofs.lemmas.Grind.{flat_map-append}
use Rattle.std.proofs.lemmas.List.{append-nil, drop_all, drop_at, drop-drop, length-drop, length-map, length-take-le, map-append, take_all, take-append-drop, take-map, take_at}
use Rattle.krb_peers.specs.Plan.{contents}
use Rattle.krb_base.specs.Prefix.{IsPrefix}
use Rattle.krb_peers.proofs.ListLemmas.{drop_get}
use Rattle.krb_seal.specs.Sealer.{SealerState}
use Rattle.krb_structs.specs.declared.fault.Fault.{Fault}
use Rattle.krb_structs.specs.declared.moment.KrbMoment.{KrbMoment}
use Rattle.krb_structs.specs.Moment.{micros_of}
use Rattle.krb_structs.specs.Opening.{GivesTo}
use Rattle.krb_structs.specs.declared.demand.KrbDemand.{KrbDemand}
use Rattle.krb_structs.specs.declared.session.KrbSession.{KrbSession}
use Rattle.krb_structs.specs.Peer.{PeerState, Resumes}
use Rattle.krb_structs.specs.PeerExport.{Exports, OneExport, export_of}
use Rattle.krb_laws.specs.OpenedFrames.{AnswersAreCalls, NoneForged, OpensEach, OpensFrame, OpensInOrder, opened_of, user_in}
use Rattle.krb_laws.specs.Peers.{PeerEnd, PeerCall, Opening, IsPeerAt, IsPeerCall, Hears, IsSealedOf}
use Rattle.krb_laws.specs.Peers.PeerCall.{Opened, Resumed, Failed}
use Rattle.krb_laws.proofs.PeerLemmas.{after_call, own_data, renumbered}

-- ---- one frame more

pub opens_more : {A : Type 0} (p q r : PeerState) (at : KrbMoment) (frames : List (List ℕ)) (answers : List (Result (Vec ℕ A) Fault)) (frame : List ℕ) (answer : Result (Vec ℕ A) Fault)
    → OpensEach p at frames answers q → OpensFrame q at frame answer r → OpensEach p at (frames ++ frame ∷ []) (answers ++ answer ∷ []) r
opens_more p q r at [] [] frame answer are one = (r, subst (λ (z : PeerState). OpensFrame z at frame answer r) are one, refl)
opens_more p q r at [] (b ∷ answers) frame answer are one = absurd are
opens_more p q r at (f ∷ frames) [] frame answer are one = absurd are
opens_more p q r at (f ∷ frames) (b ∷ answers) frame answer are one = (are.0, are.1, opens_more are.0 q r at frames answers frame answer are.2 one)

-- ---- the calls

pub are_calls : {A : Type 0} (p q : PeerState) (at : KrbMoment) (frames : List (List ℕ)) (answers : List (Result (Vec ℕ A) Fault)) → OpensEach p at frames answers q → AnswersAreCalls p at frames answers q
are_calls p q at [] [] are = ([], refl, λ e. are)
are_calls p q at [] (answer ∷ answers) are = absurd are
are_calls p q at (frame ∷ frames) [] are = absurd are
are_calls p q at (frame ∷ frames) (Ok user ∷ answers) are =
    let rest = are_calls are.0 q at frames answers are.2 in
    let call : PeerCall = Opened (record { frame = frame; now = micros_of at; user = user.items; told = are.1.0.0 }) in (
      call ∷ rest.0,
      (call, (rest.0, refl, (are.1.0.0, refl), rest.1)),
      λ e. (are.0, (are.1.0.1, are.1.1), rest.2 e),
    )
are_calls p q at (frame ∷ frames) (Err fault ∷ answers) are =
    let rest = are_calls are.0 q at frames answers are.2 in
    (Failed ∷ rest.0, (Failed, (rest.0, refl, refl, rest.1)), λ e. (are.0, are.1.1, rest.2 e))

-- ---- in order

-- the demanded data was opened
opened_there : (e : PeerEnd) (sealer : SealerState) (all : List (List ℕ)) → Hears e sealer → (p : PeerState) (o : Opening) (n c : ℕ) → IsPeerAt e n (sealer.next + c) p
    → GivesTo (Some p.opener) p.demand o.now o.frame o.user o.told → IsSealedOf sealer all o.frame ⊎ (slice_get all c ≡ Some o.user) → slice_get all c ≡ Some o.user
opened_there e sealer all hears p o n c at gives either =
    elim either [
      | inl own ↦ own_data e sealer all c o hears own (subst (λ (r : PeerState). GivesTo (Some r.opener) r.demand o.now o.frame o.user o.told) at.is gives)
      | inr numbered ↦ numbered
    ]

module _ (A : Type 0) (law : OneExport) (e : PeerEnd) (sealer : SealerState) (all : List (List ℕ)) (hears : Hears e sealer) where
  pub each_from : (p q : PeerState) (at : KrbMoment) (frames : List (List ℕ)) (answers : List (Result (Vec ℕ A) Fault)) (n c : ℕ) → IsPeerAt e n (sealer.next + c) p → OpensEach p at frames answers q
      → NoneForged sealer all c frames answers → IsPrefix (opened_of answers) (drop c all) × IsPeerAt e n (sealer.next + (c + length (opened_of answers))) q
  each_from p q at [] [] n c is are fine = ((drop c all, refl), renumbered e n n (sealer.next + c) (sealer.next + (c + 0)) q refl (omega arith) (record { first = is.first; is = are ∙ is.is }))
  each_from p q at [] (answer ∷ answers) n c is are fine = absurd are
  each_from p q at (frame ∷ frames) [] n c is are fine = absurd are
  each_from p q at (frame ∷ frames) (Ok user ∷ answers) n c is are fine =
      let o : Opening = record { frame = frame; now = micros_of at; user = user.items; told = are.1.0.0 } in
      let here = opened_there e sealer all hears p o n c is are.1.0.1 fine.0 in
      let next = renumbered e (n + 0) n (sealer.next + c + 1) (sealer.next + (c + 1)) are.0 (omega arith) (omega arith) (after_call law e p are.0 (Opened o) n (sealer.next + c) is (are.1.0.1, are.1.1)) in
      let rest = each_from are.0 q at frames answers n (c + 1) next are.2 fine.1 in
      let more : suc c ≡ c + 1 = omega arith in
      let front : drop c all ≡ user.items ∷ drop (c + 1) all = drop_get all c user.items here ∙ ap (λ i. user.items ∷ drop i all) more in
      let count : sealer.next + (c + 1 + length (opened_of answers)) ≡ sealer.next + (c + length (opened_of (Ok user ∷ answers))) = omega (arith, length-append (user.items ∷ []) (opened_of answers)) in (
        (rest.0.0, front ∙ ap (λ l. user.items ∷ l) rest.0.1),
        renumbered e n n (sealer.next + (c + 1 + length (opened_of answers))) (sealer.next + (c + length (opened_of (Ok user ∷ answers)))) q refl count rest.1,
      )
  each_from p q at (frame ∷ frames) (Err fault ∷ answers) n c is are fine =
      each_from are.0 q at frames answers n c (record { first = is.first; is = are.1.1 ∙ is.is }) are.2 fine

-- what came before is the front of the data
pub after_front : (all xs : List (List ℕ)) (c : ℕ) → IsPrefix xs (drop c all) → IsPrefix (take c all ++ xs) all
after_front all xs c w = (w.0, sym (take-append-drop c all) ∙ (ap (λ l. take c all ++ l) w.1 ∙ sym (append_assoc (take c all) xs w.0)))

pub in_order : {A : Type 0} → OneExport → (p q : PeerState) (at : KrbMoment) (frames : List (List ℕ)) (answers : List (Result (Vec ℕ A) Fault)) → OpensEach p at frames answers q
    → (e : PeerEnd) → OpensInOrder e p frames answers
in_order {A} law p q at frames answers are e sealer all next first hears is fine =
    after_front all (opened_of answers) first (each_from A law e sealer all hears p q at frames answers next first is are fine).0

-- ---- through an export

-- no forgery in two parts
forged_parts : {A : Type 0} (sealer : SealerState) (all : List (List ℕ)) (p q : PeerState) (at : KrbMoment) (xs : List (List ℕ)) (ans : List (Result (Vec ℕ A) Fault)) → OpensEach p at xs ans q
    → (ys : List (List ℕ)) (more : List (Result (Vec ℕ A) Fault)) (c : ℕ) → NoneForged sealer all c (xs ++ ys) (ans ++ more)
    → NoneForged sealer all c xs ans × NoneForged sealer all (c + length (opened_of ans)) ys more
forged_parts sealer all p q at [] [] are ys more c fine = (tt, subst (λ k. NoneForged sealer all k ys more) (let e : c ≡ c + 0 = omega arith in e) fine)
forged_parts sealer all p q at [] (a ∷ ans) are ys more c fine = absurd are
forged_parts sealer all p q at (x ∷ xs) [] are ys more c fine = absurd are
forged_parts sealer all p q at (x ∷ xs) (Ok user ∷ ans) are ys more c fine =
    let rest = forged_parts sealer all are.0 q at xs ans are.2 ys more (c + 1) fine.1 in
    let count : c + 1 + length (opened_of ans) ≡ c + length (opened_of (Ok user ∷ ans)) = omega (arith, length-append (user.items ∷ []) (opened_of ans)) in
    ((fine.0, rest.0), subst (λ k. NoneForged sealer all k ys more) count rest.1)
forged_parts sealer all p q at (x ∷ xs) (Err fault ∷ ans) are ys more c fine = forged_parts sealer all are.0 q at xs ans are.2 ys more c fine

-- one prefix after another
joined : (all xs ys : List (List ℕ)) (c : ℕ) → IsPrefix xs (drop c all) → IsPrefix ys (drop (c + length xs) all) → IsPrefix (xs ++ ys) (drop c all)
joined all xs ys c one two =
    let rest : one.0 ≡ drop (c + length xs) all = sym (drop_at xs one.0 (length xs) refl) ∙ (ap (λ l. drop (length xs) l) (sym one.1) ∙ drop-drop (length xs) c all) in
    (two.0, one.1 ∙ (ap (λ l. xs ++ l) (rest ∙ two.1) ∙ sym (append_assoc xs ys two.0)))

opened_parts : {A : Type 0} (ans more : List (Result (Vec ℕ A) Fault)) → opened_of (ans ++ more) ≡ opened_of ans ++ opened_of more
opened_parts ans more = flat_map-append user_in ans more

pub in_order_through : {A : Type 0} → OneExport → (e : PeerEnd) (p q between r : PeerState) (state : List ℕ) (at : KrbMoment) (xs ys : List (List ℕ)) (ans more : List (Result (Vec ℕ A) Fault))
    → OpensEach p at xs ans q → IsPeerCall e q (Resumed state) between → OpensEach between at ys more r → OpensInOrder e p (xs ++ ys) (ans ++ more)
in_order_through {A} law e p q between r state at xs ys ans more before resumes after sealer all next first hears is fine =
    let parts = forged_parts sealer all p q at xs ans before ys more first fine in
    let one = each_from A law e sealer all hears p q at xs ans next first is before parts.0 in
    let come = first + length (opened_of ans) in
    let there = renumbered e (next + 0) next (sealer.next + come + 0) (sealer.next + come) between (omega arith) (omega arith) (after_call law e q between (Resumed state) next (sealer.next + come) one.1 resumes) in
    let two = each_from A law e sealer all hears between r at ys more next come there after parts.1 in
    after_front all (opened_of (ans ++ more)) first (subst (λ l. IsPrefix l (drop first all)) (sym (opened_parts ans more)) (joined all (opened_of ans) (opened_of more) first one.0 two.0))

-- ---- two parts of one list

same_many : {A : Type 0} (p q : PeerState) (at : KrbMoment) (frames : List (List ℕ)) (answers : List (Result (Vec ℕ A) Fault)) → OpensEach p at frames answers q → length answers ≡ length frames
same_many p q at [] [] are = refl
same_many p q at [] (a ∷ answers) are = absurd are
same_many p q at (f ∷ frames) [] are = absurd are
same_many p q at (f ∷ frames) (a ∷ answers) are = ap suc (same_many are.0 q at frames answers are.2)

-- as many answers as there are frames in front
pub front_many : {A B : Type 0} (p q : PeerState) (at : KrbMoment) (frames : List (Vec ℕ B)) (split : ℕ) (answers : List (Result (Vec ℕ A) Fault)) → split ≤ length frames
    → OpensEach p at (contents (take split frames)) answers q → length answers ≡ split
front_many p q at frames split answers within are =
    same_many p q at (contents (take split frames)) answers are ∙ (length-map (take split frames) (λ v. v.items) ∙ length-take-le split frames within)

-- what is written to the front and then after it
pub both_written : {X : Type 0} (one two old : List X) (split : ℕ) → length one ≡ split
    → take split (one ++ drop split old) ++ (two ++ drop (length (one ++ drop split old) - split) (drop split (one ++ drop split old))) ≡ one ++ two
both_written one two old split long =
    let all = one ++ drop split old in
    let front : take split all ≡ one = take_at one (drop split old) split long in
    let past : drop (length all - split) (drop split all) ≡ [] = drop_all (length all - split) (drop split all) (omega (arith, length-drop split all)) in
    ap (λ l. l ++ (two ++ drop (length all - split) (drop split all))) front ∙ ap (λ l. one ++ (two ++ l)) past ∙ ap (λ l. one ++ l) (append-nil two)

pub rest_is : {X : Type 0} (xs : List X) (k : ℕ) → take (length xs - k) (drop k xs) ≡ drop k xs
rest_is xs k = take_all (length xs - k) (drop k xs) (omega (arith, length-drop k xs))

-- what is opened of the front of a list, by the answers that are written to its front
pub front_part : {A B : Type 0} (frames : List (Vec ℕ A)) (answers written : List (Result (Vec ℕ B) Fault)) (split : ℕ) (p q : PeerState) (at : KrbMoment) → take split written ≡ answers
    → OpensEach p at (contents (take split frames)) answers q → OpensEach p at (take split (contents frames)) (take split written) q
front_part {A} {B} frames answers written split p q at is are =
    let framed : OpensEach p at (take split (contents frames)) answers q = subst (λ (l : List (List ℕ)). OpensEach p at l answers q) (sym (take-map (λ (v : Vec ℕ A). v.items) split frames)) are in
    subst (λ (l : List (Result (Vec ℕ B) Fault)). OpensEach p at (take split (contents frames)) l q) (sym is) framed

-- and of the rest
pub rest_part : {A B : Type 0} (frames fs : List (Vec ℕ A)) (answers written : List (Result (Vec ℕ B) Fault)) (split : ℕ) (p q : PeerState) (at : KrbMoment) → drop split written ≡ answers
    → OpensEach p at (contents fs) answers q → fs ≡ drop split frames → OpensEach p at (drop split (contents frames)) (drop split written) q
rest_part {A} {B} frames fs answers written split p q at is are those =
    let framed : OpensEach p at (drop split (contents frames)) answers q =
    subst (λ (l : List (List ℕ)). OpensEach p at l answers q) (ap (λ (l : List (Vec ℕ A)). contents l) those ∙ sym (drop-map (λ (v : Vec ℕ A). v.items) split frames)) are in
    subst (λ (l : List (Result (Vec ℕ B) Fault)). OpensEach p at (drop split (contents frames)) l q) (sym is) framed

contents_parts : {A : Type 0} (frames : List (Vec ℕ A)) (split : ℕ) → contents (take split frames) ++ contents (drop split frames) ≡ contents frames
contents_parts {A} frames split = sym (map-append (λ (v : Vec ℕ A). v.items) (take split frames) (drop split frames)) ∙ ap (λ (l : List (Vec ℕ A)). contents l) (take-append-drop split frames)

pub whole_in_order : {A B : Type 0} → OneExport → (e : PeerEnd) (frames fs : List (Vec ℕ A)) (one two written : List (Result (Vec ℕ B) Fault)) (split : ℕ) (p q between r : PeerState) (state : List ℕ) (at : KrbMoment) → written ≡ one ++ two
    → OpensEach p at (contents (take split frames)) one q → IsPeerCall e q (Resumed state) between → OpensEach between at (contents fs) two r → fs ≡ drop split frames → OpensInOrder e p (contents frames) written
whole_in_order {A} {B} law e frames fs one two written split p q between r state at is before resumes after those =
    let rest : OpensEach between at (contents (drop split frames)) two r = subst (λ (l : List (Vec ℕ A)). OpensEach between at (contents l) two r) those after in
    let parts : OpensInOrder e p (contents (take split frames) ++ contents (drop split frames)) (one ++ two) = in_order_through law e p q between r state at (contents (take split frames)) (contents (drop split frames)) one two before resumes rest in
    let framed : OpensInOrder e p (contents frames) (one ++ two) = subst (λ (l : List (List ℕ)). OpensInOrder e p l (one ++ two)) (contents_parts frames split) parts in
    subst (λ (l : List (Result (Vec ℕ B) Fault)). OpensInOrder e p (contents frames) l) (sym is) framed

-- a peer that is resumed from an export is resumed from the export of these numbers
pub from_its_export : (etype : ℤ) (key : List ℕ) (told : KrbSession) (d : KrbDemand) (state : List ℕ) (next expected : ℕ) (p : PeerState) → Exports state next expected → Resumes etype key told d state p → Resumes etype key told d (export_of next expected) p
from_its_export etype key told d state next expected p exports resumes = subst (λ (s : List ℕ). Resumes etype key told d s p) exports.bytes resumes
