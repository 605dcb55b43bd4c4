-- The frames before an export, and those after it.
use Rattle.std.proofs.Common.{ℤ, ◌-◌, ◌∙◌, ap, subst, drop, take, length}
use mir.Syntax.{w32}
use Rattle.std.proofs.lemmas.Int.{to_z-of_z}
use Rattle.std.proofs.lemmas.List.{drop_at, take_at}
use Rattle.krb_structs.specs.Fault.{fault_code}
use Rattle.krb_structs.specs.Peer.{PeerState}
use Rattle.krb_structs.specs.Reasons.{ResumeAnswer}
use Rattle.krb_structs.specs.PeerExport.{export_of}
use Rattle.krb_peers.specs.Plan.{contents}
use Rattle.krb_laws.specs.OpenedFrames.{OpensEach}
use Rattle.krb_laws.specs.Peers.{IsPeerCall}
use Rattle.krb_laws.specs.Peers.PeerCall.{Resumed}
use Rattle.krb_laws.proofs.OpenedLemmas.{both_written, from_its_export, front_many, front_part, rest_is, rest_part, whole_in_order}
use Rattle.krb_laws.proofs.opened.open_through_export.Goals as goal

pub returns-in-Err-clause-before : goal.returns-in-Err-clause-before
returns-in-Err-clause-before c =
    let long = front_many c.args.peer.now c.open_each.new.peer c.args.at.now c.args.frames.now c.args.split c.open_each.new.answers c.requires.split c.open_each.ensures.each in
    front_part c.args.frames.now c.open_each.new.answers _ c.args.split c.args.peer.now c.open_each.new.peer c.args.at.now (take_at c.open_each.new.answers (drop c.args.split c.args.answers.now) c.args.split long) c.open_each.ensures.each

pub returns-in-Err-clause-answer : goal.returns-in-Err-clause-answer
returns-in-Err-clause-answer c =
    let state = export_of c.open_each.new.peer.sealer.next c.open_each.new.peer.demand.number in
    subst (λ (e : ℤ). ResumeAnswer e (length c.args.key.now) c.args.session.now c.args.demand.now state (fault_code c.in-Err.fault)) (to_z-of_z w32 c.args.etype c.ranges.etype) c.in-Err.ensures.answer

pub returns-clause-before : goal.returns-clause-before
returns-clause-before c =
    let long = front_many c.args.peer.now c.open_each.new.peer c.args.at.now c.args.frames.now c.args.split c.open_each.new.answers c.requires.split c.open_each.ensures.each in
    let written = both_written c.open_each.new.answers c.open_each-2.new.answers c.args.answers.now c.args.split long in
    front_part c.args.frames.now c.open_each.new.answers _ c.args.split c.args.peer.now c.open_each.new.peer c.args.at.now
    (ap (λ l. take c.args.split l) written ∙ take_at c.open_each.new.answers c.open_each-2.new.answers c.args.split long) c.open_each.ensures.each

pub returns-clause-after : goal.returns-clause-after
returns-clause-after c =
    let long = front_many c.args.peer.now c.open_each.new.peer c.args.at.now c.args.frames.now c.args.split c.open_each.new.answers c.requires.split c.open_each.ensures.each in
    let written = both_written c.open_each.new.answers c.open_each-2.new.answers c.args.answers.now c.args.split long in
    let state = c.in-Ok.ensures.call.0 in
    let call = subst (λ (e : ℤ). IsPeerCall (record { etype = e; key = c.args.key.now; session = c.args.session.now; demand = c.args.demand.now }) c.open_each.new.peer (Resumed state) c.in-Ok.resumed.value)
    (to_z-of_z w32 c.args.etype c.ranges.etype) c.in-Ok.ensures.call.1 in
    let rest = subst (λ (p : PeerState). OpensEach p c.args.at.now (contents (take (length c.args.frames.now - c.args.split) (drop c.args.split c.args.frames.now))) c.open_each-2.new.answers c.open_each-2.new.peer)
    c.deref_mut.ensures.value c.open_each-2.ensures.each in (
      c.in-Ok.resumed.value,
      from_its_export c.args.etype c.args.key.now c.args.session.now c.args.demand.now state _ _ c.in-Ok.resumed.value call.0 call.1,
      rest_part c.args.frames.now _ c.open_each-2.new.answers _ c.args.split c.in-Ok.resumed.value c.open_each-2.new.peer c.args.at.now
          (ap (λ l. drop c.args.split l) written ∙ drop_at c.open_each.new.answers c.open_each-2.new.answers c.args.split long) rest (rest_is c.args.frames.now c.args.split),
    )

pub returns-clause-answer : goal.returns-clause-answer
returns-clause-answer c =
    let state = export_of c.open_each.new.peer.sealer.next c.open_each.new.peer.demand.number in
    subst (λ (e : ℤ). ResumeAnswer e (length c.args.key.now) c.args.session.now c.args.demand.now state 0) (to_z-of_z w32 c.args.etype c.ranges.etype) c.in-Ok.ensures.answer

pub returns-clause-headline : goal.returns-clause-headline
returns-clause-headline c =
    let long = front_many c.args.peer.now c.open_each.new.peer c.args.at.now c.args.frames.now c.args.split c.open_each.new.answers c.requires.split c.open_each.ensures.each in
    let written = both_written c.open_each.new.answers c.open_each-2.new.answers c.args.answers.now c.args.split long in
    let state = c.in-Ok.ensures.call.0 in
    let call = subst (λ (e : ℤ). IsPeerCall (record { etype = e; key = c.args.key.now; session = c.args.session.now; demand = c.args.demand.now }) c.open_each.new.peer (Resumed state) c.in-Ok.resumed.value)
    (to_z-of_z w32 c.args.etype c.ranges.etype) c.in-Ok.ensures.call.1 in
    let rest = subst (λ (p : PeerState). OpensEach p c.args.at.now (contents (take (length c.args.frames.now - c.args.split) (drop c.args.split c.args.frames.now))) c.open_each-2.new.answers c.open_each-2.new.peer)
    c.deref_mut.ensures.value c.open_each-2.ensures.each in
    whole_in_order c.export_laws.ensures _ c.args.frames.now _ c.open_each.new.answers c.open_each-2.new.answers _ c.args.split c.args.peer.now c.open_each.new.peer c.in-Ok.resumed.value c.open_each-2.new.peer state c.args.at.now
    written c.open_each.ensures.each call rest (rest_is c.args.frames.now c.args.split)
