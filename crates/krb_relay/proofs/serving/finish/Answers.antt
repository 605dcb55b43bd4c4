-- The receivers at first are those that were given.
use Rattle.std.proofs.Common.{rules, length, ap, sym, ◌∙◌, subst, List, None, Some}
use Rattle.krb_peers.specs.declared.receiver.Receiving.{Receiving}
use Rattle.krb_relay.specs.Gathering.{Finished}
use Rattle.krb_relay.proofs.StandsLemmas.{fresh_stands, finished_well, finished_badly}
use Rattle.krb_relay.proofs.serving.finish.Goals as goal

pub serve_all-served-requires : goal.serve_all-served-requires
serve_all-served-requires g c =
    rw (c.of-starts.ensures, c.as_mut_slice.ensures.value)
    (search rules, fresh_stands c.args.receivings.now.items c.args.ends.now c.args.log.now c.requires.each c.requires.few c.requires.moments c.requires.fresh c.requires.log)

pub returns-in-Ok-clause-finished : goal.returns-in-Ok-clause-finished
returns-in-Ok-clause-finished g c =
    let P : List Receiving → Type 0 = λ s. Finished s c.args.ends.now c.serve_all-served.new.ends c.serve_all-served.new.log None in
    let e = c.in-Ok.ensures in
    subst P (ap (λ v. v.items) c.of-starts.ensures)
    (finished_well c.of-starts.result.value.items c.args.ends.now c.serve_all-served.new.ends c.serve_all-served.new.log e.judged e.logged e.ended e.noted e.lanes e.same
    (c.requires.each ∙ sym (ap (λ v. length v.items) c.of-starts.ensures)))

pub returns-clause-finished : goal.returns-clause-finished
returns-clause-finished g c =
    let P : List Receiving → Type 0 = λ s. Finished s c.args.ends.now c.drain.new.ends c.serve_all-served.new.log (Some c.in-Err.fault) in
    subst P (ap (λ v. v.items) c.of-starts.ensures)
    (finished_badly c.of-starts.result.value.items c.args.ends.now _ c.drain.new.ends c.serve_all-served.new.log c.in-Err.fault c.in-Err.ensures.stops c.drain.ensures)
