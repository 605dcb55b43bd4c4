-- The frame is that of the record, and goes on where the frames before it ended.
use Rattle.std.proofs.Common.{◌≡◌, ◌≤◌, ◌+◌, [], Some, length, get_or, slice_get, ap, ap₂, sym, ◌∙◌, rules}
use Rattle.std.proofs.lemmas.Result.{IfOk-weaker}
use Rattle.krb_base.specs.Limits.{user_data_limit}
use Rattle.rand_chacha.specs.ChaCha.{ChaCha}
use Rattle.krb_seal.specs.Sealer.{SealerState}
use Rattle.krb_record.specs.declared.record.Record.{Record}
use Rattle.krb_record.specs.Record.{bytes_of}
use Rattle.krb_peers.specs.Sender.{Source, text_groups, record_at, texts_before, records}
use Rattle.krb_peers.specs.Moments.{moment_at}
use Rattle.krb_peers.specs.Sending.{source_of, before}
use Rattle.krb_peers.proofs.SendingLemmas.{HasSealed-push, passed_within, passed_more, on_ok, group_is, fits_there, record_is, moment_read, both_ok, errors_are}
use Rattle.krb_peers.proofs.sending.Sending.seal_record.Goals as goal
use Rattle.krb_peers.proofs.sending.Sending.seal_record.Goals.{then-is_ok, else-is_ok}
use Rattle.krb_peers.proofs.sending.Sending.seal_record.Given as given

pub group_after-group-requires : goal.group_after-group-requires
group_after-group-requires g c =
    passed_within (source_of g.S.Sealer.state c.args.self.now) c.args.k c.args.passed.now c.requires.passed

pub record_at-requires : goal.record_at-requires
record_at-requires g c = λ some.
    let old = source_of g.S.Sealer.state c.args.self.now in
    let group : c.group_after-group.result.now ≡ get_or (text_groups old) c.args.k [] = c.group_after-group.ensures ∙ group_is old c.args.k c.args.passed.now c.requires.passed in
    rw group (fits_there old c.args.k c.requires.sender.limits (rw group at some))

-- what is sealed are the bytes of the record, at its moment
same_user : (g : given.Over) (c : goal.After-drop-bytes g) (r : Record) → slice_get (records (before c.args.k (source_of g.S.Sealer.state c.args.self.now))) c.args.k ≡ Some r
    → c.deref.result.now ≡ bytes_of r
same_user g c r at-r =
    let old = source_of g.S.Sealer.state c.args.self.now in
    let group : c.group_after-group.result.now ≡ get_or (text_groups old) c.args.k [] = c.group_after-group.ensures ∙ group_is old c.args.k c.args.passed.now c.requires.passed in
    let which : record_at old.sealer.next c.group_after-group.result.now ≡ r =
    ap (λ z. record_at old.sealer.next z) group ∙ sym (record_is old c.args.k r c.requires.begun c.requires.sender.next at-r) in
    c.deref.ensures.value ∙ (c.in_ok-bytes.ensures.bytes ∙ ap bytes_of which)

same_moment : (g : given.Over) (c : goal.After-drop-bytes g) → c.index-at.result.now ≡ moment_at c.args.self.now.ats.items c.args.k
same_moment g c =
    moment_read c.args.self.now.ats.items c.args.k c.min.result c.index-at.result.now c.requires.sender.ats (search rules) c.index-at.ensures

pub returns-clause-sealed : goal.returns-clause-sealed
returns-clause-sealed g c =
    IfOk-weaker c.seal-sealed.result _ _ (λ frame sealed r at-r.
    rw (← same_user g c r at-r, ← same_moment g c, ← c.draw_confounder-confounder.ensures.bytes) sealed) c.seal-sealed.ensures.sealed

pub returns-clause-frames : goal.returns-clause-frames
returns-clause-frames g c =
    let old = source_of g.S.Sealer.state c.args.self.now in
    both_ok c.seal-sealed.result _ _ _ c.seal-sealed.ensures.sealed c.seal-sealed.ensures.advanced (λ frame sealed next source frames has.
    HasSealed-push source old _ c.args.k frames frame.items has c.requires.there
    (λ r at-r. rw (← same_user g c r at-r, ← same_moment g c, ← c.draw_confounder-confounder.ensures.bytes) sealed)
    (ap₂ (λ (s : SealerState) (d : ChaCha). let z : Source = record old { sealer = s; draws = d } in z) next c.draw_confounder-confounder.ensures.after))

pub returns-clause-passed : goal.returns-clause-passed
returns-clause-passed g c =
    let old = source_of g.S.Sealer.state c.args.self.now in
    elim c.if-is_ok.branch [
      | then-is_ok w ↦
          let more : c.args.passed.now + length c.group_after-group.result.now ≡ texts_before (c.args.k + 1) old =
          ap (λ n. c.args.passed.now + n) (ap length c.group_after-group.ensures) ∙ passed_more old c.args.k c.args.passed.now c.requires.passed in
          on_ok c.seal-sealed.result _ (w.passed-is ∙ more)
      | else-is_ok w ↦ search rules
    ]

pub returns-clause-errors : goal.returns-clause-errors
returns-clause-errors g c =
    let old = source_of g.S.Sealer.state c.args.self.now in
    let short : length c.deref.result.now ≤ user_data_limit = search rules in
    errors_are c.seal-sealed.result old.sealer (length c.deref.result.now) short c.requires.sender.next c.seal-sealed.ensures.wiped.0 c.seal-sealed.ensures.too_long.0 c.seal-sealed.ensures.exhausted.0
