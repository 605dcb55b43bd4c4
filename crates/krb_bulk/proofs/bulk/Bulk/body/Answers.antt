use Rattle.std.proofs.Common.{◌≡◌, get_or, arith}
use Rattle.std.proofs.lemmas.Option.{slice_get-get_or}
use Rattle.krb_seal.specs.Lent.{advanced_by}
use Rattle.krb_bulk.specs.Many.{CanSeal}
use Rattle.krb_bulk.specs.BulkInside.{body_at, sealer_of}
use Rattle.krb_bulk.proofs.TurnLemmas.{can_at}
use Rattle.krb_bulk.proofs.BulkLemmas.{body_between, of_index, small_body}
use Rattle.krb_bulk.proofs.bulk.Bulk.body.Goals as goal

pub overflow_cast-number : goal.overflow_cast-number
overflow_cast-number c =
    let b = c.args.self.now in
    let d = c.index-self-index.result in
    let m = get_or b.messages.now c.args.index d in
    let can : CanSeal (advanced_by (sealer_of b) c.args.index) m =
    can_at (sealer_of b) b.messages.now c.args.index m c.requires.ready.each (slice_get-get_or b.messages.now c.args.index d c.requires.index) in
    omega (arith, can.left)

pub returns-clause-body : goal.returns-clause-body
returns-clause-body c =
    let b = c.args.self.now in
    let d = c.index-self-index.result in
    of_index (λ m. c.body_of.result ≡ body_at b c.args.index m) b.messages.now c.args.index d
    (body_between b c.args.index (get_or b.messages.now c.args.index d) c.body_of.result c.requires.ready.sender c.requires.ready.receiver c.body_of.ensures.body)

pub returns-clause-small : goal.returns-clause-small
returns-clause-small c =
    let b = c.args.self.now in
    let d = c.index-self-index.result in
    let m = get_or b.messages.now c.args.index d in
    let can : CanSeal (advanced_by (sealer_of b) c.args.index) m =
    can_at (sealer_of b) b.messages.now c.args.index m c.requires.ready.each (slice_get-get_or b.messages.now c.args.index d c.requires.index) in
    small_body b c.args.index m c.body_of.result
    (body_between b c.args.index m c.body_of.result c.requires.ready.sender c.requires.ready.receiver c.body_of.ensures.body) can.short c.requires.ready.addresses
