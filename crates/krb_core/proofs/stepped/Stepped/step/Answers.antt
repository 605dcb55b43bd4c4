-- A turn is the event of its lane.
use Rattle.std.proofs.Common.{◌≡◌, ◌↔◌, ◌<◌, false, [], ◌∷◌, length, set, slice_get, Some, subst, sym}
use Rattle.std.specs.Prelude.{OnOk, OnErr, IfOk}
use Rattle.krb_core.specs.declared.turn.Did.TheVariants.{Waits}
use Rattle.krb_core.specs.declared.turn.Turn.{Turn}
use Rattle.krb_core.specs.declared.turn.Turn.TheVariants.{Send, Take}
use Rattle.krb_core.specs.Stepped.{Relay, lane_of, turned, may_move, TakesFrame}
use Rattle.krb_core.proofs.SteppedLemmas.{get-get_or, relay_of, relay_by, step_send, step_take, take_leaves, take_waits, take_undone, take_memory}
use Rattle.krb_core.proofs.RelayedClaims.{goes_on, goes_on_by, keeps_headline, keeps_headline_by}
use Rattle.krb_core.proofs.stepped.Stepped.step.Goals as goal

pub invariant_of-self-in-Take : goal.invariant_of-self-in-Take
invariant_of-self-in-Take c =
    let inside = c.self.inside in
    let k = c.in-Take.lane in
    let old = c.index_mut-track.result.now in
    let lt : k < length inside.tracks.items = rw c.in-Take.is at (subst (λ (r : Relay). lane_of c.args.turn < length r.tracks) (sym c.self.view_is) c.requires) in
    let at : slice_get inside.tracks.items k ≡ Some old = get-get_or inside.tracks.items k old lt c.index_mut-track.ensures.value in
    relay_by c.take.result inside.tracks.items inside.log c.take.new.log inside.sents.items k old c.take.new.self at c.take.ensures.after c.take.ensures.log c.take.ensures.unchanged c.take.ensures.unwritten c.self.invariant

pub returns-in-Send-clause-ok : goal.returns-in-Send-clause-ok
returns-in-Send-clause-ok c =
    let inside = c.self.inside in
    let k = c.in-Send.lane in
    let old = c.index_mut.result.now in
    let lt : k < length inside.tracks.items = rw c.in-Send.is at (subst (λ (r : Relay). lane_of c.args.turn < length r.tracks) (sym c.self.view_is) c.requires) in
    let at : slice_get inside.tracks.items k ≡ Some old = get-get_or inside.tracks.items k old lt c.index_mut.ensures.value in
    let now = relay_of (set inside.tracks.items k c.send.new.self) inside.log inside.sents.items in
    let is = step_send inside.tracks.items inside.log inside.sents.items k old c.send.new.self c.send.result at c.send.ensures.after c.send.ensures.waits in
    let P : Relay → Type 0 = λ r. now ≡ turned r (Send k) in
    let Q : Turn → Type 0 = λ t. now ≡ turned c.args.self.now t in
    subst Q (sym c.in-Send.is) (subst P c.self.view_is (is.leaves))

pub returns-in-Send-clause-waits : goal.returns-in-Send-clause-waits
returns-in-Send-clause-waits c =
    let inside = c.self.inside in
    let k = c.in-Send.lane in
    let old = c.index_mut.result.now in
    let lt : k < length inside.tracks.items = rw c.in-Send.is at (subst (λ (r : Relay). lane_of c.args.turn < length r.tracks) (sym c.self.view_is) c.requires) in
    let at : slice_get inside.tracks.items k ≡ Some old = get-get_or inside.tracks.items k old lt c.index_mut.ensures.value in
    let now = relay_of (set inside.tracks.items k c.send.new.self) inside.log inside.sents.items in
    let is = step_send inside.tracks.items inside.log inside.sents.items k old c.send.new.self c.send.result at c.send.ensures.after c.send.ensures.waits in
    let P : Relay → Type 0 = λ r. (c.send.result ≡ Waits) ↔ (may_move r (Send k) ≡ false) in
    let Q : Turn → Type 0 = λ t. (c.send.result ≡ Waits) ↔ (may_move c.args.self.now t ≡ false) in
    subst Q (sym c.in-Send.is) (subst P c.self.view_is (is.waits))

pub returns-in-Take-clause-ok : goal.returns-in-Take-clause-ok
returns-in-Take-clause-ok c =
    let inside = c.self.inside in
    let k = c.in-Take.lane in
    let old = c.index_mut-track.result.now in
    let lt : k < length inside.tracks.items = rw c.in-Take.is at (subst (λ (r : Relay). lane_of c.args.turn < length r.tracks) (sym c.self.view_is) c.requires) in
    let at : slice_get inside.tracks.items k ≡ Some old = get-get_or inside.tracks.items k old lt c.index_mut-track.ensures.value in
    let now = relay_of (set inside.tracks.items k c.take.new.self) c.take.new.log inside.sents.items in
    let is = step_take c.take.result inside.tracks.items inside.log c.take.new.log inside.sents.items k old c.take.new.self at c.take.ensures.after c.take.ensures.log c.take.ensures.waits in
    let before = relay_of inside.tracks.items inside.log inside.sents.items in
    let P : Relay → Type 0 = λ r. OnOk c.take.result (now ≡ turned r (Take k)) in
    let Q : Turn → Type 0 = λ t. OnOk c.take.result (now ≡ turned c.args.self.now t) in
    subst Q (sym c.in-Take.is) (subst P c.self.view_is (take_leaves c.take.result before now (Take k) is))

pub returns-in-Take-clause-waits : goal.returns-in-Take-clause-waits
returns-in-Take-clause-waits c =
    let inside = c.self.inside in
    let k = c.in-Take.lane in
    let old = c.index_mut-track.result.now in
    let lt : k < length inside.tracks.items = rw c.in-Take.is at (subst (λ (r : Relay). lane_of c.args.turn < length r.tracks) (sym c.self.view_is) c.requires) in
    let at : slice_get inside.tracks.items k ≡ Some old = get-get_or inside.tracks.items k old lt c.index_mut-track.ensures.value in
    let now = relay_of (set inside.tracks.items k c.take.new.self) c.take.new.log inside.sents.items in
    let is = step_take c.take.result inside.tracks.items inside.log c.take.new.log inside.sents.items k old c.take.new.self at c.take.ensures.after c.take.ensures.log c.take.ensures.waits in
    let before = relay_of inside.tracks.items inside.log inside.sents.items in
    let P : Relay → Type 0 = λ r. IfOk c.take.result (λ did. (did ≡ Waits) ↔ (may_move r (Take k) ≡ false)) in
    let Q : Turn → Type 0 = λ t. IfOk c.take.result (λ did. (did ≡ Waits) ↔ (may_move c.args.self.now t ≡ false)) in
    subst Q (sym c.in-Take.is) (subst P c.self.view_is (take_waits c.take.result before now (Take k) is))

pub returns-in-Send-clause-turned : goal.returns-in-Send-clause-turned
returns-in-Send-clause-turned c = goes_on c.args.self.now _ (c.args.turn ∷ []) (returns-in-Send-clause-ok c)

pub returns-in-Send-clause-headline : goal.returns-in-Send-clause-headline
returns-in-Send-clause-headline c = keeps_headline c.args.self.now _ (c.args.turn ∷ []) (returns-in-Send-clause-ok c)

pub returns-in-Take-clause-turned : goal.returns-in-Take-clause-turned
returns-in-Take-clause-turned c = goes_on_by c.take.result c.args.self.now _ c.args.turn (returns-in-Take-clause-ok c)

pub returns-in-Take-clause-headline : goal.returns-in-Take-clause-headline
returns-in-Take-clause-headline c =
    let inside = c.self.inside in
    let k = c.in-Take.lane in
    let old = c.index_mut-track.result.now in
    let lt : k < length inside.tracks.items = rw c.in-Take.is at (subst (λ (r : Relay). lane_of c.args.turn < length r.tracks) (sym c.self.view_is) c.requires) in
    let at : slice_get inside.tracks.items k ≡ Some old = get-get_or inside.tracks.items k old lt c.index_mut-track.ensures.value in
    let now = relay_of (set inside.tracks.items k c.take.new.self) c.take.new.log inside.sents.items in
    let undone = take_undone c.take.result inside.tracks.items inside.log c.take.new.log inside.sents.items k old c.take.new.self at c.take.ensures.unchanged c.take.ensures.unwritten in
    let P : Relay → Type 0 = λ r. OnErr c.take.result (now ≡ r) in
    keeps_headline_by c.take.result c.args.self.now now c.args.turn (returns-in-Take-clause-ok c) (subst P c.self.view_is undone)

pub returns-in-Take-clause-memory : goal.returns-in-Take-clause-memory
returns-in-Take-clause-memory c =
    let inside = c.self.inside in
    let k = c.in-Take.lane in
    let old = c.index_mut-track.result.now in
    let lt : k < length inside.tracks.items = rw c.in-Take.is at (subst (λ (r : Relay). lane_of c.args.turn < length r.tracks) (sym c.self.view_is) c.requires) in
    let at : slice_get inside.tracks.items k ≡ Some old = get-get_or inside.tracks.items k old lt c.index_mut-track.ensures.value in
    let P : Relay → Type 0 = λ r. OnErr c.take.result (TakesFrame r (Take k)) in
    let Q : Turn → Type 0 = λ t. OnErr c.take.result (TakesFrame c.args.self.now t) in
    subst Q (sym c.in-Take.is) (subst P c.self.view_is (take_memory c.take.result inside.tracks.items inside.log inside.sents.items k old at c.take.ensures.memory))
