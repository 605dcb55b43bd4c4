use Rattle.std.proofs.Common.{rules, ◌≡◌, ◌-◌, ◌^◌, ◌<◌, ℕ, ◌++◌, ◌∷◌, [], List, length, subst, sym, ap, ◌∙◌, not}
use Rattle.krb_sender.specs.SessionState.{SessionState}
use Rattle.krb_sender.specs.Times.{never, time_of}
use Rattle.krb_sender.specs.Lane.{IsLane, LaneState}
use Rattle.krb_sender.proofs.LaneLemmas.{add_lane}
use Rattle.krb_sender.proofs.lane.Lane.add.Goals as goal

pub invariant_of-self-2 : goal.invariant_of-self-2
invariant_of-self-2 c =
    let at_end : c.len-place.result ≡ length c.self.inside.sessions.items = search (rules, c.len-place.ensures) in
    let few : length c.self.inside.sessions.items < 2 ^ 32 - 1 = subst (λ (l : LaneState). length l.sessions < 2 ^ 32 - 1) (sym c.self.view_is) c.requires.few in
    let grown : c.add.new.self ≡ c.self.inside.times ++ never ∷ [] = c.in_default.ensures.ok in
    subst (λ (l : List SessionState). IsLane l c.remember.new.queue c.remember.new.times c.self.inside.under_way c.self.inside.clock) (sym c.in_ok-push.ensures.items)
    (add_lane c.self.inside.sessions.items c.self.inside.queue c.self.inside.times c.remember.new.queue c.remember.new.times c.self.inside.under_way c.self.inside.clock c.len-place.result c.is_idle-is_idle.result c.load-session.result
    c.self.invariant at_end few c.load-session.ensures.room c.is_idle-is_idle.ensures.idle
    (c.remember.ensures.length ∙ ap length grown) c.remember.ensures.queue (λ k apart. c.remember.ensures.times k apart ∙ ap (λ (l : List ℕ). time_of l k) grown)
    (λ is. c.remember.ensures.more (ap not is)))
