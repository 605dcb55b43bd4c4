-- Round by round.
use Rattle.std.proofs.Common.{◌≡◌, ◌+◌, ◌<◌, ◌≤◌, ℕ, true, [], List, length, arith}
use Rattle.krb_core.specs.declared.turn.Turn.{Turn}
use Rattle.krb_peers.specs.Log.{has_ended}
use Rattle.krb_core.specs.Stepped.{after, is_done}
use Rattle.krb_core.specs.Finish.{finishing, whole_log}
use Rattle.krb_core.proofs.RelayedClaims.{goes_on, keeps_headline, sents_hold}
use Rattle.krb_core.proofs.TurnLemmas.{left_over, left_next, left_last, round_in_part, round_in_full, round_count, served_all, on_ok}
use Rattle.krb_core.proofs.RoundsTurned.{front_from, entries_from}
use Rattle.krb_core.proofs.FinishLemmas.{done_from, ended_from}
use Rattle.krb_core.proofs.BegunRuns.{whole_by, part_from}
use Rattle.krb_core.proofs.PartLemmas.{relayed_from}
use Rattle.krb_core.proofs.stepped.Stepped.finish.Goals as goal

pub returns-in_err-round-clause-after : goal.returns-in_err-round-clause-after
returns-in_err-round-clause-after c =
    let n = length c.args.self.now.tracks in
    let last = c.longest-end.result in
    let lt : c.loop.counter < last = omega arith in
    let rest : List Turn = left_over last (c.loop.counter + 1) n in
    round_in_part c.args.self.now c.loop.self c.round.new.self last c.loop.counter rest c.loop.invariant.count (left_next last c.loop.counter n lt) c.loop.invariant.served c.round.ensures.turns

pub returns-in_err-round-clause-turned : goal.returns-in_err-round-clause-turned
returns-in_err-round-clause-turned c =
    let part = returns-in_err-round-clause-after c in
    (part.0, goes_on c.args.self.now c.round.new.self part.0 part.2)

pub returns-in_err-round-clause-headline : goal.returns-in_err-round-clause-headline
returns-in_err-round-clause-headline c =
    let part = returns-in_err-round-clause-after c in
    keeps_headline c.args.self.now c.round.new.self part.0 part.2

pub returns-in_err-round-clause-front : goal.returns-in_err-round-clause-front
returns-in_err-round-clause-front c =
    λ lanes capacity room fresh. front_from lanes capacity c.args.self.now c.round.new.self room fresh (returns-in_err-round-clause-after c)

pub loop-preserved : goal.loop-preserved
loop-preserved c =
    let n = length c.args.self.now.tracks in
    let last = c.longest-end.result in
    let lt : c.loop.counter < last = omega arith in
    let rest : List Turn = left_over last (c.loop.counter + 1) n in
    let next = left_next last c.loop.counter n lt in
    record {
      count = round_count c.args.self.now c.loop.self c.round.new.self last c.loop.counter rest c.loop.invariant.count next c.loop.invariant.served c.in_ok-round.ensures.ok;
      served = round_in_full c.args.self.now c.loop.self c.round.new.self last c.loop.counter rest c.loop.invariant.count next c.loop.invariant.served c.in_ok-round.ensures.ok;
    }

pub returns-clause-after : goal.returns-clause-after
returns-clause-after c =
    let n = length c.args.self.now.tracks in
    let last = c.longest-end.result in
    let le : last ≤ c.loop.counter = omega arith in
    round_in_part c.args.self.now c.loop.self c.round-2.new.self last c.loop.counter [] c.loop.invariant.count (left_last last c.loop.counter n le) c.loop.invariant.served c.round-2.ensures.turns

pub returns-clause-turned : goal.returns-clause-turned
returns-clause-turned c =
    let part = returns-clause-after c in
    (part.0, goes_on c.args.self.now c.round-2.new.self part.0 part.2)

pub returns-clause-headline : goal.returns-clause-headline
returns-clause-headline c =
    let part = returns-clause-after c in
    keeps_headline c.args.self.now c.round-2.new.self part.0 part.2

pub returns-clause-ok : goal.returns-clause-ok
returns-clause-ok c =
    let n = length c.args.self.now.tracks in
    let last = c.longest-end.result in
    let le : last ≤ c.loop.counter = omega arith in
    on_ok _ (c.round-2.new.self ≡ after c.args.self.now (finishing c.args.self.now.tracks)) c.round-2.result
    (λ is. served_all (finishing c.args.self.now.tracks) c.args.self.now c.round-2.new.self
    (round_in_full c.args.self.now c.loop.self c.round-2.new.self last c.loop.counter [] c.loop.invariant.count (left_last last c.loop.counter n le) c.loop.invariant.served is))
    c.round-2.ensures.ok

pub returns-clause-rounds : goal.returns-clause-rounds
returns-clause-rounds c = λ lanes capacity room fresh.
    on_ok _ (c.round-2.new.self.log.entries ≡ whole_log c.args.self.now) c.round-2.result (entries_from lanes capacity c.args.self.now c.round-2.new.self room fresh) (returns-clause-ok c)

pub returns-clause-done : goal.returns-clause-done
returns-clause-done c = λ lanes capacity before room turned.
    on_ok _ (is_done c.round-2.new.self ≡ true) c.round-2.result (done_from lanes capacity before c.args.self.now c.round-2.new.self room turned) (returns-clause-ok c)

pub returns-clause-ended : goal.returns-clause-ended
returns-clause-ended c = λ lanes capacity before room turned.
    on_ok _ ((lane : ℕ) → lane < length c.args.self.now.tracks → has_ended lane c.round-2.new.self.log ≡ true) c.round-2.result (ended_from lanes capacity before c.args.self.now c.round-2.new.self room turned) (returns-clause-ok c)

pub returns-clause-front : goal.returns-clause-front
returns-clause-front c = λ lanes capacity room fresh. front_from lanes capacity c.args.self.now c.round-2.new.self room fresh (returns-clause-after c)

pub returns-in_err-round-clause-part : goal.returns-in_err-round-clause-part
returns-in_err-round-clause-part c = λ lanes capacity room fresh.
    part_from lanes capacity c.args.self.now c.round.new.self fresh (returns-in_err-round-clause-front c lanes capacity room fresh)

pub returns-clause-whole : goal.returns-clause-whole
returns-clause-whole c = λ lanes capacity room fresh.
    whole_by lanes capacity c.args.self.now c.round-2.new.self c.round-2.result room fresh (returns-clause-rounds c) (returns-clause-ended c)
    (sents_hold lanes capacity _ c.round-2.new.self ((returns-clause-turned c).1 lanes capacity [] fresh))

pub returns-clause-part : goal.returns-clause-part
returns-clause-part c = λ lanes capacity room fresh.
    part_from lanes capacity c.args.self.now c.round-2.new.self fresh (returns-clause-front c lanes capacity room fresh)

pub returns-in_err-round-clause-relayed : goal.returns-in_err-round-clause-relayed
returns-in_err-round-clause-relayed c = λ lanes capacity room fresh.
    relayed_from lanes capacity c.args.self.now c.round.new.self room fresh (returns-in_err-round-clause-after c)

pub returns-clause-relayed : goal.returns-clause-relayed
returns-clause-relayed c = λ lanes capacity room fresh.
    relayed_from lanes capacity c.args.self.now c.round-2.new.self room fresh (returns-clause-after c)
