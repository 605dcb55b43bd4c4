use Rattle.std.proofs.Common.{ℕ, List, arith}
use Rattle.std.specs.Prelude.{All}
use Rattle.krb_record.specs.declared.record.Record.{Record}
use Rattle.krb_seal.specs.Sealer.{SealerState}
use Rattle.krb_carry.specs.Progress.{Happening, IsTruthful, StandInTurn, resumed, after_all}
use Rattle.krb_carry.specs.Shard.{Item}
use Rattle.krb_carry.proofs.ProgressLemmas.{none_stand, turn_after_all, inside_after_all}
use Rattle.krb_carry.proofs.PublishedLemmas.{published_again}
use Rattle.krb_carry.proofs.ReadingLemmas.{read_none, read_all, has_past, all_accepted, after_whole, less_is_enough, less_from, readings_attempts}
use Rattle.krb_carry.proofs.StoreLemmas.{first_take_effect, receipt_stays}
use Rattle.krb_carry.proofs.progress.progress_laws.Goals as goal

turn_of : (sealer : SealerState) (records : List Record) (session : ℕ) (shard : List Item) (next done : ℕ) (happenings : List Happening) → All (IsTruthful sealer records session shard) happenings
    → StandInTurn sealer records session shard done (after_all (resumed next done 0) happenings)
turn_of sealer records session shard next done happenings are =
    turn_after_all sealer records session shard done (resumed next done 0) happenings (none_stand sealer records session shard done next) are

pub returns : goal.returns
returns c = record {
  in_turn = turn_of;
  inside = λ sealer records session shard next done happenings are.
      inside_after_all sealer records session shard done (resumed next done 0) happenings (omega arith) are;
  accepted = λ sealer records session shard next done happenings true_ attempts then readings stored are fits tries lead receipt each leads at.
      let turn = turn_of sealer records session shard next done happenings true_ in
      let progress = after_all (resumed next done 0) happenings in
      let begun = read_none sealer records are fits session shard done progress turn then (first_take_effect sealer records are attempts then tries lead) receipt in
      has_past sealer records are fits session shard done progress turn stored
      (read_all sealer records are fits session shard done progress turn (record { offset = 0; session = then }) readings stored begun each leads) at;
  whole = λ sealer records session shard next done happenings true_ attempts then readings stored are fits tries lead receipt each leads at whole.
      let turn = turn_of sealer records session shard next done happenings true_ in
      let progress = after_all (resumed next done 0) happenings in
      let begun = read_none sealer records are fits session shard done progress turn then (first_take_effect sealer records are attempts then tries lead) receipt in
      let read = read_all sealer records are fits session shard done progress turn (record { offset = 0; session = then }) readings stored begun each leads in
      after_whole sealer records stored.session (all_accepted sealer records are fits session shard done progress turn stored read at whole);
  again = published_again;
  less = less_is_enough;
  less_from = less_from;
  attempts = readings_attempts;
  receipts = receipt_stays;
}
