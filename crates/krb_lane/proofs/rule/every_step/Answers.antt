use Rattle.std.proofs.Common.{ℕ, ◌<◌, ◌^◌, subst}
use Rattle.krb_lane.specs.declared.item.Item.TheVariants.{Frame, End}
use Rattle.krb_lane.proofs.Steps.{made, cut_step, sent_step, taken_step, after_end, refused_step, met_step}
use Rattle.krb_lane.proofs.rule.every_step.Goals as goal

pub returns : goal.returns
returns c = record {
  make = made;
  cut = cut_step;
  send_frame = λ queue views pass v i b h at may room unended is few. sent_step queue views pass v (Frame i b) h at may room unended (is, subst (λ (n : ℕ). n < 2 ^ 63) is few);
  send_end = λ queue views pass v h at may room unended. sent_step queue views pass v End h at may room unended tt;
  take_frame = λ queue views pass v i b h at may. let t = taken_step queue views pass v (Frame i b) h at may in (t.0, t.1.0);
  take_end = λ queue views pass v h at may. ((taken_step queue views pass v End h at may).0, after_end queue views h);
  refused = refused_step;
  meet = met_step;
}
