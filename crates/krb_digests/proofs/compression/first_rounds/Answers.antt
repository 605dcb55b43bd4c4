use Rattle.std.proofs.Common.{rules, refl, ◌∙◌}
use Rattle.sha1.specs.Sha1.{IsWindow, rounds, schedule}
use Rattle.sha1.proofs.Schedule.{IsWindow_first}
use Rattle.krb_digests.specs.Lanes.{lane}
use Rattle.krb_digests.proofs.LaneLemmas.{lane_long}
use Rattle.krb_digests.proofs.compression.first_rounds.Goals as goal

pub returns : goal.returns
unfolding rounds
returns c j b lt words =
    let h = lane j c.args.v in
    let window : IsWindow (lane j c.args.w.now) (schedule b 64) 16 = IsWindow_first b (lane j c.args.w.now) (lane_long c.args.w.now j ∙ search rules) words in
    let r1 = c.first_step-v.ensures j b h lt window refl in
    let r2 = c.first_step-v-2.ensures j b h lt window r1 in
    let r3 = c.first_step-v-3.ensures j b h lt window r2 in
    let r4 = c.first_step-v-4.ensures j b h lt window r3 in
    let r5 = c.first_step-v-5.ensures j b h lt window r4 in
    let r6 = c.first_step-v-6.ensures j b h lt window r5 in
    let r7 = c.first_step-v-7.ensures j b h lt window r6 in
    let r8 = c.first_step-v-8.ensures j b h lt window r7 in
    let r9 = c.first_step-v-9.ensures j b h lt window r8 in
    let r10 = c.first_step-v-10.ensures j b h lt window r9 in
    let r11 = c.first_step-v-11.ensures j b h lt window r10 in
    let r12 = c.first_step-v-12.ensures j b h lt window r11 in
    let r13 = c.first_step-v-13.ensures j b h lt window r12 in
    let r14 = c.first_step-v-14.ensures j b h lt window r13 in
    let r15 = c.first_step-v-15.ensures j b h lt window r14 in
    (window, c.first_step.ensures j b h lt window r15)
