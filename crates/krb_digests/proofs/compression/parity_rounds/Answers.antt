use Rattle.krb_digests.proofs.compression.parity_rounds.Goals as goal

pub returns : goal.returns
returns c j b h lt held =
    let r21 = c.parity_step-v.ensures j b h lt held in
    let r22 = c.parity_step-v-2.ensures j b h lt r21 in
    let r23 = c.parity_step-v-3.ensures j b h lt r22 in
    let r24 = c.parity_step-v-4.ensures j b h lt r23 in
    let r25 = c.parity_step-v-5.ensures j b h lt r24 in
    let r26 = c.parity_step-v-6.ensures j b h lt r25 in
    let r27 = c.parity_step-v-7.ensures j b h lt r26 in
    let r28 = c.parity_step-v-8.ensures j b h lt r27 in
    let r29 = c.parity_step-v-9.ensures j b h lt r28 in
    let r30 = c.parity_step-v-10.ensures j b h lt r29 in
    let r31 = c.parity_step-v-11.ensures j b h lt r30 in
    let r32 = c.parity_step-v-12.ensures j b h lt r31 in
    let r33 = c.parity_step-v-13.ensures j b h lt r32 in
    let r34 = c.parity_step-v-14.ensures j b h lt r33 in
    let r35 = c.parity_step-v-15.ensures j b h lt r34 in
    let r36 = c.parity_step-v-16.ensures j b h lt r35 in
    let r37 = c.parity_step-v-17.ensures j b h lt r36 in
    let r38 = c.parity_step-v-18.ensures j b h lt r37 in
    let r39 = c.parity_step-v-19.ensures j b h lt r38 in
    c.parity_step.ensures j b h lt r39
