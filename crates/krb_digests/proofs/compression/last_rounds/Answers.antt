use Rattle.krb_digests.proofs.compression.last_rounds.Goals as goal

pub returns : goal.returns
returns c j b h lt held =
    let r61 = c.last_step-v.ensures j b h lt held in
    let r62 = c.last_step-v-2.ensures j b h lt r61 in
    let r63 = c.last_step-v-3.ensures j b h lt r62 in
    let r64 = c.last_step-v-4.ensures j b h lt r63 in
    let r65 = c.last_step-v-5.ensures j b h lt r64 in
    let r66 = c.last_step-v-6.ensures j b h lt r65 in
    let r67 = c.last_step-v-7.ensures j b h lt r66 in
    let r68 = c.last_step-v-8.ensures j b h lt r67 in
    let r69 = c.last_step-v-9.ensures j b h lt r68 in
    let r70 = c.last_step-v-10.ensures j b h lt r69 in
    let r71 = c.last_step-v-11.ensures j b h lt r70 in
    let r72 = c.last_step-v-12.ensures j b h lt r71 in
    let r73 = c.last_step-v-13.ensures j b h lt r72 in
    let r74 = c.last_step-v-14.ensures j b h lt r73 in
    let r75 = c.last_step-v-15.ensures j b h lt r74 in
    let r76 = c.last_step-v-16.ensures j b h lt r75 in
    let r77 = c.last_step-v-17.ensures j b h lt r76 in
    let r78 = c.last_step-v-18.ensures j b h lt r77 in
    let r79 = c.last_step-v-19.ensures j b h lt r78 in
    c.last_step.ensures j b h lt r79
