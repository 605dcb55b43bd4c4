use Rattle.krb_digests.proofs.compression.majority_rounds.Goals as goal

pub returns : goal.returns
returns c j b h lt held =
    let r41 = c.majority_step-v.ensures j b h lt held in
    let r42 = c.majority_step-v-2.ensures j b h lt r41 in
    let r43 = c.majority_step-v-3.ensures j b h lt r42 in
    let r44 = c.majority_step-v-4.ensures j b h lt r43 in
    let r45 = c.majority_step-v-5.ensures j b h lt r44 in
    let r46 = c.majority_step-v-6.ensures j b h lt r45 in
    let r47 = c.majority_step-v-7.ensures j b h lt r46 in
    let r48 = c.majority_step-v-8.ensures j b h lt r47 in
    let r49 = c.majority_step-v-9.ensures j b h lt r48 in
    let r50 = c.majority_step-v-10.ensures j b h lt r49 in
    let r51 = c.majority_step-v-11.ensures j b h lt r50 in
    let r52 = c.majority_step-v-12.ensures j b h lt r51 in
    let r53 = c.majority_step-v-13.ensures j b h lt r52 in
    let r54 = c.majority_step-v-14.ensures j b h lt r53 in
    let r55 = c.majority_step-v-15.ensures j b h lt r54 in
    let r56 = c.majority_step-v-16.ensures j b h lt r55 in
    let r57 = c.majority_step-v-17.ensures j b h lt r56 in
    let r58 = c.majority_step-v-18.ensures j b h lt r57 in
    let r59 = c.majority_step-v-19.ensures j b h lt r58 in
    c.majority_step.ensures j b h lt r59
