use Rattle.krb_digests.proofs.compression.chosen_rounds.Goals as goal

pub returns : goal.returns
returns c j b h lt held =
    let r17 = c.choose_step-v.ensures j b h lt held in
    let r18 = c.choose_step-v-2.ensures j b h lt r17 in
    let r19 = c.choose_step-v-3.ensures j b h lt r18 in
    c.choose_step.ensures j b h lt r19
