use Rattle.std.proofs.Common.{ap, ◌∙◌}
use Rattle.sha1.specs.Sha1.{add_state, compress}
use Rattle.krb_digests.specs.Lanes.{lane, message}
use Rattle.krb_digests.proofs.compression.compress.Goals as goal

pub returns : goal.returns
unfolding compress
returns c j h =
    let b = message j c.args.blocks.now in
    let s = lane j c.args.state.now in
    let first = c.first_rounds-first.ensures j b h (λ k lt. c.words_of-w.ensures.words j k h lt) in
    let chosen = c.chosen_rounds-chosen.ensures j b s h first in
    let parities = c.parity_rounds-parities.ensures j b s h chosen in
    let majorities = c.majority_rounds-majorities.ensures j b s h parities in
    let last = c.last_rounds-last.ensures j b s h majorities in
    c.add_state.ensures j h ∙ ap (add_state s) last.1
