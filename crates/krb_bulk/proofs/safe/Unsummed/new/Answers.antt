use Rattle.std.proofs.Common.{◌∙◌}
use Rattle.krb_bulk.proofs.SafeLemmas.{put_at}
use Rattle.krb_bulk.proofs.safe.Unsummed.new.Goals as goal

pub returns : goal.returns
returns c =
    let old = c.args.inputs.now in
    let new = c.put_checksum_input.new.bytes in
    λ b index lt h.
    put_at b index c.fields.result.now old.items new.items (record { draft = c.args.draft; start = c.len-start.result; end = c.len.result }) lt h c.fields.ensures
    c.in_ok-put_checksum_input.ensures.input (c.len-start.ensures ∙ old.ok.0) (c.len.ensures ∙ new.ok.0)
