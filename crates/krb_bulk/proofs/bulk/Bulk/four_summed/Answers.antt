use Rattle.krb_bulk.proofs.SafeLemmas.{safe_at}
use Rattle.krb_bulk.proofs.bulk.Bulk.four_summed.Goals as goal

pub returns : goal.returns
returns c =
    let b = c.args.self.now in
    let p = c.args.messages in
    let h = c.requires.messages in
    let s = c.requires.sums in
    record {
      a = safe_at b _ p.a _ _ c.requires.mode h.a s.a c.in_ok-summed.ensures;
      b = safe_at b _ p.b _ _ c.requires.mode h.b s.b c.in_ok-summed-2.ensures;
      c = safe_at b _ p.c _ _ c.requires.mode h.c s.c c.in_ok-summed-3.ensures;
      d = safe_at b _ p.d _ _ c.requires.mode h.d s.d c.in_ok-summed-4.ensures;
    }
