use Rattle.krb_bulk.proofs.BulkLemmas.{long_from, private_at}
use Rattle.krb_bulk.proofs.bulk.Bulk.four_sealed.Goals as goal

pub enciphered-a-requires-clause-long : goal.enciphered-a-requires-clause-long
enciphered-a-requires-clause-long c = long_from c.args.self.now c.args.from c.args.plain c.requires.from c.requires.plain

pub returns : goal.returns
returns c =
    let b = c.args.self.now in
    let p = c.args.plain in
    let f = c.requires.plain in
    let e = c.enciphered-a.ensures in
    let t = c.requires.tags in
    record {
      a = private_at b _ p.a _ _ _ c.requires.mode f.a e.a t.a c.in_ok-with_tag.ensures;
      b = private_at b _ p.b _ _ _ c.requires.mode f.b e.b t.b c.in_ok-with_tag-2.ensures;
      c = private_at b _ p.c _ _ _ c.requires.mode f.c e.c t.c c.in_ok-with_tag-3.ensures;
      d = private_at b _ p.d _ _ _ c.requires.mode f.d e.d t.d c.in_ok-with_tag-4.ensures;
    }
