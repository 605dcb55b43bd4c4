use Rattle.krb_etype.proofs.keys.Keys.tag.Goals as goal

pub returns : goal.returns
returns c = c.tag.ensures c.args.self.now.end c.args.self.now.key c.private.ensures
