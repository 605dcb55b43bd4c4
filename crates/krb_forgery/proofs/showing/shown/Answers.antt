use Rattle.krb_forgery.proofs.ShownLemmas.{covers_has}
use Rattle.krb_forgery.proofs.showing.shown.Goals as goal

pub returns : goal.returns
returns c = covers_has c.args.opener.now c.args.frame.now c.in_ok-covered.covered c.in_ok-covered.ensures
