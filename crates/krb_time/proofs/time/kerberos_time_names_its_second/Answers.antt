use Rattle.krb_time.proofs.Times.{text-named, named-text}
use Rattle.krb_time.proofs.time.kerberos_time_names_its_second.Goals as goal

pub returns : goal.returns
returns c = λ s text. (λ h. text-named s text h, named-text s text)
